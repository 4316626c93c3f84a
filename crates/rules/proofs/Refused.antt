-- Each run is computed.
use Rattle.std.proofs.Common.{refl}
use lib.Count.{ones}
use Rattle.rules.specs.Runs.{run_from}
use Rattle.rules.specs.Freeing.{cut_tail}
use Rattle.rules.specs.Cleaning.{cleaned}
use Rattle.rules.specs.Replacing.{visited}
use Rattle.rules.specs.Stabilizing.{release_all, deactivated, deactivate_all}
use Rattle.rules.specs.Starting.{free_all}
use Rattle.rules.specs.Refused.{ComesOut, links_refused, row_too_large, rows_too_many, RefusalsComeInOrder}

links_come_out : ComesOut links_refused
unfolding run_from cut_tail cleaned visited free_all ones
links_come_out = refl

row_comes_out : ComesOut row_too_large
unfolding run_from free_all ones
row_comes_out = refl

rows_come_out : ComesOut rows_too_many
unfolding run_from free_all ones
rows_come_out = refl

pub refusals_come_in_order : RefusalsComeInOrder
unfolding run_from cut_tail cleaned visited release_all deactivated deactivate_all free_all ones
refusals_come_in_order = (links_come_out, (row_comes_out, (rows_come_out, (refl, (refl, (refl, (refl, (refl, (refl, (refl, (refl, (refl, (refl, tt)))))))))))))
