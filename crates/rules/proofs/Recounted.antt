-- Each is computed.
use Rattle.std.proofs.Common.{refl}
use lib.Count.{ones}
use Rattle.rules.specs.Freeing.{cut_tail}
use Rattle.rules.specs.Cleaning.{cleaned}
use Rattle.rules.specs.Replacing.{visited}
use Rattle.rules.specs.Stabilizing.{release_all, deactivated, deactivate_all}
use Rattle.rules.specs.Starting.{free_all}
use Rattle.rules.specs.Safety.{after_calls}
use Rattle.rules.specs.Recounted.{RecountOfWorkedRuns}

pub recount_of_worked_runs : RecountOfWorkedRuns
unfolding after_calls cut_tail cleaned visited release_all deactivated deactivate_all free_all ones
recount_of_worked_runs = record {
  bytes_left = refl;
  bytes_there = refl;
  page_left = refl;
  page_there = refl;
  base_noted = refl;
  nothing_stored = refl;
  held_back = refl;
  first_stored = refl;
  released = refl;
  second_stored = refl;
  noted_no_more = refl;
  new_lsn = refl;
}
