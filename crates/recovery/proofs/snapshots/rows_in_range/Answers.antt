-- The walk over the rows, by the test of one.
use Rattle.std.proofs.Common.{rules, tests, ◌∙◌}
use Rattle.std.proofs.lemmas.Iterator.{YieldsList-from_slice}
use Rattle.std.proofs.lemmas.Iterator.Search.{all_from_yields_List}
use Rattle.segment.proofs.Walks.{all_is_every}
use Rattle.recovery.specs.Plans.{in_range}
use Rattle.recovery.proofs.snapshots.rows_in_range.Goals as goal

pub returns : goal.returns
returns c =
    all_from_yields_List in_range _ _ _ c.all.ensures.ran (YieldsList-from_slice c.args.rows.now (cc)) (λ x b q k. search (rules, tests))
    ∙ all_is_every in_range c.args.rows.now
