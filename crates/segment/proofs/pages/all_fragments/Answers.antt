-- The walk over the rows, by the test of one.
use Rattle.std.proofs.Common.{rules, tests, nat_eq, ◌∙◌}
use Rattle.std.proofs.lemmas.Iterator.{YieldsList-from_slice}
use Rattle.std.proofs.lemmas.Iterator.Search.{all_from_yields_List}
use Rattle.segment.specs.declared.snapshot.SnapshotRow.{SnapshotRow}
use Rattle.segment.proofs.Walks.{all_is_every}
use Rattle.segment.proofs.pages.all_fragments.Goals as goal

pub returns : goal.returns
returns c =
    all_from_yields_List (λ (row : SnapshotRow). nat_eq row.kind 1) _ _ _ c.all.ensures.ran (YieldsList-from_slice c.args.rows.now (cc)) (λ x b q k. search (rules, tests))
    ∙ all_is_every (λ (row : SnapshotRow). nat_eq row.kind 1) c.args.rows.now
