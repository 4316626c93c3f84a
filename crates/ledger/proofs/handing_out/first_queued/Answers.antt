-- The first of the segment's rows that is queued is found.
use Rattle.std.proofs.Common.{◌≡◌, rules, tests, filter, ap, ◌∙◌}
use Rattle.std.specs.List.{find}
use Rattle.std.proofs.lemmas.Iterator.{YieldsList-from_slice}
use Rattle.std.proofs.lemmas.Iterator.Search.{find_from_yields_List}
use Rattle.table.specs.Rows.{first_of}
use Rattle.segment.specs.declared.rows.PageRow.{PageRow}
use Rattle.ledger.proofs.Walks.{find_is_first}
use Rattle.ledger.proofs.handing_out.first_queued.Goals as goal

pub returns : goal.returns
returns c =
    let queued = λ (row : PageRow). row.queued in
    let rows = c.of_first.result.now in
    let found : c.copied.result ≡ find queued rows =
    c.copied.ensures ∙ find_from_yields_List queued _ _ c.find.result c.find.ensures.ran (YieldsList-from_slice rows (cc)) (λ x b q k. search (rules, tests)) in
    found ∙ find_is_first queued rows ∙ ap (λ l. first_of (filter queued l)) c.of_first.ensures
