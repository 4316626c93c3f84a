-- The row of the page is there already.
use Rattle.std.proofs.Common.{sym, ◌∙◌, arith}
use Rattle.table.specs.Held.{held}
use Rattle.ledger.proofs.Queueing.{unqueued_room}
use Rattle.ledger.proofs.ledger.Ledger.pop_from.Goals as goal

pub put-requires : goal.put-requires
put-requires c =
    let pages = c.args.self.now.pages in
    (omega arith, unqueued_room c.segment_id.result 2048 (held pages) c.in-Some.row pages.up (sym c.first_queued.ensures ∙ c.in-Some.is) pages.few)
