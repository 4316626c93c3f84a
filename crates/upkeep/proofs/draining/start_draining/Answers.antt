-- The state, the pages and the list are changed as the rule says.
use Rattle.std.proofs.Common.{set, ap, ◌∙◌, arith}
use Rattle.table.specs.Held.{held}
use Rattle.rules.specs.Books.{books}
use Rattle.ledger.specs.Ledgers.{books_of}
use Rattle.ledger.specs.States.{states_of}
use Rattle.ledger.proofs.SegmentStates.{rewritten, still_reached}
use Rattle.upkeep.proofs.Reached.{inactive_placed, listed_room}
use Rattle.upkeep.proofs.draining.start_draining.Goals as goal

pub take_out-requires : goal.take_out-requires
take_out-requires c = (inactive_placed c.args.n (books_of c.args.ledger.now) c.requires.kept c.requires.inactive).reached

pub write-requires : goal.write-requires
write-requires c = still_reached (states_of c.args.ledger.now.segments) _ c.args.n _ c.take_out.ensures.states (inactive_placed c.args.n (books_of c.args.ledger.now) c.requires.kept c.requires.inactive).reached

pub overflow_mul-n : goal.overflow_mul-n
overflow_mul-n c = let f = (inactive_placed c.args.n (books_of c.args.ledger.now) c.requires.kept c.requires.inactive).fits in omega arith

pub put-requires : goal.put-requires
put-requires c =
    let r = listed_room c.args.n (books_of c.args.ledger.now) c.requires.kept c.requires.inactive in
    (omega arith, omega arith)

pub returns : goal.returns
returns c i e =
    let l = c.args.ledger.now in
    let segments = rewritten (states_of l.segments) _ _ c.args.n _ _ c.take_out.ensures.states c.write.ensures.states in
    let state = c.drain_segment-segment.ensures i (c.take_out.ensures.state ∙ e) in
    λ j. books l.segment_size ((segments ∙ ap (set (states_of l.segments) c.args.n) state) j) l.tip l.max_stabilized_lsn (held l.free) (held l.ordering) (c.queue_all.ensures j) (held l.blobs) (held l.freeable) (c.put.ensures j) (held l.faults)
