-- The segment is moved out, emptied and written back.
use Rattle.std.proofs.Common.{set, ap, ◌∙◌, w64, SFits, rules}
use Rattle.std.proofs.lemmas.Int.{to_z-of_z}
use Rattle.table.specs.Held.{held}
use Rattle.rules.specs.Books.{books}
use Rattle.ledger.specs.States.{states_of}
use Rattle.ledger.proofs.SegmentStates.{rewritten}
use Rattle.upkeep.proofs.draining.empty.Goals as goal

pub returns : goal.returns
returns c d e =
    let l = c.args.ledger.now in
    let segments = rewritten (states_of l.segments) _ _ c.args.n _ _ c.take_out.ensures.states c.write.ensures.states in
    let fits : SFits w64 c.empty_segment-lsn.result.1 = search rules in
    let x = c.empty_segment-lsn.ensures d (c.take_out.ensures.state ∙ e) in
    (λ j. books l.segment_size ((segments ∙ ap (set (states_of l.segments) c.args.n) x.0) j) l.tip l.max_stabilized_lsn (held l.free) (held l.ordering) (held l.pages) (held l.blobs) (held l.freeable) (held l.listed) (held l.faults), to_z-of_z w64 c.empty_segment-lsn.result.1 fits ∙ x.1)
