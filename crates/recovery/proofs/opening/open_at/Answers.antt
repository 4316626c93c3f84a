-- The segment that was moved out comes back open.
use Rattle.std.proofs.Common.{w64}
use Rattle.std.proofs.lemmas.Int.{to_z-of_z}
use Rattle.ledger.specs.States.{states_of}
use Rattle.ledger.proofs.SegmentStates.{rewritten}
use Rattle.recovery.proofs.opening.open_at.Goals as goal

pub returns : goal.returns
returns c =
    let z = to_z-of_z w64 c.args.base c.ranges.base in
    let segments = rewritten (states_of c.args.segments.now) _ _ c.args.n _ _ c.take_out-segment.ensures.states c.write.ensures.states in
    cc
