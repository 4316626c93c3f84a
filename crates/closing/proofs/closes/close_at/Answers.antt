-- The segment is moved out and written back: that sets its state, and nothing else.
use Rattle.std.proofs.Common.{◌∙◌, arith}
use Rattle.table.specs.Held.{held}
use Rattle.rules.specs.Pages.{rows_of}
use Rattle.orders.proofs.Every.{kept_most}
use Rattle.ledger.specs.States.{states_of}
use Rattle.ledger.proofs.SegmentStates.{rewritten}
use Rattle.closing.proofs.closes.close_at.Goals as goal

pub shut-requires : goal.shut-requires
shut-requires c = let m = kept_most (λ row. row.left) (rows_of c.args.n (held c.args.ledger.now.pages)) in omega arith

pub returns : goal.returns
returns c a e =
    let segments = rewritten (states_of c.args.ledger.now.segments) _ _ c.args.n _ _ c.take_out-segment.ensures.states c.write.ensures.states in
    let state = c.shut.ensures a (c.take_out-segment.ensures.state ∙ e) in
    cc
