-- The segment gets its bytes and the page its row, and nothing else changes.
use Rattle.ledger.specs.States.{states_of}
use Rattle.ledger.proofs.SegmentStates.{rewritten}
use Rattle.ledger.proofs.ledger.Ledger.link_at.Goals as goal

pub returns : goal.returns
returns c =
    let segments = rewritten (states_of c.args.self.now.segments) _ _ c.args.n _ _ c.take_out.ensures.states c.write.ensures.states in
    cc
