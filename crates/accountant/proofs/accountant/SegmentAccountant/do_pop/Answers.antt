-- A started accountant has books that keep all, before and after.
use Rattle.std.proofs.Common.{Some, ap}
use Rattle.orders.proofs.HandsOut.{popped_keeps}
use Rattle.orders.proofs.ShareSteps.{share_steps}
use Rattle.ledger.specs.Ledgers.{books_of}
use Rattle.accountant.proofs.Keeping.{taken_out, still_kept}
use Rattle.accountant.proofs.accountant.SegmentAccountant.do_pop.Goals as goal

pub pop_page-requires : goal.pop_page-requires
pop_page-requires g c = (taken_out _ (books_of c.args.self.now.world.ledger) c.if-not-self.false c.args.self.now.kept).whole.counting.within

pub invariant_of-self : goal.invariant_of-self
invariant_of-self g c =
    let b = books_of c.args.self.now.world.ledger in
    record { kept = still_kept _ b _ _ c.if-not-self.false c.args.self.now.kept (ap (λ o. Some o.1) c.pop_page.ensures) (popped_keeps share_steps b) }
