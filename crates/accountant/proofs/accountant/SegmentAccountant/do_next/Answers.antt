-- A started accountant has books that keep all, before and after.
use Rattle.std.proofs.Common.{Some, sym, ap, w64, to_z, of_z}
use Rattle.orders.proofs.HandsOut.{next_keeps}
use Rattle.orders.proofs.ShareSteps.{share_steps}
use Rattle.ledger.specs.Ledgers.{books_of}
use Rattle.accountant.proofs.Keeping.{taken_out, still_kept}
use Rattle.accountant.proofs.accountant.SegmentAccountant.do_next.Goals as goal

pub next_at-requires-clause-kept : goal.next_at-requires-clause-kept
next_at-requires-clause-kept g c = taken_out _ (books_of c.args.self.now.world.ledger) c.if-not-self.false c.args.self.now.kept

pub invariant_of-self : goal.invariant_of-self
invariant_of-self g c =
    let b = books_of c.args.self.now.world.ledger in
    record { kept = still_kept _ b _ _ c.if-not-self.false c.args.self.now.kept (ap (λ o. Some o.1) c.next_at.ensures) (next_keeps share_steps (to_z w64 (of_z w64 c.args.lsn)) b (sym c.if-out_of_range.ensures)) }
