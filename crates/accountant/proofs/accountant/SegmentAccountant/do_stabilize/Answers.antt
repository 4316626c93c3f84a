-- A started accountant has books that keep all, before and after.
use Rattle.std.proofs.Common.{Some, sym, ap, w64, to_z, of_z}
use Rattle.orders.proofs.ShareSteps.{share_steps}
use Rattle.orders.proofs.Stabilizes.{stabilized_keeps}
use Rattle.ledger.specs.Ledgers.{books_of}
use Rattle.upkeep.specs.Worlds.{seen}
use Rattle.accountant.proofs.Keeping.{taken_out, still_kept}
use Rattle.accountant.proofs.accountant.SegmentAccountant.do_stabilize.Goals as goal

pub stabilize-requires-clause-kept : goal.stabilize-requires-clause-kept
stabilize-requires-clause-kept g c = taken_out _ (books_of c.args.self.now.world.ledger) c.if-not-self.false c.args.self.now.kept

pub invariant_of-self : goal.invariant_of-self
invariant_of-self g c =
    let w = seen g.H.Host.model c.args.self.now.world in
    record { kept = still_kept _ w.books _ _ c.if-not-self.false c.args.self.now.kept (ap (λ o. Some o.1.books) c.stabilize.ensures) (stabilized_keeps g.H.Host.respond share_steps (to_z w64 (of_z w64 c.args.lsn)) w (sym c.if-is_outside.ensures)) }
