-- A started accountant has books that keep all, before and after.
use Rattle.std.proofs.Common.{Some, ap, w64, to_z, of_z}
use Rattle.rules.specs.Runs.{Replace}
use Rattle.orders.proofs.Runs.{call_keeps}
use Rattle.orders.proofs.ShareSteps.{share_steps, share_beginning}
use Rattle.ledger.specs.Ledgers.{books_of}
use Rattle.accountant.proofs.Keeping.{taken_out, still_kept}
use Rattle.accountant.proofs.accountant.SegmentAccountant.do_replace.Goals as goal

pub replace-requires : goal.replace-requires
replace-requires g c = record { kept = taken_out _ (books_of c.args.self.now.world.ledger) c.if-not-self.false c.args.self.now.kept }

pub invariant_of-self : goal.invariant_of-self
invariant_of-self g c =
    let b = books_of c.args.self.now.world.ledger in
    record { kept = still_kept _ b _ _ c.if-not-self.false c.args.self.now.kept (ap (λ o. o.1) c.replace.ensures) (call_keeps g.H.Host.respond g.H.Host.slot g.H.Host.extent share_steps share_beginning (Replace c.args.page (to_z w64 (of_z w64 c.args.lsn)) c.args.old.now c.args.new.now) (Some b) (g.H.Host.model c.args.self.now.world.host)) }
