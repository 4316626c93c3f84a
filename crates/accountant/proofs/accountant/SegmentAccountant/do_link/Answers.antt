-- A started accountant has books that keep all, before and after, and what link gives it gives over every host.
use Rattle.std.proofs.Common.{Some, ap}
use Rattle.rules.specs.Runs.{Link}
use Rattle.orders.proofs.Runs.{call_keeps}
use Rattle.orders.proofs.ShareSteps.{share_steps, share_beginning}
use Rattle.ledger.specs.Ledgers.{books_of}
use Rattle.replacing.specs.Silent.{silent, nothing}
use Rattle.replacing.proofs.Anywhere.{link_anywhere}
use Rattle.accountant.proofs.Keeping.{taken_out, still_kept}
use Rattle.accountant.proofs.accountant.SegmentAccountant.do_link.Goals as goal

pub link-requires : goal.link-requires
link-requires g c = record { kept = taken_out _ (books_of c.args.self.now.world.ledger) c.if-not-self.false c.args.self.now.kept }

pub invariant_of-self : goal.invariant_of-self
invariant_of-self g c =
    let b = books_of c.args.self.now.world.ledger in
    record { kept = still_kept _ b _ _ c.if-not-self.false c.args.self.now.kept (ap (λ o. o.1) c.link.ensures) (call_keeps silent nothing nothing share_steps share_beginning (Link c.args.page c.args.info.now) (Some b) tt) }

pub returns : goal.returns
returns g c = rw c.if-not-self.false (link_anywhere g.H.Host.respond g.H.Host.slot g.H.Host.extent (g.H.Host.model c.args.self.now.world.host) c.args.page c.args.info.now (books_of c.args.self.now.world.ledger) c.link.result _ c.link.ensures)
