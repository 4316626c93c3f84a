-- Draining keeps what the books keep, and then the segment may be freed.
use Rattle.std.proofs.Common.{sym, ap, ◌∙◌, subst}
use Rattle.rules.specs.Books.{world}
use Rattle.rules.specs.Cleaning.{free_if_left, cleaned}
use Rattle.orders.specs.Share.{Shared}
use Rattle.orders.proofs.Cleans.{drain_keeps}
use Rattle.orders.proofs.ShareSteps.{share_steps}
use Rattle.ledger.specs.Ledgers.{books_of}
use Rattle.upkeep.proofs.world.World.clean.Goals as goal

pub free_if_left-requires : goal.free_if_left-requires
free_if_left-requires g c = subst Shared (sym c.drain_if_empty.ensures) (drain_keeps g.H.Host.respond share_steps c.args.n (books_of c.args.self.now.ledger) c.requires)

pub returns : goal.returns
unfolding cleaned
returns g c = c.free_if_left.ensures ∙ ap (λ d. free_if_left g.H.Host.respond c.args.n (world d (g.H.Host.model c.args.self.now.host))) c.drain_if_empty.ensures
