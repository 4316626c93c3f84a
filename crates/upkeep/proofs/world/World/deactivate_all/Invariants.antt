-- What is left to deactivate from here is what was to be deactivated at the entry.
use Rattle.std.proofs.Common.{◌≡◌, drop}
use Rattle.rules.specs.Stabilizing.{deactivate_all}
use Rattle.orders.specs.Share.{Shared}
use Rattle.ledger.specs.Ledgers.{books_of}
use Rattle.upkeep.specs.Worlds.{seen}
use Rattle.upkeep.proofs.world.World.deactivate_all.Given as goal

abbrev pub invariant-loop-row : goal.invariant-loop-row
invariant-loop-row g l = Shared (books_of l.self.ledger) × (deactivate_all g.H.Host.respond (drop l.row-index l.rows) (seen g.H.Host.model l.self) ≡ deactivate_all g.H.Host.respond l.rows (seen g.H.Host.model l.initial.self))
