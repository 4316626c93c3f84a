-- What is left to release from here is what was to be released at the entry.
use Rattle.std.proofs.Common.{◌≡◌, length}
use Rattle.rules.specs.Stabilizing.{held_back_by, release_all}
use Rattle.orders.specs.Share.{Shared}
use Rattle.ledger.specs.Ledgers.{books_of}
use Rattle.upkeep.specs.Worlds.{seen}
use Rattle.upkeep.proofs.world.World.release_all.Given as goal

abbrev pub invariant-loop-row : goal.invariant-loop-row
invariant-loop-row g l = Shared (books_of l.self.ledger) × (release_all g.H.Host.respond (held_back_by l.n (books_of l.self.ledger).freeable) (seen g.H.Host.model l.self) ≡ release_all g.H.Host.respond (held_back_by l.n (books_of l.initial.self.ledger).freeable) (seen g.H.Host.model l.initial.self))

abbrev pub decreases-loop-row : goal.decreases-loop-row
decreases-loop-row g l = length (held_back_by l.n (books_of l.self.ledger).freeable)
