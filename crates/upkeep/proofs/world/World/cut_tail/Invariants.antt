-- What is left to cut from here is what was to be cut at the entry; each cut takes one from the free list.
use Rattle.std.proofs.Common.{◌≡◌, length}
use Rattle.rules.specs.Freeing.{cut_tail}
use Rattle.orders.specs.Within.{KeptWithin}
use Rattle.ledger.specs.Ledgers.{books_of}
use Rattle.upkeep.specs.Worlds.{seen}
use Rattle.upkeep.proofs.world.World.cut_tail.Given as goal

abbrev pub invariant-loop-self : goal.invariant-loop-self
invariant-loop-self g l = KeptWithin (books_of l.self.ledger) × (cut_tail g.H.Host.respond (length (books_of l.self.ledger).free) (seen g.H.Host.model l.self) ≡ cut_tail g.H.Host.respond (length (books_of l.initial.self.ledger).free) (seen g.H.Host.model l.initial.self))

abbrev pub decreases-loop-self : goal.decreases-loop-self
decreases-loop-self g l = length (books_of l.self.ledger).free
