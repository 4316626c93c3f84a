-- The books of a world, and its host as those above see it.
use Rattle.rules.specs.Books.{World, world}
use Rattle.ledger.specs.Ledgers.{books_of}
use Rattle.upkeep.specs.declared.world.World.{World as Holding}

abbrev pub seen : {H M : Type 0} → (H → M) → Holding H → World M
seen model w = world (books_of w.ledger) (model w.host)
