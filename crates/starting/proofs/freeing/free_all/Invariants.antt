-- The segments that are left give what all give from the entry on; the books keep what a start keeps so far, and the states are those at the entry.
use Rattle.std.proofs.Common.{◌≡◌, drop}
use Rattle.rules.specs.Starting.{free_all}
use Rattle.ledger.specs.Ledgers.{books_of}
use Rattle.upkeep.specs.Worlds.{seen}
use Rattle.starting.proofs.Frees.{Kept}
use Rattle.starting.proofs.freeing.free_all.Given as goal

abbrev pub invariant-loop-n : goal.invariant-loop-n
invariant-loop-n g l =
    Kept g.H.Host.respond (books_of l.initial.world.ledger).segments l.n (books_of l.world.ledger)
    × (free_all g.H.Host.respond l.n (drop l.n (books_of l.initial.world.ledger).segments) (seen g.H.Host.model l.world) ≡ free_all g.H.Host.respond 0 (books_of l.initial.world.ledger).segments (seen g.H.Host.model l.initial.world))
