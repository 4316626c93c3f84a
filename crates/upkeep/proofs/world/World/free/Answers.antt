-- Books that keep their bounds have room for what is freed.
use Rattle.ledger.specs.Ledgers.{books_of}
use Rattle.upkeep.proofs.Cuts.{free_room}
use Rattle.upkeep.proofs.world.World.free.Goals as goal

pub put_free-requires-clause-room : goal.put_free-requires-clause-room
put_free-requires-clause-room g c = free_room c.args.n (books_of c.args.self.now.ledger) c.requires.kept
