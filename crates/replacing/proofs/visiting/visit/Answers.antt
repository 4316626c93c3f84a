-- What is taken away keeps what the books keep, so that the segment may be cleaned.
use Rattle.std.proofs.Common.{w64}
use Rattle.std.proofs.lemmas.Int.{to_z-of_z}
use Rattle.rules.specs.Books.{world}
use Rattle.rules.specs.Cleaning.{cleaned}
use Rattle.ledger.specs.Ledgers.{books_of}
use Rattle.replacing.proofs.Visits.{taken_keeps}
use Rattle.replacing.proofs.visiting.visit.Goals as goal

pub clean-requires : goal.clean-requires
clean-requires g c = taken_keeps (books_of c.args.world.now.ledger) _ c.args.sum.now.segment c.args.page c.args.base _ c.args.sum.now.size (to_z-of_z w64 c.args.base c.ranges.base) c.take_at.ensures c.requires.range c.requires.passes c.requires.kept
