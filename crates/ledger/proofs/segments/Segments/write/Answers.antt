-- The states with one written over are those of the segments with one written over.
use Rattle.std.proofs.Common.{arith}
use Rattle.std.proofs.lemmas.Grind.{common_steps}
use Rattle.std.proofs.lemmas.List.{map-set}
use Rattle.ledger.proofs.segments.Segments.write.Goals as goal

pub returns-clause-states : goal.returns-clause-states
returns-clause-states c = grind (arith, common_steps, map-set)
