-- What is left of the old entries gives the rows up, and there is room.
use Rattle.table.specs.Held.{held}
use Rattle.entries.proofs.Gives.{Given}
use Rattle.entries.proofs.spare.SpareBlobs.give_up.Given as goal

abbrev pub invariant-loop-old : goal.invariant-loop-old
invariant-loop-old l = Given l.n l.keep l.olds (held l.initial.self.rows) l.old-index (held l.self.rows)
