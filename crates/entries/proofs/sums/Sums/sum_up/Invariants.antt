-- What is left of the old entries gives the sums.
use Rattle.table.specs.Held.{held}
use Rattle.ledger.specs.Ledgers.{books_of}
use Rattle.entries.proofs.Summing.{Summed}
use Rattle.entries.proofs.sums.Sums.sum_up.Given as goal

abbrev pub invariant-loop-old : goal.invariant-loop-old
invariant-loop-old l = Summed (books_of l.ledger) l.olds l.old-index (held l.self.rows)
