-- There is room for one row more.
use Rattle.std.proofs.Common.{arith}
use Rattle.entries.specs.SumKeys.{sum_key}
use Rattle.entries.proofs.Lengths.{length_insert}
use Rattle.entries.proofs.sums.Sums.add.Goals as goal
use Rattle.std.specs.Ordering.{nat_cmp}

pub put-requires : goal.put-requires
put-requires c = (omega arith, omega (arith, length_insert sum_key nat_cmp))
