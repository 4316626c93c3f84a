-- Of the rows read so far each blob is a signed number of 64 bits.
use Rattle.std.proofs.Common.{◌≡◌, true, take}
use Rattle.std.specs.Ordering.{int_cmp}
use Rattle.table.specs.Ranges.{floored, least_signed}
use Rattle.segment.specs.Rows.{blob_key}
use Rattle.ledger.proofs.floors.are_floored.Given as goal

abbrev pub invariant-loop-row : goal.invariant-loop-row
invariant-loop-row l = floored blob_key int_cmp (take l.row-index l.rows) least_signed ≡ true
