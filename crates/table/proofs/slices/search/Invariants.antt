-- The key's place lies from `low` to `high`.
use Rattle.std.proofs.Common.{◌-◌, ◌≤◌, length}
use Rattle.table.specs.Rows.{towards}
use Rattle.table.proofs.Places.{Under, Over}
use Rattle.table.proofs.slices.search.Given as goal

-- the row before `low` stands below the key, and the row at `high` above it
abbrev pub invariant-loop-low : goal.invariant-loop-low
invariant-loop-low g l =
    let at = towards g.R.Row.keyed g.R.Key.Key.rank l.key in
    (l.low ≤ l.high) × (l.high ≤ length l.rows) × Under at l.rows l.low × Over at l.rows l.high

abbrev pub decreases-loop-low : goal.decreases-loop-low
decreases-loop-low g l = l.high - l.low
