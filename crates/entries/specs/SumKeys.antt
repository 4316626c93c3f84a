-- The key of a row of sums.
use Rattle.std.specs.Prelude.{ℕ}
use Rattle.entries.specs.declared.sums.SumRow.{SumRow}

abbrev pub sum_key : SumRow → ℕ
sum_key row = row.segment

abbrev pub sum_row : ℕ → ℕ → SumRow
sum_row n size = record { segment = n; size = size }
