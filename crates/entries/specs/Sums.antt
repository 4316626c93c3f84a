-- Rows of sums, read as the rules have them.
use Rattle.std.specs.Prelude.{ℕ, List, map, Some, None, Option}
use Rattle.entries.specs.declared.sums.SumRow.{SumRow}

-- segment and sum of each
abbrev pub pairs : List SumRow → List (ℕ × ℕ)
pairs rows = map (λ row. (row.segment, row.size)) rows

-- a sum, which is 0 where there is none
abbrev pub size_in : Option SumRow → ℕ
size_in None = 0
size_in (Some row) = row.size
