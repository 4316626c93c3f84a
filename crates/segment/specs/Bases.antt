-- The base of an LSN.
use Rattle.std.specs.Prelude.{ℕ, ◌*◌, ◌/◌, ℤ, pos, unsigned_abs}

-- divided by the segment size, rounded down, times the segment size
abbrev pub base_of : ℕ → ℤ → ℤ
base_of size lsn = pos (unsigned_abs lsn / size * size)
