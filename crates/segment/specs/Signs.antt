-- Signed numbers, compared.
use Rattle.std.specs.Prelude.{Bool, false, ℤ, pos, negsuc, ◌==◌}

-- whether two signed numbers are the same
abbrev pub same_z : ℤ → ℤ → Bool
same_z (pos a) (pos b) = a == b
same_z (pos a) (negsuc b) = false
same_z (negsuc a) (pos b) = false
same_z (negsuc a) (negsuc b) = a == b
