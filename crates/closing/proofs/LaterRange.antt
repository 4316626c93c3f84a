-- The range of signed numbers above one and up to another, as a range that begins and ends one later.
use Rattle.std.proofs.Common.{◌≡◌, ◌≤◌, not, ◌&&◌, List, length, ℤ, pos, ◌+ℤ◌, Ordering, ap, arith}
use lib.Signed.{lt_z, le_z}
use Rattle.std.specs.Ordering.{is_lt, int_cmp}
use Rattle.std.proofs.lemmas.Int.{ints}
use Rattle.table.specs.Ranges.{inside, between}
use Rattle.table.proofs.Filters.{kept_same}
use Rattle.segment.specs.Rows.{ordering_key}
use Rattle.segment.specs.declared.rows.OrderingRow.{OrderingRow}
use Rattle.rules.specs.Stabilizing.{ripe}
use Rattle.orders.proofs.Every.{kept_most}

-- a range has at most as many rows as there are
pub between_most : {X K : Type 0} (key : X → K) (rank : K → K → Ordering) (rows : List X) (from until : K) (part : List X) → part ≡ between key rank rows from until → length part ≤ length rows
between_most key rank rows from until part e = let m = kept_most (λ x. inside rank from until (key x)) rows in let k = ap length e in omega arith

up_to : (z n : ℤ) → is_lt (int_cmp z (n +ℤ pos 1)) ≡ le_z z n
up_to z n = grind (arith, ints)

above : (z n : ℤ) → not (is_lt (int_cmp z (n +ℤ pos 1))) ≡ lt_z n z
above z n = grind (arith, ints)

pub ripe_range : (old new : ℤ) (rows : List OrderingRow) → between ordering_key int_cmp rows (old +ℤ pos 1) (new +ℤ pos 1) ≡ ripe old new rows
ripe_range old new rows = kept_same _ _ rows (λ row. λ i. above row.lsn old i && up_to row.lsn new i)
