-- Blobs that are held: rows that ascend by pointer.
use Rattle.std.specs.Prelude.{◌≡◌, Bool, true, false, ◌||◌, List, [], ◌∷◌, take, ℤ, is_some, refl}
use Rattle.std.specs.declared.cmp.Ordering.{Ordering}
use Rattle.std.specs.Ordering.{is_eq, int_cmp}
use Rattle.table.specs.Order.{signed_lawful}
use Rattle.table.specs.Rows.{find, insert_row, remove_row, ascending}
use Rattle.table.proofs.Laws.{ascending_insert, ascending_remove}
use Rattle.memory_host.specs.declared.blob.Blob.{Blob}

abbrev pub pointer : Blob → ℤ
pointer b = b.0

abbrev pub by_pointer : ℤ → ℤ → Ordering
by_pointer = int_cmp

abbrev pub row_of : ℤ → Blob
row_of b = record { 0 = b }

-- each pointer is below those after it
abbrev pub Ascending : List Blob → Type 0
Ascending rows = ascending pointer by_pointer rows ≡ true

pub record Blobs : Type 0 where
  pub rows : List Blob
  pub up : Ascending rows

abbrev pub in_rows : List Blob → ℤ → Bool
in_rows rows b = is_some (find pointer by_pointer rows b)

abbrev pub is_held : Blobs → ℤ → Bool
is_held s b = in_rows s.rows b

abbrev pub without : Blobs → ℤ → Blobs
without s b = record { rows = remove_row pointer by_pointer s.rows b; up = ascending_remove pointer signed_lawful s.rows b s.up }

abbrev pub with_blob : Blobs → ℤ → Blobs
with_blob s b = record { rows = insert_row pointer by_pointer s.rows (row_of b); up = ascending_insert pointer signed_lawful s.rows (row_of b) s.up }

abbrev pub none : Blobs
none = record { rows = []; up = refl }

-- the blobs with each of a list entered in turn
abbrev pub with_all : Blobs → List ℤ → Blobs
with_all s [] = s
with_all s (b ∷ bs) = with_all (with_blob s b) bs

-- the first 1,024 of a list
abbrev pub first_blobs : List ℤ → Blobs
first_blobs bs = with_all none (take 1024 bs)

-- whether a pointer is in a list
abbrev pub among : List ℤ → ℤ → Bool
among [] d = false
among (b ∷ bs) d = is_eq (by_pointer b d) || among bs d
