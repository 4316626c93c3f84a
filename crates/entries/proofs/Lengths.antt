-- How many rows there are after one is put in, and rows put in one after the other.
use Rattle.std.proofs.Common.{◌≡◌, ◌+◌, ◌≤◌, List, [], ◌∷◌, length, Some, Ordering, Less, Equal, Greater, ap, ◌∙◌, arith}
use Rattle.table.specs.Order.{Lawful}
use Rattle.table.specs.Rows.{by, find, put_by, insert_row, towards}
use Rattle.table.proofs.Laws.{length_insert_old, find_key}

module _ {X : Type 0} (at : X → Ordering) (row : X) where
  length_put : (rows : List X) → length (put_by at row rows) ≤ length rows + 1
  length_put [] = omega arith
  length_put (x ∷ xs) = on (at x) (length_put xs)
    where
      on : (o : Ordering) → length (put_by at row xs) ≤ length xs + 1 → length (by o (x ∷ put_by at row xs) (row ∷ xs) (row ∷ (x ∷ xs))) ≤ length (x ∷ xs) + 1
      on Less ih = omega arith
      on Equal ih = omega arith
      on Greater ih = omega arith

module _ {X K : Type 0} (key : X → K) (rank : K → K → Ordering) where
  pub length_insert : (rows : List X) (row : X) → length (insert_row key rank rows row) ≤ length rows + 1
  length_insert rows row = length_put (towards key rank (key row)) row rows

-- a row over one that is there adds none
module _ {X K : Type 0} (key : X → K) {rank : K → K → Ordering} (laws : Lawful rank) where
  pub length_over : (rows : List X) (k : K) (x row : X) → find key rank rows k ≡ Some x → key row ≡ key x → length (insert_row key rank rows row) ≡ length rows
  length_over rows k x row e same = length_insert_old key laws rows row x (ap (find key rank rows) (same ∙ find_key key laws rows k x e) ∙ e)
