-- A row whose insertion leaves no more rows than there may be is not refused.
use Rattle.std.proofs.Common.{◌≡◌, ℕ, ◌≤◌, List, length, None, Ok, Err, Result, Ordering, arith, MatchResult}
use Rattle.table.specs.Order.{Lawful}
use Rattle.table.specs.Rows.{find, insert_row}
use Rattle.table.specs.declared.owner.Full.{Full}
use Rattle.table.proofs.Laws.{length_insert_new}

module _ {X K : Type 0} (key : X → K) {rank : K → K → Ordering} (laws : Lawful rank) where
  pub entered : (rows after : List X) (row : X) (limit : ℕ) (r : Result (Unit {0}) Full) → length (insert_row key rank rows row) ≤ limit → MatchResult r (λ _. after ≡ insert_row key rank rows row) (λ _. (after ≡ rows) × (length rows ≡ limit) × (find key rank rows (key row) ≡ None)) → after ≡ insert_row key rank rows row
  entered rows after row limit (Ok u) l h = h
  entered rows after row limit (Err e) l h = let n = length_insert_new key laws rows row h.2 in absurd (omega (arith, h.1))
