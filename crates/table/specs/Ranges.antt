-- Rows whose keys lie in a range, and rows of one first part. Assumes nothing.
use Rattle.std.specs.Prelude.{ℕ, Bool, not, ◌&&◌, List, length, ℤ, negsuc, filter}
use Rattle.std.specs.declared.cmp.Ordering.{Ordering}
use Rattle.std.specs.Ordering.{is_lt, is_eq}
use Rattle.table.specs.Rows.{every}

-- the least `i64`
abbrev pub least_signed : ℤ
least_signed = negsuc 9223372036854775807

-- the key is not below `from`, and is below `until`
abbrev pub inside : {K : Type 0} → (K → K → Ordering) → K → K → K → Bool
inside rank from until k = not (is_lt (rank k from)) && is_lt (rank k until)

module _ {X K : Type 0} (key : X → K) (rank : K → K → Ordering) where
  -- the rows with keys in the range, and the other rows
  abbrev pub between : List X → K → K → List X
  between rows from until = filter (λ x. inside rank from until (key x)) rows

  abbrev pub without_between : List X → K → K → List X
  without_between rows from until = filter (λ x. not (inside rank from until (key x))) rows

  -- how many rows have keys below this one
  abbrev pub count_below : List X → K → ℕ
  count_below rows k = length (filter (λ x. is_lt (rank (key x) k)) rows)

-- the key is a pair: the rows with this first part, and how many rows have a lower one
module _ {X A B : Type 0} (key : X → A × B) (rank : A → A → Ordering) where
  abbrev pub of_first : List X → A → List X
  of_first rows p = filter (λ x. is_eq (rank (key x).0 p)) rows

  abbrev pub count_lower : List X → A → ℕ
  count_lower rows p = length (filter (λ x. is_lt (rank (key x).0 p)) rows)

-- no row's second part is below this one
module _ {X A B : Type 0} (key : X → A × B) (rank : B → B → Ordering) where
  abbrev pub floored : List X → B → Bool
  floored rows least = every (λ x. not (is_lt (rank (key x).1 least))) rows
