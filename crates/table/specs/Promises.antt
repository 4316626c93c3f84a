-- What the edits of a table promise, over any rows. Assumes nothing.
use Rattle.std.specs.Prelude.{◌≡◌, ℕ, ◌+◌, true, false, not, ◌&&◌, List, length, take, drop, ℤ, Some, None, filter, FitsSigned, ◌≢◌}
use Rattle.std.specs.declared.cmp.Ordering.{Ordering}
use Rattle.std.specs.Int.{w64}
use Rattle.std.specs.Ordering.{is_lt, is_le, is_eq, nat_cmp as rank, int_cmp}
use Rattle.std.specs.List.{ContainsAt as Has}
use Rattle.table.specs.Order.{lexical}
use Rattle.table.specs.Rows.{find, insert_row, remove_row, ascending, first_of, last_of}
use Rattle.table.specs.Ranges.{inside, between, without_between, count_below, of_first, count_lower, floored, least_signed}

pub record Promises {X K : Type 0} (key : X → K) (rank : K → K → Ordering) : Type 0 where
  -- the order is kept
  pub insert_ascends : (rows : List X) (row : X) → ascending key rank rows ≡ true → ascending key rank (insert_row key rank rows row) ≡ true
  pub remove_ascends : (rows : List X) (k : K) → ascending key rank rows ≡ true → ascending key rank (remove_row key rank rows k) ≡ true
  -- the row that was put in is found, one taken out is not, and another key finds what it found before
  pub inserted_found : (rows : List X) (row : X) → find key rank (insert_row key rank rows row) (key row) ≡ Some row
  pub insert_others : (rows : List X) (row : X) (k : K) → (key row ≢ k) → find key rank (insert_row key rank rows row) k ≡ find key rank rows k
  pub removed_gone : (rows : List X) (k : K) → ascending key rank rows ≡ true → find key rank (remove_row key rank rows k) k ≡ None
  pub remove_others : (rows : List X) (k j : K) → ascending key rank rows ≡ true → (k ≢ j) → find key rank (remove_row key rank rows k) j ≡ find key rank rows j
  -- how many rows there are then
  pub insert_new : (rows : List X) (row : X) → find key rank rows (key row) ≡ None → length (insert_row key rank rows row) ≡ length rows + 1
  pub insert_old : (rows : List X) (row x : X) → find key rank rows (key row) ≡ Some x → length (insert_row key rank rows row) ≡ length rows
  pub remove_old : (rows : List X) (k : K) (x : X) → find key rank rows k ≡ Some x → length (remove_row key rank rows k) + 1 ≡ length rows
  pub remove_none : (rows : List X) (k : K) → find key rank rows k ≡ None → remove_row key rank rows k ≡ rows
  -- a look-up finds the rows of the list, each by its key
  pub found_key : (rows : List X) (k : K) (x : X) → find key rank rows k ≡ Some x → key x ≡ k
  pub found_has : (rows : List X) (k : K) (x : X) → find key rank rows k ≡ Some x → Has rows x
  pub has_found : (rows : List X) (x : X) → ascending key rank rows ≡ true → Has rows x → find key rank rows (key x) ≡ Some x
  -- the first row is the least, and the last the greatest
  pub first_least : (rows : List X) (x y : X) → ascending key rank rows ≡ true → first_of rows ≡ Some x → Has rows y → is_le (rank (key x) (key y)) ≡ true
  pub last_greatest : (rows : List X) (x y : X) → ascending key rank rows ≡ true → last_of rows ≡ Some x → Has rows y → is_le (rank (key y) (key x)) ≡ true
  -- rows that ascend are determined by their members
  pub one_list : (xs ys : List X) → ascending key rank xs ≡ true → ascending key rank ys ≡ true → ((x : X) → Has xs x → Has ys x) → ((x : X) → Has ys x → Has xs x) → xs ≡ ys
  -- the rows of a range stand in one piece, behind those with keys below it
  pub between_part : (rows : List X) (from until : K) → ascending key rank rows ≡ true → between key rank rows from until ≡ take (length (between key rank rows from until)) (drop (count_below key rank rows from) rows)
  pub between_ascends : (rows : List X) (from until : K) → ascending key rank rows ≡ true → ascending key rank (between key rank rows from until) ≡ true
  pub between_found : (rows : List X) (from until k : K) → ascending key rank rows ≡ true → inside rank from until k ≡ true → find key rank (between key rank rows from until) k ≡ find key rank rows k
  -- once they are gone, a key of the range finds nothing, and another key what it found before
  pub without_ascends : (rows : List X) (from until : K) → ascending key rank rows ≡ true → ascending key rank (without_between key rank rows from until) ≡ true
  pub without_inside : (rows : List X) (from until k : K) → ascending key rank rows ≡ true → inside rank from until k ≡ true → find key rank (without_between key rank rows from until) k ≡ None
  pub without_outside : (rows : List X) (from until k : K) → ascending key rank rows ≡ true → inside rank from until k ≡ false → find key rank (without_between key rank rows from until) k ≡ find key rank rows k
  pub range_counts : (rows : List X) (from until : K) → length (between key rank rows from until) + length (without_between key rank rows from until) ≡ length rows

-- where a key is a pair, r orders the first parts and s the second
pub record PairPromises {X A B : Type 0} (key : X → A × B) (r : A → A → Ordering) (s : B → B → Ordering) : Type 0 where
  -- the rows of one first part stand in one piece, behind those with a lower one
  pub first_part : (rows : List X) (p : A) → ascending key (lexical r s) rows ≡ true → of_first key r rows p ≡ take (length (of_first key r rows p)) (drop (count_lower key r rows p) rows)
  -- they are a range up to the next first part, from the least second part on
  pub first_range : (rows : List X) (p next : A) (least : B) → ((u : A) → is_lt (r u next) ≡ is_le (r u p)) → floored key s rows least ≡ true → between key (lexical r s) rows (p, least) (next, least) ≡ of_first key r rows p
  pub first_without : (rows : List X) (p next : A) (least : B) → ((u : A) → is_lt (r u next) ≡ is_le (r u p)) → floored key s rows least ≡ true → without_between key (lexical r s) rows (p, least) (next, least) ≡ filter (λ x. not (is_eq (r (key x).0 p))) rows
  -- no second part gets below the least one by an edit
  pub insert_floored : (rows : List X) (row : X) (least : B) → is_lt (s (key row).1 least) ≡ false → floored key s rows least ≡ true → floored key s (insert_row key (lexical r s) rows row) least ≡ true
  pub remove_floored : (rows : List X) (k : A × B) (least : B) → floored key s rows least ≡ true → floored key s (remove_row key (lexical r s) rows k) least ≡ true
  pub without_floored : (rows : List X) (from until : A × B) (least : B) → floored key s rows least ≡ true → floored key s (without_between key (lexical r s) rows from until) least ≡ true
  -- a range of second parts under one first part
  pub second_range : (rows : List X) (p : A) (from until : B) → between key (lexical r s) rows (p, from) (p, until) ≡ filter (λ x. is_eq (r (key x).0 p) && inside s from until (key x).1) rows

-- the same at numbers
pub record NumberPromises (X : Type 0) : Type 0 where
  pub signed_floor : (z : ℤ) → FitsSigned w64 z → is_lt (int_cmp z least_signed) ≡ false
  pub unsigned_range : (key : X → ℕ × ℕ) (rows : List X) (p : ℕ) → between key (lexical rank rank) rows (p, 0) (p + 1, 0) ≡ of_first key rank rows p
  pub unsigned_without : (key : X → ℕ × ℕ) (rows : List X) (p : ℕ) → without_between key (lexical rank rank) rows (p, 0) (p + 1, 0) ≡ filter (λ x. not (is_eq (rank (key x).0 p))) rows
  pub signed_range : (key : X → ℕ × ℤ) (rows : List X) (p : ℕ) → floored key int_cmp rows least_signed ≡ true → between key (lexical rank int_cmp) rows (p, least_signed) (p + 1, least_signed) ≡ of_first key rank rows p
  pub signed_without : (key : X → ℕ × ℤ) (rows : List X) (p : ℕ) → floored key int_cmp rows least_signed ≡ true → without_between key (lexical rank int_cmp) rows (p, least_signed) (p + 1, least_signed) ≡ filter (λ x. not (is_eq (rank (key x).0 p))) rows
