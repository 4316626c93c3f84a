-- A range of rows that ascend stands in one piece: two cuts, each by a test that fails from some row on. Assumes nothing.
use Rattle.std.proofs.Common.{◌≡◌, ℕ, suc, ◌+◌, ◌-◌, ◌≤◌, Bool, true, false, cond, not, ◌&&◌, List, [], ◌∷◌, ◌++◌, length, take, drop, None, Ok, Err, filter, Result, Ordering, Less, Equal, Greater, sym, refl, ap, ◌∙◌, arith, length-drop, MatchResult}
use Rattle.std.specs.Ordering.{is_lt}
use Rattle.std.proofs.lemmas.List.{take-append-drop, drop-drop, take_rest}
use Rattle.std.proofs.lemmas.List.Elements.{filter-append}
use Rattle.std.proofs.lemmas.List.Filters.{length-filter_both}
use Rattle.table.specs.Order.{Lawful}
use Rattle.table.specs.Rows.{by, later, place, find, ascending}
use Rattle.table.specs.Ranges.{inside, between, without_between, count_below}
use Rattle.table.proofs.Orders.{less_from}
use Rattle.table.proofs.Places.{tail_up}
use Rattle.table.proofs.Filters.{kept_same, kept_kept, ascending_kept, ascending_drop, find_kept, front_kept, behind_none}

first_outer : (a b : Bool) → (a && not (not a && b)) ≡ a
first_outer true b = refl
first_outer false b = refl

second_outer : (a b : Bool) → (not a && not (not a && b)) ≡ (not a && not b)
second_outer true b = refl
second_outer false b = refl

module _ {X K : Type 0} (key : X → K) {rank : K → K → Ordering} (laws : Lawful rank) where
  -- p fails from some row on, and so does q
  module _ (p q : X → Bool) (mono_p : (x y : X) → rank (key x) (key y) ≡ Less → p y ≡ true → p x ≡ true) (mono_q : (x y : X) → rank (key x) (key y) ≡ Less → q y ≡ true → q x ≡ true) (rows : List X) (up : ascending key rank rows ≡ true) where
    behind : filter (λ x. not (p x)) rows ≡ drop (length (filter p rows)) rows
    behind = (front_kept key laws p mono_p rows up).1

    inner : filter (λ x. not (p x) && q x) rows ≡ filter q (drop (length (filter p rows)) rows)
    inner = sym (kept_kept (λ x. not (p x)) q rows) ∙ ap (filter q) behind

    rest : (filter q (drop (length (filter p rows)) rows) ≡ take (length (filter q (drop (length (filter p rows)) rows))) (drop (length (filter p rows)) rows)) × (filter (λ x. not (q x)) (drop (length (filter p rows)) rows) ≡ drop (length (filter q (drop (length (filter p rows)) rows))) (drop (length (filter p rows)) rows))
    rest = front_kept key laws q mono_q (drop (length (filter p rows)) rows) (ascending_drop key laws (length (filter p rows)) rows up)

    pub inner_part : filter (λ x. not (p x) && q x) rows ≡ take (length (filter (λ x. not (p x) && q x) rows)) (drop (length (filter p rows)) rows)
    inner_part = inner ∙ rest.0 ∙ ap (λ l. take (length l) (drop (length (filter p rows)) rows)) (sym inner)

    outer_front : filter (λ x. not (not (p x) && q x)) (take (length (filter p rows)) rows) ≡ take (length (filter p rows)) rows
    outer_front =
        ap (filter (λ x. not (not (p x) && q x))) (sym (front_kept key laws p mono_p rows up).0)
        ∙ kept_kept p (λ x. not (not (p x) && q x)) rows
        ∙ kept_same (λ x. p x && not (not (p x) && q x)) p rows (λ x. first_outer (p x) (q x))
        ∙ (front_kept key laws p mono_p rows up).0

    outer_behind : filter (λ x. not (not (p x) && q x)) (drop (length (filter p rows)) rows) ≡ drop (length (filter p rows) + length (filter (λ x. not (p x) && q x) rows)) rows
    outer_behind =
        ap (filter (λ x. not (not (p x) && q x))) (sym behind)
        ∙ kept_kept (λ x. not (p x)) (λ x. not (not (p x) && q x)) rows
        ∙ kept_same (λ x. not (p x) && not (not (p x) && q x)) (λ x. not (p x) && not (q x)) rows (λ x. second_outer (p x) (q x))
        ∙ sym (kept_kept (λ x. not (p x)) (λ x. not (q x)) rows)
        ∙ ap (filter (λ x. not (q x))) behind
        ∙ rest.1
        ∙ drop-drop (length (filter q (drop (length (filter p rows)) rows))) (length (filter p rows)) rows
        ∙ ap (λ l. drop (length (filter p rows) + length l) rows) (sym inner)

    pub outer_parts : filter (λ x. not (not (p x) && q x)) rows ≡ take (length (filter p rows)) rows ++ drop (length (filter p rows) + length (filter (λ x. not (p x) && q x) rows)) rows
    outer_parts =
        ap (filter (λ x. not (not (p x) && q x))) (sym (take-append-drop (length (filter p rows)) rows))
        ∙ filter-append (λ x. not (not (p x) && q x)) (take (length (filter p rows)) rows) (drop (length (filter p rows)) rows)
        ∙ (λ i. outer_front i ++ outer_behind i)

    -- the inner rows, counted behind the first cut
    pub inner_count : length (filter q (drop (length (filter p rows)) rows)) ≡ length (filter (λ x. not (p x) && q x) rows)
    inner_count = ap length (sym inner)

  under : (k : K) (x y : X) → rank (key x) (key y) ≡ Less → is_lt (rank (key y) k) ≡ true → is_lt (rank (key x) k) ≡ true
  under k x y l h = ap is_lt (laws.trans (key x) (key y) k l (less_from _ h))

  -- ---- the rows of a range
  pub between_part : (rows : List X) (from until : K) → ascending key rank rows ≡ true → between key rank rows from until ≡ take (length (between key rank rows from until)) (drop (count_below key rank rows from) rows)
  between_part rows from until up = inner_part (λ x. is_lt (rank (key x) from)) (λ x. is_lt (rank (key x) until)) (under from) (under until) rows up

  pub without_parts : (rows : List X) (from until : K) → ascending key rank rows ≡ true → without_between key rank rows from until ≡ take (count_below key rank rows from) rows ++ drop (count_below key rank rows from + length (between key rank rows from until)) rows
  without_parts rows from until up = outer_parts (λ x. is_lt (rank (key x) from)) (λ x. is_lt (rank (key x) until)) (under from) (under until) rows up

  pub between_count : (rows : List X) (from until : K) → ascending key rank rows ≡ true → count_below key rank (drop (count_below key rank rows from) rows) until ≡ length (between key rank rows from until)
  between_count rows from until up = inner_count (λ x. is_lt (rank (key x) from)) (λ x. is_lt (rank (key x) until)) (under from) (under until) rows up

  pub below_front : (rows : List X) (k : K) → ascending key rank rows ≡ true → filter (λ x. is_lt (rank (key x) k)) rows ≡ take (count_below key rank rows k) rows
  below_front rows k up = (front_kept key laws (λ x. is_lt (rank (key x) k)) (under k) rows up).0

  pub between_ascends : (rows : List X) (from until : K) → ascending key rank rows ≡ true → ascending key rank (between key rank rows from until) ≡ true
  between_ascends rows from until up = ascending_kept key laws (λ x. inside rank from until (key x)) rows up

  pub without_ascends : (rows : List X) (from until : K) → ascending key rank rows ≡ true → ascending key rank (without_between key rank rows from until) ≡ true
  without_ascends rows from until up = ascending_kept key laws (λ x. not (inside rank from until (key x))) rows up

  -- ---- how many there are
  pub below_most : (rows : List X) (k : K) → count_below key rank rows k ≤ length rows
  below_most rows k = omega (arith, length-filter_both (λ x. is_lt (rank (key x) k)) (λ x. not (is_lt (rank (key x) k))) (λ x. refl) rows)

  pub range_counts : (rows : List X) (from until : K) → length (between key rank rows from until) + length (without_between key rank rows from until) ≡ length rows
  range_counts rows from until = length-filter_both (λ x. inside rank from until (key x)) (λ x. not (inside rank from until (key x))) (λ x. refl) rows

  pub range_most : (rows : List X) (from until : K) → ascending key rank rows ≡ true → count_below key rank rows from + length (between key rank rows from until) ≤ length rows
  range_most rows from until up =
      let m : count_below key rank rows from ≤ length rows = below_most rows from in
      let n : count_below key rank (drop (count_below key rank rows from) rows) until ≤ length (drop (count_below key rank rows from) rows) = below_most (drop (count_below key rank rows from) rows) until in
      omega (arith, between_count rows from until up, length-drop (count_below key rank rows from) rows)

  -- ---- look-ups
  pub find_between : (rows : List X) (from until k : K) → ascending key rank rows ≡ true → inside rank from until k ≡ true → find key rank (between key rank rows from until) k ≡ find key rank rows k
  find_between rows from until k up h = find_kept key laws (inside rank from until) rows k up ∙ ap (λ b. cond b (find key rank rows k) None) h

  pub find_without_inside : (rows : List X) (from until k : K) → ascending key rank rows ≡ true → inside rank from until k ≡ true → find key rank (without_between key rank rows from until) k ≡ None
  find_without_inside rows from until k up h = find_kept key laws (λ j. not (inside rank from until j)) rows k up ∙ ap (λ b. cond (not b) (find key rank rows k) None) h

  pub find_without_outside : (rows : List X) (from until k : K) → ascending key rank rows ≡ true → inside rank from until k ≡ false → find key rank (without_between key rank rows from until) k ≡ find key rank rows k
  find_without_outside rows from until k up h = find_kept key laws (λ j. not (inside rank from until j)) rows k up ∙ ap (λ b. cond (not b) (find key rank rows k) None) h

  -- ---- the place of a key is the number of rows below it
  pub place_count : (rows : List X) (k : K) → ascending key rank rows ≡ true → MatchResult (place key rank rows k) (λ i. i ≡ count_below key rank rows k) (λ i. i ≡ count_below key rank rows k)
  place_count [] k up = refl
  place_count (x ∷ xs) k up = on (rank (key x) k) refl (place key rank xs k) (place_count xs k (tail_up key laws x xs up))
    where
      none : is_lt (rank (key x) k) ≡ false → count_below key rank xs k ≡ 0
      none e = ap length (behind_none key laws (λ y. is_lt (rank (key y) k)) (under k) x xs up e)

      on : (o : Ordering) → rank (key x) k ≡ o → (r : Result ℕ ℕ) → MatchResult r (λ i. i ≡ count_below key rank xs k) (λ i. i ≡ count_below key rank xs k) → MatchResult (by o (later r) (Ok 0) (Err 0)) (λ i. i ≡ length (cond (is_lt o) (x ∷ filter (λ y. is_lt (rank (key y) k)) xs) (filter (λ y. is_lt (rank (key y) k)) xs))) (λ i. i ≡ length (cond (is_lt o) (x ∷ filter (λ y. is_lt (rank (key y) k)) xs) (filter (λ y. is_lt (rank (key y) k)) xs)))
      on Less e (Ok i) ih = ap suc ih
      on Less e (Err i) ih = ap suc ih
      on Equal e r ih = sym (none (ap is_lt e))
      on Greater e r ih = sym (none (ap is_lt e))

  pub place_counts : (rows : List X) (k : K) (r : Result ℕ ℕ) → ascending key rank rows ≡ true → r ≡ place key rank rows k → MatchResult r (λ i. i ≡ count_below key rank rows k) (λ i. i ≡ count_below key rank rows k)
  place_counts rows k r up e = rw e (place_count rows k up)

  -- the second bound, counted among the rows behind the first
  pub bounds_are : (rows : List X) (from until : K) (start count : ℕ) → ascending key rank rows ≡ true → start ≡ count_below key rank rows from → count ≡ count_below key rank (take (length rows - start) (drop start rows)) until → count ≡ length (between key rank rows from until)
  bounds_are rows from until start count up s c =
      c
      ∙ ap (λ l. count_below key rank l until) (take_rest rows start)
      ∙ ap (λ n. count_below key rank (drop n rows) until) s
      ∙ between_count rows from until up

  -- the rows between the bounds, and those before and behind
  pub part_lent : (rows : List X) (from until : K) (r : ℕ × ℕ) → ascending key rank rows ≡ true → r ≡ (count_below key rank rows from, count_below key rank rows from + length (between key rank rows from until)) → take (r.1 - r.0) (drop r.0 rows) ≡ between key rank rows from until
  part_lent rows from until r up b =
      let m = count_below key rank rows from in
      let n = length (between key rank rows from until) in
      let d : m + n - m ≡ n = omega arith in
      (λ i. take ((b i).1 - (b i).0) (drop (b i).0 rows)) ∙ ap (λ k. take k (drop m rows)) d ∙ sym (between_part rows from until up)

  pub rest_left : (rows : List X) (from until : K) (r : ℕ × ℕ) → ascending key rank rows ≡ true → r ≡ (count_below key rank rows from, count_below key rank rows from + length (between key rank rows from until)) → take r.0 rows ++ drop r.1 rows ≡ without_between key rank rows from until
  rest_left rows from until r up b = (λ i. take (b i).0 rows ++ drop (b i).1 rows) ∙ sym (without_parts rows from until up)
