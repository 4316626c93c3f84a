-- Keys that are pairs: the first part decides first, so the rows of one first part stand in one piece. Assumes nothing.
use Rattle.std.proofs.Common.{◌≡◌, ℕ, ◌+◌, ◌-◌, ◌<◌, ◌≤◌, Bool, true, false, cond, not, ◌&&◌, List, [], ◌∷◌, ◌++◌, length, take, drop, ℤ, filter, Ordering, Less, Equal, Greater, sym, refl, ap, ◌∙◌, true≢false, arith, w64, SFits}
use Rattle.std.specs.Cmp.{ranks}
use Rattle.std.specs.Ordering.{MatchOrdering, is_lt, is_le, is_eq, is_gt, ordering_then, nat_cmp, int_cmp}
use Rattle.std.specs.List.{ContainsAt as Has}
use Rattle.std.proofs.lemmas.Int.{ints}
use Rattle.std.proofs.lemmas.Bool.{and_from}
use Rattle.table.specs.Order.{Lawful, lexical, lexical_lawful, unsigned_lawful, signed_lawful}
use Rattle.table.specs.Rows.{ascending, insert_row, remove_row, towards}
use Rattle.table.specs.Ranges.{inside, between, without_between, of_first, count_lower, floored, least_signed}
use Rattle.table.proofs.Orders.{less_from, every_has}
use Rattle.table.proofs.Laws.{every_put, every_cut}
use Rattle.table.proofs.Filters.{kept_same, kept_same_on, every_kept}
use Rattle.table.proofs.Between.{inner_part, outer_parts}

not_true : (t : Bool) → not t ≡ true → t ≡ false
not_true true h = absurd (true≢false (sym h))
not_true false h = refl

eq_parts : (o : Ordering) → is_eq o ≡ (not (is_lt o) && is_le o)
eq_parts Less = refl
eq_parts Equal = refl
eq_parts Greater = refl

-- a second part that is not below decides nothing
lt_then : (o v : Ordering) → is_lt v ≡ false → is_lt (ordering_then o v) ≡ is_lt o
lt_then Less v h = refl
lt_then Equal v h = h
lt_then Greater v h = refl

second_inside : (o v w : Ordering) → (not (is_lt (ordering_then o v)) && is_lt (ordering_then o w)) ≡ (is_eq o && (not (is_lt v) && is_lt w))
second_inside Less v w = refl
second_inside Equal v w = refl
second_inside Greater v w = refl

le_first : (o v : Ordering) → ordering_then o v ≡ Less → is_le o ≡ true
le_first Less v h = refl
le_first Equal v h = refl
le_first Greater v h = absurd (true≢false (ap is_gt h))

module _ {A : Type 0} {r : A → A → Ordering} (a : Lawful r) where
  le_lt : (u v w : A) (o : Ordering) → r u v ≡ o → is_le o ≡ true → is_lt (r v w) ≡ true → is_lt (r u w) ≡ true
  le_lt u v w Less e l h = ap is_lt (a.trans u v w e (less_from _ h))
  le_lt u v w Equal e l h = rw (a.same u v e) h
  le_lt u v w Greater e l h = absurd (true≢false (sym l))

  le_le : (u v w : A) (o m : Ordering) → r u v ≡ o → r v w ≡ m → is_le o ≡ true → is_le m ≡ true → is_le (r u w) ≡ true
  le_le u v w o Less e f l h = ap is_le (less_from _ (le_lt u v w o e l (ap is_lt f)))
  le_le u v w o Equal e f l h = let g : r u w ≡ o = ap (r u) (sym (a.same v w f)) ∙ e in ap is_le g ∙ l
  le_le u v w o Greater e f l h = absurd (true≢false (sym h))

module _ {X A B : Type 0} (key : X → A × B) {r : A → A → Ordering} {s : B → B → Ordering} (a : Lawful r) (b : Lawful s) where
  pub lower_mono : (p : A) (x y : X) → lexical r s (key x) (key y) ≡ Less → is_lt (r (key y).0 p) ≡ true → is_lt (r (key x).0 p) ≡ true
  lower_mono p x y l h = le_lt a (key x).0 (key y).0 p (r (key x).0 (key y).0) refl (le_first (r (key x).0 (key y).0) (s (key x).1 (key y).1) l) h

  pub up_to_mono : (p : A) (x y : X) → lexical r s (key x) (key y) ≡ Less → is_le (r (key y).0 p) ≡ true → is_le (r (key x).0 p) ≡ true
  up_to_mono p x y l h = le_le a (key x).0 (key y).0 p (r (key x).0 (key y).0) (r (key y).0 p) refl refl (le_first (r (key x).0 (key y).0) (s (key x).1 (key y).1) l) h

  first_parts : (rows : List X) (p : A) → of_first key r rows p ≡ filter (λ x. not (is_lt (r (key x).0 p)) && is_le (r (key x).0 p)) rows
  first_parts rows p = kept_same (λ x. is_eq (r (key x).0 p)) (λ x. not (is_lt (r (key x).0 p)) && is_le (r (key x).0 p)) rows (λ x. eq_parts (r (key x).0 p))

  -- they stand behind the rows with a lower first part
  pub first_part : (rows : List X) (p : A) → ascending key (lexical r s) rows ≡ true → of_first key r rows p ≡ take (length (of_first key r rows p)) (drop (count_lower key r rows p) rows)
  first_part rows p up =
      first_parts rows p
      ∙ inner_part key (lexical_lawful a b) (λ x. is_lt (r (key x).0 p)) (λ x. is_le (r (key x).0 p)) (lower_mono p) (up_to_mono p) rows up
      ∙ ap (λ l. take (length l) (drop (count_lower key r rows p) rows)) (sym (first_parts rows p))

  inside_first : (p next : A) (least : B) (k : A × B) → ((u : A) → is_lt (r u next) ≡ is_le (r u p)) → is_lt (s k.1 least) ≡ false → inside (lexical r s) (p, least) (next, least) k ≡ is_eq (r k.0 p)
  inside_first p next least k n l =
      (λ i. not (lt_then (r k.0 p) (s k.1 least) l i) && lt_then (r k.0 next) (s k.1 least) l i)
      ∙ ap (λ t. not (is_lt (r k.0 p)) && t) (n k.0)
      ∙ sym (eq_parts (r k.0 p))

  floor_at : (rows : List X) (least : B) (x : X) → floored key s rows least ≡ true → Has rows x → is_lt (s (key x).1 least) ≡ false
  floor_at rows least x l h = not_true (is_lt (s (key x).1 least)) (every_has (λ y. not (is_lt (s (key y).1 least))) rows x l h)

  -- `next` is the first part after p, and no row's second part is below `least`
  pub first_range : (rows : List X) (p next : A) (least : B) → ((u : A) → is_lt (r u next) ≡ is_le (r u p)) → floored key s rows least ≡ true → between key (lexical r s) rows (p, least) (next, least) ≡ of_first key r rows p
  first_range rows p next least n l = kept_same_on (λ x. inside (lexical r s) (p, least) (next, least) (key x)) (λ x. is_eq (r (key x).0 p)) rows (λ x h. inside_first p next least (key x) n (floor_at rows least x l h))

  pub first_without : (rows : List X) (p next : A) (least : B) → ((u : A) → is_lt (r u next) ≡ is_le (r u p)) → floored key s rows least ≡ true → without_between key (lexical r s) rows (p, least) (next, least) ≡ filter (λ x. not (is_eq (r (key x).0 p))) rows
  first_without rows p next least n l = kept_same_on (λ x. not (inside (lexical r s) (p, least) (next, least) (key x))) (λ x. not (is_eq (r (key x).0 p))) rows (λ x h. ap not (inside_first p next least (key x) n (floor_at rows least x l h)))

  pub insert_floored : (rows : List X) (row : X) (least : B) → is_lt (s (key row).1 least) ≡ false → floored key s rows least ≡ true → floored key s (insert_row key (lexical r s) rows row) least ≡ true
  insert_floored rows row least e l = every_put (λ x. not (is_lt (s (key x).1 least))) (towards key (lexical r s) (key row)) row rows l (ap not e)

  pub remove_floored : (rows : List X) (k : A × B) (least : B) → floored key s rows least ≡ true → floored key s (remove_row key (lexical r s) rows k) least ≡ true
  remove_floored rows k least l = every_cut (λ x. not (is_lt (s (key x).1 least))) (towards key (lexical r s) k) rows l

  pub without_floored : (rows : List X) (from until : A × B) (least : B) → floored key s rows least ≡ true → floored key s (without_between key (lexical r s) rows from until) least ≡ true
  without_floored rows from until least l = every_kept (λ x. not (inside (lexical r s) from until (key x))) (λ x. not (is_lt (s (key x).1 least))) rows l

  -- a range of second parts under one first part
  pub second_range : (rows : List X) (p : A) (from until : B) → between key (lexical r s) rows (p, from) (p, until) ≡ filter (λ x. is_eq (r (key x).0 p) && inside s from until (key x).1) rows
  second_range rows p from until = kept_same (λ x. inside (lexical r s) (p, from) (p, until) (key x)) (λ x. is_eq (r (key x).0 p) && inside s from until (key x).1) rows (λ x. second_inside (r (key x).0 p) (s (key x).1 from) (s (key x).1 until))

  -- ---- the places of one first part
  pub lower_or_same : (rows : List X) (p : A) → length (filter (λ x. is_le (r (key x).0 p)) rows) ≡ count_lower key r rows p + length (of_first key r rows p)
  lower_or_same [] p = refl
  lower_or_same (x ∷ xs) p = on (r (key x).0 p) (lower_or_same xs p)
    where
      on : (o : Ordering) → length (filter (λ y. is_le (r (key y).0 p)) xs) ≡ count_lower key r xs p + length (of_first key r xs p) → length (cond (is_le o) (x ∷ filter (λ y. is_le (r (key y).0 p)) xs) (filter (λ y. is_le (r (key y).0 p)) xs)) ≡ length (cond (is_lt o) (x ∷ filter (λ y. is_lt (r (key y).0 p)) xs) (filter (λ y. is_lt (r (key y).0 p)) xs)) + length (cond (is_eq o) (x ∷ of_first key r xs p) (of_first key r xs p))
      on Less ih = omega (arith, ih)
      on Equal ih = omega (arith, ih)
      on Greater ih = ih

  -- from the first of them to behind the last one they stand, and all others before and behind
  pub first_places : (rows : List X) (p : A) (start end : ℕ) → ascending key (lexical r s) rows ≡ true → start ≡ count_lower key r rows p → end ≡ length (filter (λ x. is_le (r (key x).0 p)) rows) → (start ≤ end) × (take (end - start) (drop start rows) ≡ of_first key r rows p) × (take start rows ++ drop end rows ≡ filter (λ x. not (is_eq (r (key x).0 p))) rows)
  first_places rows p start end up s e =
      let sum = lower_or_same rows p in
      let low = λ (x : X). is_lt (r (key x).0 p) in
      let high = λ (x : X). is_le (r (key x).0 p) in
      let whole = inner_part key (lexical_lawful a b) low high (lower_mono p) (up_to_mono p) rows up in
      let others = outer_parts key (lexical_lawful a b) low high (lower_mono p) (up_to_mono p) rows up in
      let same = first_parts rows p in
      let many : end - start ≡ length (of_first key r rows p) = omega (arith, sum, s, e) in
      let last : end ≡ count_lower key r rows p + length (filter (λ x. not (low x) && high x) rows) = omega (arith, sum, s, e, ap length same) in (
        omega (arith, sum, s, e),
        ((λ i. take (many i) (drop (s i) rows)) ∙ ap (λ l. take (length l) (drop (count_lower key r rows p) rows)) same ∙ sym whole ∙ sym same),
        ((λ i. take (s i) rows ++ drop (last i) rows) ∙ sym others ∙ kept_same _ _ rows (λ x. ap not (sym (eq_parts (r (key x).0 p))))),
      )

-- ---- at numbers
pub next_number : (p u : ℕ) → is_lt (nat_cmp u (p + 1)) ≡ is_le (nat_cmp u p)
next_number p u = on (nat_cmp u (p + 1)) (nat_cmp u p) (ranks u (p + 1)) (ranks u p)
  where
    on : (o w : Ordering) → MatchOrdering o (u < p + 1) (u ≡ p + 1) (p + 1 < u) → MatchOrdering w (u < p) (u ≡ p) (p < u) → is_lt o ≡ is_le w
    on Less Less h k = refl
    on Less Equal h k = refl
    on Less Greater h k = absurd (omega arith)
    on Equal Less h k = absurd (omega arith)
    on Equal Equal h k = absurd (omega arith)
    on Equal Greater h k = refl
    on Greater Less h k = absurd (omega arith)
    on Greater Equal h k = absurd (omega arith)
    on Greater Greater h k = refl

pub least_number : (u : ℕ) → is_lt (nat_cmp u 0) ≡ false
least_number u = on (nat_cmp u 0) (ranks u 0)
  where
    on : (o : Ordering) → MatchOrdering o (u < 0) (u ≡ 0) (0 < u) → is_lt o ≡ false
    on Less h = absurd (omega arith)
    on Equal h = refl
    on Greater h = refl

pub above_least_signed : (z : ℤ) → SFits w64 z → is_lt (int_cmp z least_signed) ≡ false
above_least_signed z f = grind (arith, ints)

number_floored : {X : Type 0} (key : X → ℕ × ℕ) (rows : List X) → floored key nat_cmp rows 0 ≡ true
number_floored key [] = refl
number_floored key (x ∷ xs) = and_from (not (is_lt (nat_cmp (key x).1 0))) (floored key nat_cmp xs 0) (ap not (least_number (key x).1)) (number_floored key xs)

module _ {X : Type 0} (key : X → ℕ × ℕ) (rows : List X) (p : ℕ) where
  pub unsigned_range : between key (lexical nat_cmp nat_cmp) rows (p, 0) (p + 1, 0) ≡ of_first key nat_cmp rows p
  unsigned_range = first_range key unsigned_lawful unsigned_lawful rows p (p + 1) 0 (next_number p) (number_floored key rows)

  pub unsigned_without : without_between key (lexical nat_cmp nat_cmp) rows (p, 0) (p + 1, 0) ≡ filter (λ x. not (is_eq (nat_cmp (key x).0 p))) rows
  unsigned_without = first_without key unsigned_lawful unsigned_lawful rows p (p + 1) 0 (next_number p) (number_floored key rows)

module _ {X : Type 0} (key : X → ℕ × ℤ) (rows : List X) (p : ℕ) (low : floored key int_cmp rows least_signed ≡ true) where
  pub signed_range : between key (lexical nat_cmp int_cmp) rows (p, least_signed) (p + 1, least_signed) ≡ of_first key nat_cmp rows p
  signed_range = first_range key unsigned_lawful signed_lawful rows p (p + 1) least_signed (next_number p) low

  pub signed_without : without_between key (lexical nat_cmp int_cmp) rows (p, least_signed) (p + 1, least_signed) ≡ filter (λ x. not (is_eq (nat_cmp (key x).0 p))) rows
  signed_without = first_without key unsigned_lawful signed_lawful rows p (p + 1) least_signed (next_number p) low
