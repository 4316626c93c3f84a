-- The first and the last row, by where they stand and by their keys: of rows that ascend they are the least and the greatest. Assumes nothing.
use Rattle.std.proofs.Common.{◌≡◌, ℕ, zero, suc, ◌-◌, true, List, [], ◌∷◌, length, get_or, Some, None, Option, Ordering, Less, Equal, sym, refl, ap, ◌∙◌, arith, Bor}
use Rattle.std.specs.Option.{option_map}
use Rattle.std.specs.Ordering.{is_le}
use Rattle.std.specs.Slice.{IsGetResult}
use Rattle.std.specs.List.{ContainsAt as Has}
use Rattle.table.specs.Order.{Lawful}
use Rattle.table.specs.Rows.{ascending, first_of, last_of, last_from}
use Rattle.table.proofs.Orders.{rank_same}
use Rattle.table.proofs.Places.{head_less, tail_up}

module _ {X : Type 0} where
  pub last_at : (x : X) (xs : List X) (d : X) → get_or (x ∷ xs) (length xs) d ≡ last_from x xs
  last_at x [] d = refl
  last_at x (y ∷ ys) d = last_at y ys d

  -- what `last` of a slice answers
  pub last_item : (xs : List X) (o : Option (Bor X)) → IsGetResult xs 0 (length xs - 1) o → option_map (λ x. x.now) o ≡ last_of xs
  last_item [] None h = refl
  last_item [] (Some y) h = absurd (omega (arith, h.3.0))
  last_item (x ∷ xs) None h = absurd (omega (arith, h.3))
  last_item (x ∷ xs) (Some y) h =
      let n : length (x ∷ xs) - 1 ≡ length xs = omega arith in
      let e : y.now ≡ get_or (x ∷ xs) (length xs) x = rw n at (h.3.1 x) in
      ap Some (e ∙ last_at x xs x)

  some_same : (x y : X) → Some x ≡ Some y → x ≡ y
  some_same x y h = cc

  none_some : (G : Type 0) (x : X) → None ≡ Some x → G
  none_some G x h = let z : ◌≡◌ {A = ℕ} 0 1 = cc in absurd (omega arith)

  pub first_has : (rows : List X) (x : X) → first_of rows ≡ Some x → Has rows x
  first_has [] x h = none_some (Has [] x) x h
  first_has (y ∷ ys) x h = (0, omega arith, λ d. some_same y x h)

  pub last_has : (rows : List X) (x : X) → last_of rows ≡ Some x → Has rows x
  last_has [] x h = none_some (Has [] x) x h
  last_has (y ∷ ys) x h = (length ys, omega arith, λ d. last_at y ys d ∙ some_same (last_from y ys) x h)

le_from_less : (o : Ordering) → o ≡ Less → is_le o ≡ true
le_from_less o e = ap is_le e

le_from_equal : (o : Ordering) → o ≡ Equal → is_le o ≡ true
le_from_equal o e = ap is_le e

module _ {X K : Type 0} (key : X → K) {rank : K → K → Ordering} (laws : Lawful rank) where
  -- the first row is not above any, and the last is not below any
  pub head_least : (x : X) (xs : List X) (y : X) → ascending key rank (x ∷ xs) ≡ true → Has (x ∷ xs) y → is_le (rank (key x) (key y)) ≡ true
  head_least x xs y up (zero, l, at) = le_from_equal _ (rank_same laws (key x) (key y) (ap key (at y)))
  head_least x xs y up (suc i, l, at) =
      let h : rank (key x) (key (get_or xs i y)) ≡ Less = head_less key laws x xs i y up (omega arith) in
      le_from_less _ (rw (at y) at h)

  pub last_greatest_from : (x : X) (xs : List X) (y : X) → ascending key rank (x ∷ xs) ≡ true → Has (x ∷ xs) y → is_le (rank (key y) (key (last_from x xs))) ≡ true
  last_greatest_from x [] y up (zero, l, at) = le_from_equal _ (rank_same laws (key y) (key x) (sym (ap key (at y))))
  last_greatest_from x [] y up (suc i, l, at) = absurd (omega arith)
  last_greatest_from x (z ∷ zs) y up (zero, l, at) =
      let h : rank (key x) (key (get_or (z ∷ zs) (length zs) y)) ≡ Less = head_less key laws x (z ∷ zs) (length zs) y up (omega arith) in
      let g : rank (key x) (key (last_from z zs)) ≡ Less = rw (last_at z zs y) at h in
      le_from_less _ (rw (at y) at g)
  last_greatest_from x (z ∷ zs) y up (suc i, l, at) = last_greatest_from z zs y (tail_up key laws x (z ∷ zs) up) (i, omega arith, at)

  pub first_least : (rows : List X) (x y : X) → ascending key rank rows ≡ true → first_of rows ≡ Some x → Has rows y → is_le (rank (key x) (key y)) ≡ true
  first_least [] x y up f h = none_some _ x f
  first_least (z ∷ zs) x y up f h = rw (some_same z x f) at (head_least z zs y up h)

  pub last_greatest : (rows : List X) (x y : X) → ascending key rank rows ≡ true → last_of rows ≡ Some x → Has rows y → is_le (rank (key y) (key x)) ≡ true
  last_greatest [] x y up f h = none_some _ x f
  last_greatest (z ∷ zs) x y up f h = rw (some_same (last_from z zs) x f) at (last_greatest_from z zs y up h)
