-- What holds of every row or state after an edit.
use Rattle.std.proofs.Common.{◌≡◌, ℕ, zero, suc, ◌+◌, ◌-◌, ◌*◌, ◌/◌, ◌<◌, ◌≤◌, Bool, true, false, cond, eqb, ltb, leb, List, [], ◌∷◌, ◌++◌, map, length, get_or, set, replicate, filter, Ordering, Less, Equal, Greater, sym, refl, ap, ◌∙◌, subst, mul-div_cancel, arith}
use Rattle.std.proofs.lemmas.Bool.{and_parts, and_from, eqb-true, ltb-true, leb-true, eq-eqb, lt-ltb, le-leb}
use Rattle.table.specs.Rows.{by, every, put_by, cut_by, towards, insert_row, remove_row}
use Rattle.orders.specs.Within.{is_place, is_end}

module _ {X : Type 0} (p : X → Bool) where
  pub every_put : (at : X → Ordering) (row : X) (xs : List X) → p row ≡ true → every p xs ≡ true → every p (put_by at row xs) ≡ true
  every_put at row [] r h = and_from (p row) true r refl
  every_put at row (x ∷ xs) r h = on (at x) (every_put at row xs r (and_parts (p x) (every p xs) h).1)
    where
      on : (o : Ordering) → every p (put_by at row xs) ≡ true → every p (by o (x ∷ put_by at row xs) (row ∷ xs) (row ∷ (x ∷ xs))) ≡ true
      on Less ih = and_from (p x) _ (and_parts (p x) (every p xs) h).0 ih
      on Equal ih = and_from (p row) _ r (and_parts (p x) (every p xs) h).1
      on Greater ih = and_from (p row) _ r h

  pub every_cut : (at : X → Ordering) (xs : List X) → every p xs ≡ true → every p (cut_by at xs) ≡ true
  every_cut at [] h = refl
  every_cut at (x ∷ xs) h = on (at x) (every_cut at xs (and_parts (p x) (every p xs) h).1)
    where
      on : (o : Ordering) → every p (cut_by at xs) ≡ true → every p (by o (x ∷ cut_by at xs) xs (x ∷ xs)) ≡ true
      on Less ih = and_from (p x) _ (and_parts (p x) (every p xs) h).0 ih
      on Equal ih = (and_parts (p x) (every p xs) h).1
      on Greater ih = h

  pub every_set : (xs : List X) (n : ℕ) (y : X) → p y ≡ true → every p xs ≡ true → every p (set xs n y) ≡ true
  every_set [] n y r h = refl
  every_set (x ∷ xs) zero y r h = and_from (p y) _ r (and_parts (p x) (every p xs) h).1
  every_set (x ∷ xs) (suc n) y r h = and_from (p x) _ (and_parts (p x) (every p xs) h).0 (every_set xs n y r (and_parts (p x) (every p xs) h).1)

  pub every_index : (xs : List X) (n : ℕ) (d : X) → p d ≡ true → every p xs ≡ true → p (get_or xs n d) ≡ true
  every_index [] n d r h = r
  every_index (x ∷ xs) zero d r h = (and_parts (p x) (every p xs) h).0
  every_index (x ∷ xs) (suc n) d r h = every_index xs n d r (and_parts (p x) (every p xs) h).1

  pub every_push : (xs : List X) (y : X) → p y ≡ true → every p xs ≡ true → every p (xs ++ y ∷ []) ≡ true
  every_push [] y r h = and_from (p y) true r refl
  every_push (x ∷ xs) y r h = and_from (p x) _ (and_parts (p x) (every p xs) h).0 (every_push xs y r (and_parts (p x) (every p xs) h).1)

  pub every_replicate : (n : ℕ) (y : X) → p y ≡ true → every p (replicate n y) ≡ true
  every_replicate zero y r = refl
  every_replicate (suc n) y r = and_from (p y) _ r (every_replicate n y r)

  pub every_weaker : (q : X → Bool) (xs : List X) → ((x : X) → p x ≡ true → q x ≡ true) → every p xs ≡ true → every q xs ≡ true
  every_weaker q [] w h = refl
  every_weaker q (x ∷ xs) w h = and_from (q x) _ (w x (and_parts (p x) (every p xs) h).0) (every_weaker q xs w (and_parts (p x) (every p xs) h).1)

  pub every_mapped : (f : X → X) (xs : List X) → ((x : X) → p x ≡ true → p (f x) ≡ true) → every p xs ≡ true → every p (map f xs) ≡ true
  every_mapped f [] w h = refl
  every_mapped f (x ∷ xs) w h = and_from (p (f x)) _ (w x (and_parts (p x) (every p xs) h).0) (every_mapped f xs w (and_parts (p x) (every p xs) h).1)

  pub kept_most : (xs : List X) → length (filter p xs) ≤ length xs
  kept_most [] = omega arith
  kept_most (x ∷ xs) = on (p x) (kept_most xs)
    where
      on : (t : Bool) → length (filter p xs) ≤ length xs → length (cond t (x ∷ filter p xs) (filter p xs)) ≤ length (x ∷ xs)
      on true ih = omega arith
      on false ih = omega arith

pub length_mapped : {X : Type 0} (f : X → X) (xs : List X) → length (map f xs) ≡ length xs
length_mapped f [] = refl
length_mapped f (x ∷ xs) = let e = length_mapped f xs in omega arith

-- ---- places
module _ (size : ℕ) (l : 0 < size) where
  pub place_of : (n reached : ℕ) → n < reached → is_place size reached (n * size) ≡ true
  place_of n reached h =
      let e : n * size / size ≡ n = mul-div_cancel n l in
      and_from _ _ (eq-eqb _ _ (ap (λ m. m * size) e)) (subst (λ m. ltb m reached ≡ true) (sym e) (lt-ltb n reached h))

  pub end_of : (n reached : ℕ) → n ≤ reached → is_end size reached (n * size) ≡ true
  end_of n reached h =
      let e : n * size / size ≡ n = mul-div_cancel n l in
      and_from _ _ (eq-eqb _ _ (ap (λ m. m * size) e)) (subst (λ m. leb m reached ≡ true) (sym e) (le-leb n reached h))

pub place_parts : (size reached o : ℕ) → is_place size reached o ≡ true → (o / size * size ≡ o) × (o / size < reached)
place_parts size reached o h = let hs = and_parts (eqb (o / size * size) o) _ h in (eqb-true _ _ hs.0, ltb-true _ _ hs.1)

pub end_parts : (size reached o : ℕ) → is_end size reached o ≡ true → (o / size * size ≡ o) × (o / size ≤ reached)
end_parts size reached o h = let hs = and_parts (eqb (o / size * size) o) _ h in (eqb-true _ _ hs.0, leb-true _ _ hs.1)

pub place_more : (size reached more o : ℕ) → reached ≤ more → is_place size reached o ≡ true → is_place size more o ≡ true
place_more size reached more o l h = let hs = and_parts (eqb (o / size * size) o) _ h in let r = ltb-true (o / size) reached hs.1 in and_from _ _ hs.0 (lt-ltb (o / size) more (omega arith))

module _ {X K : Type 0} (p : X → Bool) (key : X → K) (rank : K → K → Ordering) where
  pub every_insert : (rows : List X) (row : X) → p row ≡ true → every p rows ≡ true → every p (insert_row key rank rows row) ≡ true
  every_insert rows row = every_put p (towards key rank (key row)) row rows

  pub every_remove : (rows : List X) (k : K) → every p rows ≡ true → every p (remove_row key rank rows k) ≡ true
  every_remove rows k = every_cut p (towards key rank k) rows

pub suc_times : (m n : ℕ) → suc m * n ≡ m * n + n
suc_times m n = omega arith

-- the last of q places, where q is not 0
pub last_place : (q size tip : ℕ) → q * size ≡ tip → (tip ≡ 0 → ⊥) → (last : ℕ) × (suc last ≡ q) × (tip - size ≡ last * size)
last_place zero size tip e h = absurd (h (sym e ∙ zero_times size))
  where
    zero_times : (m : ℕ) → 0 * m ≡ 0
    zero_times m = omega arith
last_place (suc q) size tip e h = (q, refl, let f : suc q * size ≡ q * size + size = suc_times q size in omega arith)
