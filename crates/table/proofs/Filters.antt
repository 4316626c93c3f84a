-- What a test keeps of rows. A test that fails from some row on keeps the rows before it, so a range is two such cuts. Assumes nothing.
use Rattle.std.proofs.Common.{◌≡◌, ℕ, zero, suc, Bool, true, false, cond, not, ◌&&◌, List, [], ◌∷◌, ◌++◌, ◌≤◌, length, get_or, take, drop, Some, None, filter, Option, Ordering, Less, Equal, Greater, sym, refl, ap, ◌∙◌, true≢false, arith}
use Rattle.std.specs.Ordering.{is_lt}
use Rattle.std.specs.List.{ContainsAt as Has}
use Rattle.std.specs.List.Sorted.{IsPartitionedBy, IsPartitionPoint}
use Rattle.std.proofs.lemmas.Bool.{and_parts, and_from}
use Rattle.table.specs.Order.{Lawful}
use Rattle.table.specs.Rows.{every, by, find, ascending}
use Rattle.table.proofs.Orders.{less_from}
use Rattle.table.proofs.Places.{head_less, tail_up}
use Rattle.table.proofs.Laws.{find_tail, greater_is_not}

module _ {X : Type 0} where
  -- two tests that agree on the rows keep the same
  pub kept_same_on : (p q : X → Bool) (xs : List X) → ((x : X) → Has xs x → p x ≡ q x) → filter p xs ≡ filter q xs
  kept_same_on p q [] h = refl
  kept_same_on p q (x ∷ xs) h =
      let e : p x ≡ q x = h x (0, omega arith, λ d. refl) in
      let r : filter p xs ≡ filter q xs = kept_same_on p q xs (λ y m. h y (suc m.0, omega arith, m.2)) in
      λ i. cond (e i) (x ∷ r i) (r i)

  pub kept_same : (p q : X → Bool) (xs : List X) → ((x : X) → p x ≡ q x) → filter p xs ≡ filter q xs
  kept_same p q xs h = kept_same_on p q xs (λ x m. h x)

  -- one test after another
  pub kept_kept : (p q : X → Bool) (xs : List X) → filter q (filter p xs) ≡ filter (λ x. p x && q x) xs
  kept_kept p q [] = refl
  kept_kept p q (x ∷ xs) = on (p x) (q x) refl (kept_kept p q xs)
    where
      on : (a b : Bool) → q x ≡ b → filter q (filter p xs) ≡ filter (λ x. p x && q x) xs → filter q (cond a (x ∷ filter p xs) (filter p xs)) ≡ cond (a && b) (x ∷ filter (λ x. p x && q x) xs) (filter (λ x. p x && q x) xs)
      on true true e ih = rw e (ap (λ l. x ∷ l) ih)
      on true false e ih = rw e ih
      on false b e ih = ih

  none_kept : (p : X → Bool) (xs : List X) → every (λ x. not (p x)) xs ≡ true → (filter p xs ≡ []) × (filter (λ x. not (p x)) xs ≡ xs)
  none_kept p [] h = (refl, refl)
  none_kept p (x ∷ xs) h = on (p x) (and_parts (not (p x)) (every (λ y. not (p y)) xs) h).0 (none_kept p xs (and_parts (not (p x)) (every (λ y. not (p y)) xs) h).1)
    where
      on : (b : Bool) → not b ≡ true → (filter p xs ≡ []) × (filter (λ y. not (p y)) xs ≡ xs) → (cond b (x ∷ filter p xs) (filter p xs) ≡ []) × (cond (not b) (x ∷ filter (λ y. not (p y)) xs) (filter (λ y. not (p y)) xs) ≡ (x ∷ xs))
      on true e ih = absurd (true≢false (sym e))
      on false e ih = (ih.0, ap (λ l. x ∷ l) ih.1)

  -- the members of what a test keeps are those that pass it
  pub has_kept : (p : X → Bool) (xs : List X) (x : X) → Has xs x → p x ≡ true → Has (filter p xs) x
  has_kept p [] x (k, l, at) h = absurd (omega arith)
  has_kept p (y ∷ ys) x (zero, l, at) h = on (p y) (ap p (at y) ∙ h)
    where
      on : (b : Bool) → b ≡ true → Has (cond b (y ∷ filter p ys) (filter p ys)) x
      on true e = (0, omega arith, λ d. at d)
      on false e = absurd (true≢false (sym e))
  has_kept p (y ∷ ys) x (suc k, l, at) h = on (p y) (has_kept p ys x (k, omega arith, at) h)
    where
      on : (b : Bool) → Has (filter p ys) x → Has (cond b (y ∷ filter p ys) (filter p ys)) x
      on true m = (suc m.0, omega arith, m.2)
      on false m = m

  pub has_from_kept : (p : X → Bool) (xs : List X) (x : X) → Has (filter p xs) x → Has xs x × (p x ≡ true)
  has_from_kept p [] x (k, l, at) = absurd (omega arith)
  has_from_kept p (y ∷ ys) x h = on (p y) refl h (has_from_kept p ys x)
    where
      on : (b : Bool) → p y ≡ b → Has (cond b (y ∷ filter p ys) (filter p ys)) x → (Has (filter p ys) x → Has ys x × (p x ≡ true)) → Has (y ∷ ys) x × (p x ≡ true)
      on true e (zero, l, at) ih = ((0, omega arith, λ d. at d), ap p (sym (at y)) ∙ e)
      on true e (suc k, l, at) ih = let m = ih (k, omega arith, at) in ((suc m.0.0, omega (arith, m.0.1), m.0.2), m.1)
      on false e m ih = let n = ih m in ((suc n.0.0, omega (arith, n.0.1), n.0.2), n.1)

  pub every_kept : (p q : X → Bool) (xs : List X) → every q xs ≡ true → every q (filter p xs) ≡ true
  every_kept p q [] h = refl
  every_kept p q (x ∷ xs) h = on (p x) (every_kept p q xs (and_parts (q x) (every q xs) h).1)
    where
      on : (b : Bool) → every q (filter p xs) ≡ true → every q (cond b (x ∷ filter p xs) (filter p xs)) ≡ true
      on true ih = and_from (q x) (every q (filter p xs)) (and_parts (q x) (every q xs) h).0 ih
      on false ih = ih

  every_drop : (q : X → Bool) (n : ℕ) (xs : List X) → every q xs ≡ true → every q (drop n xs) ≡ true
  every_drop q zero [] h = refl
  every_drop q zero (x ∷ xs) h = h
  every_drop q (suc n) [] h = refl
  every_drop q (suc n) (x ∷ xs) h = every_drop q n xs (and_parts (q x) (every q xs) h).1

  every_outside : (q : X → Bool) (s e : ℕ) (xs : List X) → s ≤ e → every q xs ≡ true → every q (take s xs ++ drop e xs) ≡ true
  every_outside q zero e xs l h = every_drop q e xs h
  every_outside q (suc s) zero xs l h = absurd (omega (arith, l))
  every_outside q (suc s) (suc e) [] l h = refl
  every_outside q (suc s) (suc e) (x ∷ xs) l h =
      let parts = and_parts (q x) (every q xs) h in
      and_from (q x) (every q (take s xs ++ drop e xs)) parts.0 (every_outside q s e xs (omega (arith, l)) parts.1)

module _ {X K : Type 0} (key : X → K) {rank : K → K → Ordering} (laws : Lawful rank) where
  pub ascending_kept : (p : X → Bool) (rows : List X) → ascending key rank rows ≡ true → ascending key rank (filter p rows) ≡ true
  ascending_kept p [] up = refl
  ascending_kept p (x ∷ xs) up = on (p x) (ascending_kept p xs (tail_up key laws x xs up))
    where
      on : (b : Bool) → ascending key rank (filter p xs) ≡ true → ascending key rank (cond b (x ∷ filter p xs) (filter p xs)) ≡ true
      on true ih = and_from _ _ (every_kept p (λ y. is_lt (rank (key x) (key y))) xs (and_parts (every (λ y. is_lt (rank (key x) (key y))) xs) (ascending key rank xs) up).0) ih
      on false ih = ih

  pub ascending_drop : (n : ℕ) (rows : List X) → ascending key rank rows ≡ true → ascending key rank (drop n rows) ≡ true
  ascending_drop zero [] up = refl
  ascending_drop zero (x ∷ xs) up = up
  ascending_drop (suc n) [] up = refl
  ascending_drop (suc n) (x ∷ xs) up = ascending_drop n xs (tail_up key laws x xs up)

  -- the rows before one place and behind another
  pub ascending_outside : (s e : ℕ) (rows : List X) → s ≤ e → ascending key rank rows ≡ true → ascending key rank (take s rows ++ drop e rows) ≡ true
  ascending_outside zero e rows l up = ascending_drop e rows up
  ascending_outside (suc s) zero rows l up = absurd (omega (arith, l))
  ascending_outside (suc s) (suc e) [] l up = refl
  ascending_outside (suc s) (suc e) (x ∷ xs) l up =
      and_from _ _ (every_outside (λ y. is_lt (rank (key x) (key y))) s e xs (omega (arith, l)) (and_parts (every (λ y. is_lt (rank (key x) (key y))) xs) (ascending key rank xs) up).0) (ascending_outside s e xs (omega (arith, l)) (tail_up key laws x xs up))

  -- a look-up among the rows that a test of the key keeps
  pub find_kept : (t : K → Bool) (rows : List X) (k : K) → ascending key rank rows ≡ true → find key rank (filter (λ x. t (key x)) rows) k ≡ cond (t k) (find key rank rows k) None
  find_kept t [] k up = on (t k)
    where
      on : (b : Bool) → None ≡ cond {A = Option X} b None None
      on true = refl
      on false = refl
  find_kept t (x ∷ xs) k up = on (rank (key x) k) (t (key x)) refl refl (find_kept t xs k (tail_up key laws x xs up))
    where
      both : (b : Bool) → None ≡ cond {A = Option X} b None None
      both true = refl
      both false = refl

      none : rank (key x) k ≡ Greater → find key rank xs k ≡ None
      none e = find_tail key laws x xs k Greater up e (λ z. greater_is_not key laws z)

      on : (o : Ordering) (b : Bool) → rank (key x) k ≡ o → t (key x) ≡ b → find key rank (filter (λ x. t (key x)) xs) k ≡ cond (t k) (find key rank xs k) None → find key rank (cond b (x ∷ filter (λ x. t (key x)) xs) (filter (λ x. t (key x)) xs)) k ≡ cond (t k) (by o (find key rank xs k) (Some x) None) None
      on Less true e f ih = rw e ih
      on Less false e f ih = ih
      on Equal true e f ih = let g : t k ≡ true = ap t (sym (laws.same (key x) k e)) ∙ f in rw (e, g)
      on Equal false e f ih = let g : t k ≡ false = ap t (sym (laws.same (key x) k e)) ∙ f in rw g (rw g at ih)
      on Greater true e f ih = rw e (both (t k))
      on Greater false e f ih = ih ∙ ap (λ z. cond (t k) z None) (none e)

  -- p fails from some row on
  module _ (p : X → Bool) (mono : (x y : X) → rank (key x) (key y) ≡ Less → p y ≡ true → p x ≡ true) where
    fails : (x : X) → p x ≡ false → (y : X) → is_lt (rank (key x) (key y)) ≡ true → not (p y) ≡ true
    fails x e y l = on (p y) refl
      where
        on : (b : Bool) → p y ≡ b → not b ≡ true
        on true h = absurd (true≢false (sym (mono x y (less_from _ l) h) ∙ e))
        on false h = refl

    every_fails : (x : X) (xs : List X) → p x ≡ false → every (λ y. is_lt (rank (key x) (key y))) xs ≡ true → every (λ y. not (p y)) xs ≡ true
    every_fails x [] e h = refl
    every_fails x (y ∷ ys) e h =
        let hs = and_parts (is_lt (rank (key x) (key y))) (every (λ z. is_lt (rank (key x) (key z))) ys) h in
        and_from (not (p y)) (every (λ z. not (p z)) ys) (fails x e y hs.0) (every_fails x ys e hs.1)

    -- nothing is kept behind a row at which it fails
    pub behind_none : (x : X) (xs : List X) → ascending key rank (x ∷ xs) ≡ true → p x ≡ false → filter p xs ≡ []
    behind_none x xs up e = (none_kept p xs (every_fails x xs e (and_parts (every (λ y. is_lt (rank (key x) (key y))) xs) (ascending key rank xs) up).0)).0

    -- what it keeps are the rows in front, and the others those behind
    pub front_kept : (rows : List X) → ascending key rank rows ≡ true → (filter p rows ≡ take (length (filter p rows)) rows) × (filter (λ x. not (p x)) rows ≡ drop (length (filter p rows)) rows)
    front_kept [] up = (refl, refl)
    front_kept (x ∷ xs) up = on (p x) refl (front_kept xs (tail_up key laws x xs up))
      where
        none : p x ≡ false → (filter p xs ≡ []) × (filter (λ y. not (p y)) xs ≡ xs)
        none e = none_kept p xs (every_fails x xs e (and_parts (every (λ y. is_lt (rank (key x) (key y))) xs) (ascending key rank xs) up).0)

        on : (b : Bool) → p x ≡ b → (filter p xs ≡ take (length (filter p xs)) xs) × (filter (λ y. not (p y)) xs ≡ drop (length (filter p xs)) xs) → (cond b (x ∷ filter p xs) (filter p xs) ≡ take (length (cond b (x ∷ filter p xs) (filter p xs))) (x ∷ xs)) × (cond (not b) (x ∷ filter (λ y. not (p y)) xs) (filter (λ y. not (p y)) xs) ≡ drop (length (cond b (x ∷ filter p xs) (filter p xs))) (x ∷ xs))
        on true e ih = (ap (λ l. x ∷ l) ih.0, ih.1)
        on false e ih =
            let n = none e in
            let m : filter p xs ≡ [] = n.0 in
            (rw m, rw m (ap (λ l. x ∷ l) n.1))

-- ---- where a test begins to fail
module _ {X : Type 0} (p : X → Bool) where
  -- the place that parts the rows by the test is the number of those that pass it
  pub parted_count : (xs : List X) (i : ℕ) → i ≤ length xs → IsPartitionPoint (λ x. p x ≡ true) (λ x. p x ≡ false) xs i → i ≡ length (filter p xs)
  parted_count [] i l h = omega (arith, l)
  parted_count (x ∷ xs) zero l h =
      let fails : p x ≡ false = h.1 0 x (omega arith) (omega arith) in
      rw fails (parted_count xs zero (omega arith) ((λ k d low high. absurd (omega (arith, high))), (λ k d low high. h.1 (suc k) d (omega arith) (omega (arith, high)))))
  parted_count (x ∷ xs) (suc i) l h =
      let passes : p x ≡ true = h.0 0 x (omega arith) (omega arith) in
      rw passes (ap suc (parted_count xs i (omega (arith, l)) ((λ k d low high. h.0 (suc k) d (omega arith) (omega (arith, high))), (λ k d low high. h.1 (suc k) d (omega (arith, low)) (omega (arith, high))))))

module _ {X K : Type 0} (key : X → K) {rank : K → K → Ordering} (laws : Lawful rank) (p : X → Bool) (mono : (x y : X) → rank (key x) (key y) ≡ Less → p y ≡ true → p x ≡ true) where
  -- a test that fails from some row on parts rows that ascend
  pub parted : (rows : List X) → ascending key rank rows ≡ true → IsPartitionedBy p rows
  parted [] up i j d le l t = absurd (omega (arith, l))
  parted (x ∷ xs) up zero zero d le l t = t
  parted (x ∷ xs) up zero (suc j) d le l t = mono x (get_or xs j d) (head_less key laws x xs j d up (omega (arith, l))) t
  parted (x ∷ xs) up (suc i) zero d le l t = absurd (omega (arith, le))
  parted (x ∷ xs) up (suc i) (suc j) d le l t = parted xs (tail_up key laws x xs up) i j d (omega (arith, le)) (omega (arith, l)) t
