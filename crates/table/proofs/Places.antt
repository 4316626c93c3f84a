-- Where a search ends. Assumes nothing.
use Rattle.std.proofs.Common.{◌≡◌, ℕ, zero, suc, ◌+◌, ◌<◌, ◌≤◌, true, List, [], ◌∷◌, length, get_or, Ok, Err, Ordering, Less, Equal, Greater, refl, arith}
use Rattle.std.specs.Ordering.{is_lt}
use Rattle.std.proofs.lemmas.Bool.{and_parts}
use Rattle.std.proofs.lemmas.List.{get_or_read}
use Rattle.table.specs.Order.{Lawful}
use Rattle.table.specs.Rows.{every, place, towards, ascending}
use Rattle.table.proofs.Orders.{less_from, every_at, less_equal}

-- what stands next to the place i, below it and at it
abbrev pub Under : {X : Type 0} → (X → Ordering) → List X → ℕ → Type 0
Under {X} at xs i = (k : ℕ) (d : X) → k + 1 ≡ i → at (get_or xs k d) ≡ Less

abbrev pub Over : {X : Type 0} → (X → Ordering) → List X → ℕ → Type 0
Over {X} at xs i = (d : X) → i < length xs → at (get_or xs i d) ≡ Greater

module _ {X K : Type 0} (key : X → K) {rank : K → K → Ordering} (laws : Lawful rank) where
  pub head_less : (x : X) (xs : List X) (i : ℕ) (d : X) → ascending key rank (x ∷ xs) ≡ true → i < length xs → rank (key x) (key (get_or xs i d)) ≡ Less
  head_less x xs i d up l = less_from _ (every_at (λ y. is_lt (rank (key x) (key y))) xs i d (and_parts (every (λ y. is_lt (rank (key x) (key y))) xs) (ascending key rank xs) up).0 l)

  pub tail_up : (x : X) (xs : List X) → ascending key rank (x ∷ xs) ≡ true → ascending key rank xs ≡ true
  tail_up x xs up = (and_parts (every (λ y. is_lt (rank (key x) (key y))) xs) (ascending key rank xs) up).1

  pub place_at : (rows : List X) (k : K) (i : ℕ) (d : X) → ascending key rank rows ≡ true → i < length rows → rank (key (get_or rows i d)) k ≡ Equal → place key rank rows k ≡ Ok i
  place_at [] k i d up l e = absurd (omega arith)
  place_at (x ∷ xs) k zero d up l e = rw e
  place_at (x ∷ xs) k (suc i) d up l e =
      let h : rank (key x) k ≡ Less = less_equal laws (key x) (key (get_or xs i d)) k (head_less x xs i d up (omega arith)) e in
      rw (h, place_at xs k i d (tail_up x xs up) (omega arith) e)

  pub place_between : (rows : List X) (k : K) (i : ℕ) → ascending key rank rows ≡ true → i ≤ length rows → Under (towards key rank k) rows i → Over (towards key rank k) rows i → place key rank rows k ≡ Err i
  place_between [] k zero up l u o = refl
  place_between [] k (suc i) up l u o = absurd (omega arith)
  place_between (x ∷ xs) k zero up l u o = rw (o x (omega arith))
  place_between (x ∷ xs) k (suc i) up l u o =
      let h : rank (key x) k ≡ Less = first i l u in
      let r : place key rank xs k ≡ Err i = place_between xs k i (tail_up x xs up) (omega arith) (λ m e p. u (suc m) e (omega arith)) (λ e p. o e (omega arith)) in
      rw (h, r)
    where
      first : (i : ℕ) → suc i ≤ length (x ∷ xs) → Under (towards key rank k) (x ∷ xs) (suc i) → rank (key x) k ≡ Less
      first zero l u = u 0 x (omega arith)
      first (suc i) l u = laws.trans (key x) (key (get_or xs i x)) k (head_less x xs i x up (omega arith)) (u (suc i) x (omega arith))

  -- one step of the halving
  pub under_next : (rows : List X) (k : K) (m : ℕ) (x : X) → m < length rows → x ≡ get_or rows m x → rank (key x) k ≡ Less → Under (towards key rank k) rows (m + 1)
  under_next rows k m x l r e j d p =
      let q : j ≡ m = omega arith in
      let s : x ≡ get_or rows m d = get_or_read rows m x l r d in
      rw (q, ← s) e

  pub over_here : (rows : List X) (k : K) (m : ℕ) (x : X) → m < length rows → x ≡ get_or rows m x → rank (key x) k ≡ Greater → Over (towards key rank k) rows m
  over_here rows k m x l r e d p = let s : x ≡ get_or rows m d = get_or_read rows m x l r d in rw (← s) e
