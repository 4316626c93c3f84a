-- What every client of the table cites, over any row. Assumes nothing.
use Rattle.std.proofs.Common.{◌≡◌, ℕ, suc, ◌+◌, Bool, true, ◌⊎◌, List, [], ◌∷◌, length, get_or, Some, None, Ok, Err, Option, Result, Ordering, Less, Equal, Greater, sym, refl, ap, ◌∙◌, inl, inr, arith, length-set}
use Rattle.std.specs.Ordering.{is_lt}
use Rattle.std.specs.List.{ContainsAt as Has}
use Rattle.std.proofs.lemmas.Bool.{and_parts, and_from}
use Rattle.std.proofs.lemmas.List.Edits.{length-insert, length-remove as length_removed}
use Rattle.table.specs.Order.{Lawful}
use Rattle.table.specs.Rows.{every, by, put_by, cut_by, towards, place, find, insert_row, remove_row, ascending}
use Rattle.table.proofs.Orders.{less_from, rank_refl, rank_same, less_greater, greater_less}
use Rattle.table.proofs.Places.{tail_up, place_at}
use Rattle.table.proofs.Edits.{Told, told}

never : {X : Type 0} (G : Type 0) (x : X) (o : Option X) → o ≡ Some x → o ≡ None → G
never G x o p q = let z : ◌≡◌ {A = ℕ} 0 1 = cc in absurd (omega arith)

off : (G : Type 0) (o : Ordering) → o ≡ Less → o ≡ Greater → G
off G o p q = let z : ◌≡◌ {A = ℕ} 0 1 = cc in absurd (omega arith)

pub every_mono : {X : Type 0} (p q : X → Bool) (xs : List X) → ((y : X) → p y ≡ true → q y ≡ true) → every p xs ≡ true → every q xs ≡ true
every_mono p q [] m h = refl
every_mono p q (x ∷ xs) m h = and_from (q x) (every q xs) (m x (and_parts (p x) (every p xs) h).0) (every_mono p q xs m (and_parts (p x) (every p xs) h).1)

pub every_put : {X : Type 0} (p : X → Bool) (at : X → Ordering) (row : X) (xs : List X) → every p xs ≡ true → p row ≡ true → every p (put_by at row xs) ≡ true
every_put p at row [] h r = and_from (p row) true r refl
every_put {X} p at row (x ∷ xs) h r = on (every_put p at row xs (and_parts (p x) (every p xs) h).1 r) (at x)
  where
    on : every p (put_by at row xs) ≡ true → (o : Ordering) → every p (by o (x ∷ put_by at row xs) (row ∷ xs) (row ∷ (x ∷ xs))) ≡ true
    on ih Less = and_from (p x) (every p (put_by at row xs)) (and_parts (p x) (every p xs) h).0 ih
    on ih Equal = and_from (p row) (every p xs) r (and_parts (p x) (every p xs) h).1
    on ih Greater = and_from (p row) (every p (x ∷ xs)) r h

pub every_cut : {X : Type 0} (p : X → Bool) (at : X → Ordering) (xs : List X) → every p xs ≡ true → every p (cut_by at xs) ≡ true
every_cut p at [] h = refl
every_cut {X} p at (x ∷ xs) h = on (every_cut p at xs (and_parts (p x) (every p xs) h).1) (at x)
  where
    on : every p (cut_by at xs) ≡ true → (o : Ordering) → every p (by o (x ∷ cut_by at xs) xs (x ∷ xs)) ≡ true
    on ih Less = and_from (p x) (every p (cut_by at xs)) (and_parts (p x) (every p xs) h).0 ih
    on ih Equal = (and_parts (p x) (every p xs) h).1
    on ih Greater = h

module _ {X K : Type 0} (key : X → K) {rank : K → K → Ordering} (laws : Lawful rank) where
  -- ---- the order is kept
  pub ascending_insert : (rows : List X) (row : X) → ascending key rank rows ≡ true → ascending key rank (insert_row key rank rows row) ≡ true
  ascending_insert [] row up = refl
  ascending_insert (x ∷ xs) row up = on (ascending_insert xs row (tail_up key laws x xs up)) (rank (key x) (key row)) refl
    where
      parts : (every (λ y. is_lt (rank (key x) (key y))) xs ≡ true) × (ascending key rank xs ≡ true)
      parts = and_parts (every (λ y. is_lt (rank (key x) (key y))) xs) (ascending key rank xs) up

      on : ascending key rank (insert_row key rank xs row) ≡ true → (o : Ordering) → rank (key x) (key row) ≡ o → ascending key rank (by o (x ∷ insert_row key rank xs row) (row ∷ xs) (row ∷ (x ∷ xs))) ≡ true
      on ih Less e = and_from _ _ (every_put (λ y. is_lt (rank (key x) (key y))) (towards key rank (key row)) row xs parts.0 (ap is_lt e)) ih
      on ih Equal e =
          let k : key x ≡ key row = laws.same (key x) (key row) e in
          let a : every (λ y. is_lt (rank (key row) (key y))) xs ≡ true = rw (← k) parts.0 in
          and_from _ _ a parts.1
      on ih Greater e =
          let l : rank (key row) (key x) ≡ Less = greater_less laws (key x) (key row) e in
          let m : every (λ y. is_lt (rank (key row) (key y))) xs ≡ true = every_mono (λ y. is_lt (rank (key x) (key y))) (λ y. is_lt (rank (key row) (key y))) xs (λ y h. ap is_lt (laws.trans (key row) (key x) (key y) l (less_from _ h))) parts.0 in
          and_from _ _ (and_from _ _ (ap is_lt l) m) up

  pub ascending_remove : (rows : List X) (k : K) → ascending key rank rows ≡ true → ascending key rank (remove_row key rank rows k) ≡ true
  ascending_remove [] k up = refl
  ascending_remove (x ∷ xs) k up = on (ascending_remove xs k (tail_up key laws x xs up)) (rank (key x) k)
    where
      parts : (every (λ y. is_lt (rank (key x) (key y))) xs ≡ true) × (ascending key rank xs ≡ true)
      parts = and_parts (every (λ y. is_lt (rank (key x) (key y))) xs) (ascending key rank xs) up

      on : ascending key rank (remove_row key rank xs k) ≡ true → (o : Ordering) → ascending key rank (by o (x ∷ remove_row key rank xs k) xs (x ∷ xs)) ≡ true
      on ih Less = and_from _ _ (every_cut (λ y. is_lt (rank (key x) (key y))) (towards key rank k) xs parts.0) ih
      on ih Equal = parts.1
      on ih Greater = up

  -- ---- look-ups after an insert
  pub find_insert_same : (rows : List X) (row : X) → find key rank (insert_row key rank rows row) (key row) ≡ Some row
  find_insert_same [] row = rw (rank_refl laws (key row))
  find_insert_same (x ∷ xs) row = on (find_insert_same xs row) (rank (key x) (key row)) refl
    where
      on : find key rank (insert_row key rank xs row) (key row) ≡ Some row → (o : Ordering) → rank (key x) (key row) ≡ o → find key rank (by o (x ∷ insert_row key rank xs row) (row ∷ xs) (row ∷ (x ∷ xs))) (key row) ≡ Some row
      on ih Less e = rw e ih
      on ih Equal e = rw (rank_refl laws (key row))
      on ih Greater e = rw (rank_refl laws (key row))

  pub find_insert_other : (rows : List X) (row : X) (k : K) → (key row ≡ k → ⊥) → find key rank (insert_row key rank rows row) k ≡ find key rank rows k
  find_insert_other [] row k ne = on (rank (key row) k) refl
    where
      on : (o : Ordering) → rank (key row) k ≡ o → by o None (Some row) None ≡ None
      on Less e = refl
      on Equal e = absurd (ne (laws.same (key row) k e))
      on Greater e = refl
  find_insert_other (x ∷ xs) row k ne = on (find_insert_other xs row k ne) (rank (key x) (key row)) refl
    where
      less : (o : Ordering) (f g : Option X) → f ≡ g → by o f (Some x) None ≡ by o g (Some x) None
      less o f g e = rw e

      equal : (o : Ordering) → rank (key x) k ≡ o → rank (key row) k ≡ o → by (rank (key row) k) (find key rank xs k) (Some row) None ≡ by (rank (key x) k) (find key rank xs k) (Some x) None
      equal Less p q = rw (p, q)
      equal Equal p q = absurd (ne (laws.same (key row) k q))
      equal Greater p q = rw (p, q)

      greater : (o : Ordering) → rank (key row) k ≡ o → rank (key row) (key x) ≡ Less → by (rank (key row) k) (find key rank (x ∷ xs) k) (Some row) None ≡ find key rank (x ∷ xs) k
      greater Less p l = rw p
      greater Equal p l = absurd (ne (laws.same (key row) k p))
      greater Greater p l =
          let m : rank (key x) k ≡ Greater = less_greater laws k (key x) (laws.trans k (key row) (key x) (greater_less laws (key row) k p) l) in
          rw (p, m)

      on : find key rank (insert_row key rank xs row) k ≡ find key rank xs k → (o : Ordering) → rank (key x) (key row) ≡ o → find key rank (by o (x ∷ insert_row key rank xs row) (row ∷ xs) (row ∷ (x ∷ xs))) k ≡ find key rank (x ∷ xs) k
      on ih Less e = less (rank (key x) k) _ _ ih
      on ih Equal e = equal (rank (key x) k) refl (ap (λ z. rank z k) (sym (laws.same (key x) (key row) e)))
      on ih Greater e = greater (rank (key row) k) refl (greater_less laws (key x) (key row) e)

  -- ---- look-ups after a removal, in rows that ascend
  pub find_above : (xs : List X) (k : K) → every (λ y. is_lt (rank k (key y))) xs ≡ true → find key rank xs k ≡ None
  find_above [] k h = refl
  find_above (x ∷ xs) k h =
      let m : rank (key x) k ≡ Greater = less_greater laws k (key x) (less_from _ (and_parts (is_lt (rank k (key x))) (every (λ y. is_lt (rank k (key y))) xs) h).0) in
      rw m

  -- a key that is not above the first row's is in none of the later rows
  pub find_tail : (x : X) (xs : List X) (k : K) (o : Ordering) → ascending key rank (x ∷ xs) ≡ true → rank (key x) k ≡ o → (o ≡ Less → ⊥) → find key rank xs k ≡ None
  find_tail x xs k Less up e n = absurd (n refl)
  find_tail x xs k Equal up e n =
      let s : key x ≡ k = laws.same (key x) k e in
      find_above xs k (rw (← s) (and_parts (every (λ y. is_lt (rank (key x) (key y))) xs) (ascending key rank xs) up).0)
  find_tail x xs k Greater up e n =
      find_above xs k (every_mono (λ y. is_lt (rank (key x) (key y))) (λ y. is_lt (rank k (key y))) xs (λ y h. ap is_lt (laws.trans k (key x) (key y) (greater_less laws (key x) k e) (less_from _ h))) (and_parts (every (λ y. is_lt (rank (key x) (key y))) xs) (ascending key rank xs) up).0)

  equal_less : Equal ≡ Less → ⊥
  equal_less e = off ⊥ Less refl (let z : Less ≡ Greater = cc in z)

  equal_greater : Equal ≡ Greater → ⊥
  equal_greater e = off ⊥ Less refl (let z : Less ≡ Greater = cc in z)

  pub greater_is_not : Greater ≡ Less → ⊥
  greater_is_not e = off ⊥ Less refl (sym e)

  pub find_remove_same : (rows : List X) (k : K) → ascending key rank rows ≡ true → find key rank (remove_row key rank rows k) k ≡ None
  find_remove_same [] k up = refl
  find_remove_same (x ∷ xs) k up = on (find_remove_same xs k (tail_up key laws x xs up)) (rank (key x) k) refl
    where
      on : find key rank (remove_row key rank xs k) k ≡ None → (o : Ordering) → rank (key x) k ≡ o → find key rank (by o (x ∷ remove_row key rank xs k) xs (x ∷ xs)) k ≡ None
      on ih Less e = rw e ih
      on ih Equal e = find_tail x xs k Equal up e equal_less
      on ih Greater e = rw e

  pub find_remove_other : (rows : List X) (k j : K) → ascending key rank rows ≡ true → (k ≡ j → ⊥) → find key rank (remove_row key rank rows k) j ≡ find key rank rows j
  find_remove_other [] k j up ne = refl
  find_remove_other (x ∷ xs) k j up ne = on (find_remove_other xs k j (tail_up key laws x xs up) ne) (rank (key x) k) refl
    where
      less : (o : Ordering) (f g : Option X) → f ≡ g → by o f (Some x) None ≡ by o g (Some x) None
      less o f g e = rw e

      equal : (o : Ordering) → rank (key x) j ≡ o → key x ≡ k → find key rank xs j ≡ by (rank (key x) j) (find key rank xs j) (Some x) None
      equal Less p s = rw p
      equal Equal p s = absurd (ne (sym s ∙ laws.same (key x) j p))
      equal Greater p s = rw p (find_tail x xs j Greater up p greater_is_not)

      on : find key rank (remove_row key rank xs k) j ≡ find key rank xs j → (o : Ordering) → rank (key x) k ≡ o → find key rank (by o (x ∷ remove_row key rank xs k) xs (x ∷ xs)) j ≡ find key rank (x ∷ xs) j
      on ih Less e = less (rank (key x) j) _ _ ih
      on ih Equal e = equal (rank (key x) j) refl (laws.same (key x) k e)
      on ih Greater e = refl

  -- ---- members
  -- the row that is found has the key
  pub find_key : (rows : List X) (k : K) (x : X) → find key rank rows k ≡ Some x → key x ≡ k
  find_key [] k x h = never (key x ≡ k) x None h refl
  find_key (y ∷ ys) k x h = on (find_key ys k x) (rank (key y) k) refl h
    where
      on : (find key rank ys k ≡ Some x → key x ≡ k) → (o : Ordering) → rank (key y) k ≡ o → by o (find key rank ys k) (Some y) None ≡ Some x → key x ≡ k
      on ih Less e h = ih h
      on ih Equal e h = let s : y ≡ x = cc in rw (← s) (laws.same (key y) k e)
      on ih Greater e h = never (key x ≡ k) x None h refl

  pub has_find : (rows : List X) (x : X) → ascending key rank rows ≡ true → Has rows x → find key rank rows (key x) ≡ Some x
  has_find rows x up h =
      let i = h.0 in
      let e : get_or rows i x ≡ x = h.2 x in
      let q : rank (key (get_or rows i x)) (key x) ≡ Equal = rw e (rank_refl laws (key x)) in
      let p : place key rank rows (key x) ≡ Ok i = place_at key laws rows (key x) i x up h.1 q in
      let t : Told rows x (Ok i) (find key rank rows (key x)) (put_by (towards key rank (key x)) x rows) (remove_row key rank rows (key x)) = rw p at (told (towards key rank (key x)) rows x) in
      t.1 ∙ ap Some e

  pub find_has : (rows : List X) (k : K) (x : X) → find key rank rows k ≡ Some x → Has rows x
  find_has [] k x h = never (Has [] x) x None h refl
  find_has (y ∷ ys) k x h = on (find_has ys k x) (rank (key y) k) h
    where
      on : (find key rank ys k ≡ Some x → Has ys x) → (o : Ordering) → by o (find key rank ys k) (Some y) None ≡ Some x → Has (y ∷ ys) x
      on ih Less h = let m = ih h in (suc m.0, omega arith, m.2)
      on ih Equal h = (0, omega arith, λ d. let s : y ≡ x = cc in s)
      on ih Greater h = never (Has (y ∷ ys) x) x None h refl

  -- ---- lengths
  count_put : (rows : List X) (row : X) (r : Result ℕ ℕ) (f : Option X) (p c : List X) → Told rows row r f p c → (f ≡ None → length p ≡ length rows + 1) × ((x : X) → f ≡ Some x → length p ≡ length rows)
  count_put rows row (Ok i) f p c h = (λ e. never _ _ f h.1 e, λ x e. ap length h.2 ∙ length-set rows i row)
  count_put rows row (Err i) f p c h = (λ e. ap length h.2 ∙ length-insert rows i row h.0, λ x e. never _ x f e h.1)

  count_cut : (rows : List X) (row : X) (r : Result ℕ ℕ) (f : Option X) (p c : List X) → Told rows row r f p c → (f ≡ None → c ≡ rows) × ((x : X) → f ≡ Some x → length c + 1 ≡ length rows)
  count_cut rows row (Ok i) f p c h = (λ e. never _ _ f h.1 e, λ x e. rw h.3 (length_removed rows i h.0))
  count_cut rows row (Err i) f p c h = (λ e. h.3, λ x e. never _ x f e h.1)

  pub length_insert_new : (rows : List X) (row : X) → find key rank rows (key row) ≡ None → length (insert_row key rank rows row) ≡ length rows + 1
  length_insert_new rows row e = (count_put rows row _ _ _ _ (told (towards key rank (key row)) rows row)).0 e

  pub length_insert_old : (rows : List X) (row x : X) → find key rank rows (key row) ≡ Some x → length (insert_row key rank rows row) ≡ length rows
  length_insert_old rows row x e = (count_put rows row _ _ _ _ (told (towards key rank (key row)) rows row)).1 x e

  pub remove_absent : (rows : List X) (k : K) → find key rank rows k ≡ None → remove_row key rank rows k ≡ rows
  remove_absent [] k e = refl
  remove_absent (x ∷ xs) k e = (count_cut (x ∷ xs) x _ _ _ _ (told (towards key rank k) (x ∷ xs) x)).0 e

  pub length_remove : (rows : List X) (k : K) (x : X) → find key rank rows k ≡ Some x → length (remove_row key rank rows k) + 1 ≡ length rows
  length_remove rows k x e = (count_cut rows x _ _ _ _ (told (towards key rank k) rows x)).1 x e

  -- ---- rows that ascend are determined by what is found
  pub find_first : (x : X) (xs : List X) → find key rank (x ∷ xs) (key x) ≡ Some x
  find_first x xs = rw (rank_refl laws (key x))

  find_below : (x : X) (xs : List X) (k : K) → rank k (key x) ≡ Less → find key rank (x ∷ xs) k ≡ None
  find_below x xs k e = rw (less_greater laws k (key x) e)

  same_tail : (x : X) (xs ys : List X) (k : K) (o : Ordering) → rank (key x) k ≡ o → ascending key rank (x ∷ xs) ≡ true → ascending key rank (x ∷ ys) ≡ true → find key rank (x ∷ xs) k ≡ find key rank (x ∷ ys) k → find key rank xs k ≡ find key rank ys k
  same_tail x xs ys k Less e up vp h = rw e at h
  same_tail x xs ys k Equal e up vp h = find_tail x xs k Equal up e equal_less ∙ sym (find_tail x ys k Equal vp e equal_less)
  same_tail x xs ys k Greater e up vp h = find_tail x xs k Greater up e greater_is_not ∙ sym (find_tail x ys k Greater vp e greater_is_not)

  pub same_rows : (xs ys : List X) → ascending key rank xs ≡ true → ascending key rank ys ≡ true → ((k : K) → find key rank xs k ≡ find key rank ys k) → xs ≡ ys
  same_rows [] [] up vp h = refl
  same_rows [] (y ∷ ys) up vp h = never ([] ≡ (y ∷ ys)) y (find key rank (y ∷ ys) (key y)) (find_first y ys) (sym (h (key y)))
  same_rows (x ∷ xs) [] up vp h = never ((x ∷ xs) ≡ []) x (find key rank (x ∷ xs) (key x)) (find_first x xs) (h (key x))
  same_rows (x ∷ xs) (y ∷ ys) up vp h = on (same_rows xs ys (tail_up key laws x xs up) (tail_up key laws y ys vp)) (rank (key x) (key y)) refl
    where
      on : (((k : K) → find key rank xs k ≡ find key rank ys k) → xs ≡ ys) → (o : Ordering) → rank (key x) (key y) ≡ o → (x ∷ xs) ≡ (y ∷ ys)
      on ih Less e = never _ x (find key rank (y ∷ ys) (key x)) (sym (h (key x)) ∙ find_first x xs) (find_below y ys (key x) e)
      on ih Equal e =
          let s : find key rank (y ∷ ys) (key x) ≡ Some y = ap (find key rank (y ∷ ys)) (laws.same (key x) (key y) e) ∙ find_first y ys in
          let t : find key rank (y ∷ ys) (key x) ≡ Some x = sym (h (key x)) ∙ find_first x xs in
          let q : y ≡ x = cc in
          let vq : ascending key rank (x ∷ ys) ≡ true = rw q at vp in
          let hq : (k : K) → find key rank (x ∷ xs) k ≡ find key rank (x ∷ ys) k = λ k. rw q at (h k) in
          let tails : xs ≡ ys = ih (λ k. same_tail x xs ys k (rank (key x) k) refl up vq (hq k)) in
          cc
      on ih Greater e = never _ y (find key rank (x ∷ xs) (key y)) (h (key y) ∙ find_first y ys) (find_below x xs (key y) (greater_less laws (key x) (key y) e))

  -- the same, by members
  pub same_members : (xs ys : List X) → ascending key rank xs ≡ true → ascending key rank ys ≡ true → ((x : X) → Has xs x → Has ys x) → ((x : X) → Has ys x → Has xs x) → xs ≡ ys
  same_members xs ys up vp f g = same_rows xs ys up vp (λ k. on k (find key rank xs k) (find key rank ys k) refl refl)
    where
      moved : (ms bs : List X) (k : K) (x : X) → ascending key rank bs ≡ true → ((x : X) → Has ms x → Has bs x) → find key rank ms k ≡ Some x → find key rank bs k ≡ Some x
      moved ms bs k x w m e = rw (find_key ms k x e) at (has_find bs x w (m x (find_has ms k x e)))

      on : (k : K) (p q : Option X) → find key rank xs k ≡ p → find key rank ys k ≡ q → find key rank xs k ≡ find key rank ys k
      on k (Some x) q a b = a ∙ sym (moved xs ys k x vp f a)
      on k None (Some y) a b = moved ys xs k y up g b ∙ sym b
      on k None None a b = a ∙ sym b

  -- ---- members after an edit
  pub has_insert_same : (rows : List X) (row : X) → Has (insert_row key rank rows row) row
  has_insert_same rows row = find_has (insert_row key rank rows row) (key row) row (find_insert_same rows row)

  pub has_insert_other : (rows : List X) (row x : X) → ascending key rank rows ≡ true → (key row ≡ key x → ⊥) → Has rows x → Has (insert_row key rank rows row) x
  has_insert_other rows row x up ne h = find_has (insert_row key rank rows row) (key x) x (find_insert_other rows row (key x) ne ∙ has_find rows x up h)

  pub has_from_insert : (rows : List X) (row x : X) → ascending key rank rows ≡ true → Has (insert_row key rank rows row) x → (x ≡ row) ⊎ (Has rows x × (key row ≡ key x → ⊥))
  has_from_insert rows row x up h = on (rank (key row) (key x)) refl
    where
      f : find key rank (insert_row key rank rows row) (key x) ≡ Some x
      f = has_find (insert_row key rank rows row) x (ascending_insert rows row up) h

      apart : (o : Ordering) → rank (key row) (key x) ≡ o → (o ≡ Equal → ⊥) → key row ≡ key x → ⊥
      apart o e n s = n (sym e ∙ rank_same laws (key row) (key x) s)

      rest : (key row ≡ key x → ⊥) → Has rows x
      rest n = find_has rows (key x) x (sym (find_insert_other rows row (key x) n) ∙ f)

      on : (o : Ordering) → rank (key row) (key x) ≡ o → (x ≡ row) ⊎ (Has rows x × (key row ≡ key x → ⊥))
      on Less e = let n : key row ≡ key x → ⊥ = apart Less e (λ z. equal_less (sym z)) in inr (rest n, n)
      on Equal e =
          let s : key row ≡ key x = laws.same (key row) (key x) e in
          let r : find key rank (insert_row key rank rows row) (key x) ≡ Some row = ap (find key rank (insert_row key rank rows row)) (sym s) ∙ find_insert_same rows row in
          let q : x ≡ row = cc f in
          inl q
      on Greater e = let n : key row ≡ key x → ⊥ = apart Greater e (λ z. equal_greater (sym z)) in inr (rest n, n)

  pub has_remove_other : (rows : List X) (k : K) (x : X) → ascending key rank rows ≡ true → (k ≡ key x → ⊥) → Has rows x → Has (remove_row key rank rows k) x
  has_remove_other rows k x up ne h = find_has (remove_row key rank rows k) (key x) x (find_remove_other rows k (key x) up ne ∙ has_find rows x up h)

  pub has_from_remove : (rows : List X) (k : K) (x : X) → ascending key rank rows ≡ true → Has (remove_row key rank rows k) x → Has rows x × (k ≡ key x → ⊥)
  has_from_remove rows k x up h = (find_has rows (key x) x (sym (find_remove_other rows k (key x) up ne) ∙ f), ne)
    where
      f : find key rank (remove_row key rank rows k) (key x) ≡ Some x
      f = has_find (remove_row key rank rows k) x (ascending_remove rows k up) h

      ne : k ≡ key x → ⊥
      ne s = never ⊥ x (find key rank (remove_row key rank rows k) (key x)) f (ap (find key rank (remove_row key rank rows k)) (sym s) ∙ find_remove_same rows k up)
