-- What the place of a key says of a look-up and of an edit. Assumes nothing.
use Rattle.std.proofs.Common.{◌≡◌, ℕ, ◌<◌, ◌≤◌, List, [], ◌∷◌, length, get_or, set, Some, None, Ok, Err, Option, Result, Ordering, Less, Equal, Greater, refl, ap, true≢false, is_ok, is_some, MatchResult, arith}
use Rattle.std.specs.List.{insert, remove}
use Rattle.table.specs.Rows.{by, later, place_by, find_by, put_by, cut_by, towards, place, find, insert_row, remove_row}

-- r is the place, f the row that is found, p the list with the row put in, c the list with its key's row taken out
abbrev pub Told : {X : Type 0} → List X → X → Result ℕ ℕ → Option X → List X → List X → Type 0
Told rows row (Ok i) f p c = (i < length rows) × (f ≡ Some (get_or rows i row)) × (p ≡ set rows i row) × (c ≡ remove rows i)
Told rows row (Err i) f p c = (i ≤ length rows) × (f ≡ None) × (p ≡ insert rows i row) × (c ≡ rows)

step : {X : Type 0} (x : X) (xs : List X) (row : X) (o : Ordering) (r : Result ℕ ℕ) (f : Option X) (p c : List X) → Told xs row r f p c → Told (x ∷ xs) row (by o (later r) (Ok 0) (Err 0)) (by o f (Some x) None) (by o (x ∷ p) (row ∷ xs) (row ∷ (x ∷ xs))) (by o (x ∷ c) xs (x ∷ xs))
step x xs row Less (Ok i) f p c h = (omega arith, h.1, ap (λ l. x ∷ l) h.2, ap (λ l. x ∷ l) h.3)
step x xs row Less (Err i) f p c h = (omega arith, h.1, ap (λ l. x ∷ l) h.2, ap (λ l. x ∷ l) h.3)
step x xs row Equal r f p c h = (omega arith, refl, refl, refl)
step x xs row Greater r f p c h = (omega arith, refl, refl, refl)

pub told : {X : Type 0} (at : X → Ordering) (rows : List X) (row : X) → Told rows row (place_by at rows) (find_by at rows) (put_by at row rows) (cut_by at rows)
told at [] row = (omega arith, refl, refl, refl)
told at (x ∷ xs) row = step x xs row (at x) (place_by at xs) (find_by at xs) (put_by at row xs) (cut_by at xs) (told at xs row)

-- the same, at a place that a search gave
pub told_at : {X : Type 0} (at : X → Ordering) (rows : List X) (row : X) (r : Result ℕ ℕ) → r ≡ place_by at rows → Told rows row r (find_by at rows) (put_by at row rows) (cut_by at rows)
told_at at rows row r e = rw e (told at rows row)

none_at : {X : Type 0} (at : X → Ordering) (rows : List X) (i : ℕ) → Err i ≡ place_by at rows → (find_by at rows ≡ None) × (cut_by at rows ≡ rows)
none_at at [] i e = (refl, refl)
none_at at (x ∷ xs) i e = let t = told_at at (x ∷ xs) x (Err i) e in (t.1, t.3)

-- what the place of a key says, by whether a row has it
module _ {X K : Type 0} (key : X → K) (rank : K → K → Ordering) where
  pub found_by : (rows : List X) (k : K) (r : Result ℕ ℕ) → r ≡ place key rank rows k → MatchResult r (λ i. (d : X) → find key rank rows k ≡ Some (get_or rows i d)) (λ _. find key rank rows k ≡ None)
  found_by rows k (Ok i) p = λ d. (told_at (towards key rank k) rows d (Ok i) p).1
  found_by rows k (Err i) p = (none_at (towards key rank k) rows i p).0

  pub there_of : (rows : List X) (k : K) (r : Result ℕ ℕ) → r ≡ place key rank rows k → is_some (find key rank rows k) ≡ is_ok r
  there_of [] k (Ok i) p = absurd (true≢false (ap is_ok p))
  there_of (x ∷ xs) k (Ok i) p = ap is_some (found_by (x ∷ xs) k (Ok i) p x)
  there_of rows k (Err i) p = ap is_some (found_by rows k (Err i) p)

  pub cut_of : (rows : List X) (k : K) (r : Result ℕ ℕ) → r ≡ place key rank rows k → MatchResult r (λ i. remove_row key rank rows k ≡ remove rows i) (λ _. remove_row key rank rows k ≡ rows)
  cut_of [] k (Ok i) p = absurd (true≢false (ap is_ok p))
  cut_of (x ∷ xs) k (Ok i) p = (told_at (towards key rank k) (x ∷ xs) x (Ok i) p).3
  cut_of rows k (Err i) p = (none_at (towards key rank k) rows i p).1

  pub put_of : (rows : List X) (k : K) (r : Result ℕ ℕ) → r ≡ place key rank rows k → MatchResult r (λ i. (row : X) → key row ≡ k → insert_row key rank rows row ≡ set rows i row) (λ i. (row : X) → key row ≡ k → insert_row key rank rows row ≡ insert rows i row)
  put_of rows k (Ok i) p = λ row e. let q : Ok i ≡ place key rank rows (key row) = rw e p in (told_at (towards key rank (key row)) rows row (Ok i) q).2
  put_of rows k (Err i) p = λ row e. let q : Err i ≡ place key rank rows (key row) = rw e p in (told_at (towards key rank (key row)) rows row (Err i) q).2
