-- Each step changes the number of Free segments below the tip as it changes the free list and the freeable rows.
use Rattle.std.proofs.Common.{◌≡◌, ℕ, zero, suc, ◌+◌, ◌<◌, ◌≤◌, Bool, true, false, cond, ltb, List, [], ◌∷◌, ◌++◌, length, get_or, take, set, filter, refl, ap, ◌∙◌, arith}
use Rattle.std.proofs.lemmas.List.{take-set, take-append-le}
use Rattle.segment.specs.declared.state.State.{State}
use Rattle.rules.specs.Books.{unused}
use Rattle.rules.specs.Stabilizing.{is_free}
use Rattle.rules.specs.HandingOut.{entered}

abbrev pub count : List State → ℕ
count l = length (filter is_free l)

abbrev pub one_if : Bool → ℕ
one_if t = cond t 1 0

count_first : (t : Bool) (x : State) (l : List State) → length (cond t (x ∷ l) l) ≡ one_if t + length l
count_first true x l = omega arith
count_first false x l = omega arith

-- one state changes, below k
pub set_count : (k : ℕ) (l : List State) (n : ℕ) (s : State) → n < k → n < length l → count (take k (set l n s)) + one_if (is_free (get_or l n unused)) ≡ count (take k l) + one_if (is_free s)
set_count zero l n s h g = absurd (omega arith)
set_count (suc k) [] n s h g = absurd (omega arith)
set_count (suc k) (x ∷ l) zero s h g =
    let a = count_first (is_free s) s (filter is_free (take k l)) in
    let c = count_first (is_free x) x (filter is_free (take k l)) in
    omega arith
set_count (suc k) (x ∷ l) (suc n) s h g =
    let i = set_count k l n s (omega arith) (omega arith) in
    let a = count_first (is_free x) x (filter is_free (take k (set l n s))) in
    let c = count_first (is_free x) x (filter is_free (take k l)) in
    omega arith

-- a state changes, but not whether it is Free
pub set_same : (k : ℕ) (l : List State) (n : ℕ) (s : State) → is_free s ≡ is_free (get_or l n unused) → count (take k (set l n s)) ≡ count (take k l)
set_same zero [] n s e = refl
set_same zero (x ∷ l) zero s e = refl
set_same zero (x ∷ l) (suc n) s e = refl
set_same (suc k) [] n s e = refl
set_same (suc k) (x ∷ l) zero s e =
    let a = count_first (is_free s) s (filter is_free (take k l)) in
    let c = count_first (is_free x) x (filter is_free (take k l)) in
    let d : one_if (is_free s) ≡ one_if (is_free x) = ap one_if e in
    omega arith
set_same (suc k) (x ∷ l) (suc n) s e =
    let i = set_same k l n s e in
    let a = count_first (is_free x) x (filter is_free (take k (set l n s))) in
    let c = count_first (is_free x) x (filter is_free (take k l)) in
    omega arith

-- one segment more
pub take_next : (k : ℕ) (l : List State) → k < length l → count (take (suc k) l) ≡ count (take k l) + one_if (is_free (get_or l k unused))
take_next k [] h = absurd (omega arith)
take_next zero (x ∷ l) h = count_first (is_free x) x (filter is_free (take zero l)) ∙ none l
  where
    none : (l : List State) → one_if (is_free x) + length (filter is_free (take zero l)) ≡ 0 + one_if (is_free x)
    none [] = omega arith
    none (y ∷ l) = omega arith
take_next (suc k) (x ∷ l) h =
    let i = take_next k l (omega arith) in
    let a = count_first (is_free x) x (filter is_free (take (suc k) l)) in
    let c = count_first (is_free x) x (filter is_free (take k l)) in
    omega arith

pub entered_take : (n : ℕ) (s : State) (l : List State) → n ≤ length l → count (take n (entered n s l)) ≡ count (take n l)
entered_take n s l h = on (ltb n (length l))
  where
    on : (t : Bool) → count (take n (cond t (set l n s) (l ++ s ∷ []))) ≡ count (take n l)
    on true = ap count (take-set l n s)
    on false = ap count (take-append-le n l (s ∷ []) h)
