-- Draining by share: the Inactive segments, counted and the last of them found, one after the other.
use Rattle.std.proofs.Common.{◌≡◌, ℕ, zero, suc, ◌+◌, ◌-◌, ◌<◌, ◌≤◌, Bool, true, false, cond, List, [], ◌∷◌, length, get_or, Some, None, filter, Option, sym, refl, ap, ◌∙◌, subst, arith, add-zero, zero-add}
use Rattle.std.specs.Option.{option_map, MatchOption}
use Rattle.segment.specs.declared.segment.Segment.{Segment}
use Rattle.segment.specs.declared.state.Inactive.{Inactive}
use Rattle.segment.specs.declared.state.State.{State}
use Rattle.segment.specs.declared.state.State.TheVariants as is
use Rattle.rules.specs.Books.{Books, unused}
use Rattle.rules.specs.Stabilizing.{free_below_tip, inactive_at, inactive_count, is_inactive, first_some, last_inactive, much_is_free, drain_found}
use Rattle.ledger.specs.States.{states}
use Rattle.closing.specs.Shares.{number_from, Drains}

-- ---- how many are Inactive
pub length-filter_states : (p : State → Bool) (xs : List Segment) → length (filter (λ (x : Segment). p x.state) xs) ≡ length (filter p (states xs))
length-filter_states p [] = refl
length-filter_states p (x ∷ xs) = one (p x.state) (length-filter_states p xs)
  where
    one : (b : Bool) → length (filter (λ (x : Segment). p x.state) xs) ≡ length (filter p (states xs)) → length (cond b (x ∷ filter (λ (x : Segment). p x.state) xs) (filter (λ (x : Segment). p x.state) xs)) ≡ length (cond b (x.state ∷ filter p (states xs)) (filter p (states xs)))
    one true e = ap suc e
    one false e = e

-- ---- the last of them
-- o is the place of the last one
abbrev pub IsLast : List Segment → Option ℕ → Type 0
IsLast xs o =
    MatchOption o ((d : Segment) (k : ℕ) → k < length xs → is_inactive (get_or xs k d).state ≡ false)
    (λ i. (i < length xs) × ((d : Segment) → is_inactive (get_or xs i d).state ≡ true) × ((d : Segment) (k : ℕ) → i < k → k < length xs → is_inactive (get_or xs k d).state ≡ false))

one_more : (n : ℕ) (o : Option (ℕ × Inactive)) (s : State) → first_some (option_map (λ x. x.0) o) (cond (is_inactive s) (Some n) None) ≡ option_map (λ x. x.0) (first_some o (inactive_at n s))
one_more n (Some x) s = refl
one_more n None (is.Free f) = refl
one_more n None (is.Active a) = refl
one_more n None (is.Inactive j) = refl
one_more n None (is.Draining d) = refl

number_step : (n : ℕ) (s : State) (l : List State) (o : Option ℕ) (t : Bool) → o ≡ number_from (suc n) l → is_inactive s ≡ t → first_some o (cond t (Some n) None) ≡ number_from n (s ∷ l)
number_step n s l o t e f = (λ k. first_some (e k) (cond (sym f k) (Some n) None)) ∙ one_more n (last_inactive (suc n) l) s

number_last : (n : ℕ) (xs : List Segment) (o : Option ℕ) → IsLast xs o → option_map (λ i. n + i) o ≡ number_from n (states xs)
number_last n [] None h = refl
number_last n [] (Some i) h = absurd (omega (arith, h.0))
number_last n (x ∷ xs) None h = number_step n x.state (states xs) None false (number_last (suc n) xs None (λ d k l. h d (suc k) (omega arith))) (h x 0 (omega arith))
number_last n (x ∷ xs) (Some zero) h = ap Some (add-zero n) ∙ number_step n x.state (states xs) None true (number_last (suc n) xs None (λ d k l. h.2 d (suc k) (omega arith) (omega arith))) (h.1 x)
number_last n (x ∷ xs) (Some (suc i)) h =
    let e : n + suc i ≡ suc n + i = omega arith in
    ap Some e ∙ number_step n x.state (states xs) (Some (suc n + i)) (is_inactive x.state) (number_last (suc n) xs (Some i) (omega (arith, h.0), λ d. h.1 d, λ d k m l. h.2 d (suc k) (omega arith) (omega arith))) refl

pub number_found : (xs : List Segment) (o : Option ℕ) → IsLast xs o → o ≡ number_from 0 (states xs)
number_found xs None h = number_last 0 xs None h
number_found xs (Some i) h = ap Some (sym (zero-add i)) ∙ number_last 0 xs (Some i) h

-- ---- the one that is found is Inactive
abbrev Found : ℕ → List State → Option (ℕ × Inactive) → Type 0
Found k l None = Unit {0}
Found k l (Some x) = (k ≤ x.0) × (x.0 - k < length l) × (get_or l (x.0 - k) unused ≡ is.Inactive x.1)

at_head : (k : ℕ) (s : State) (l : List State) → Found k (s ∷ l) (inactive_at k s)
at_head k (is.Free f) l = tt
at_head k (is.Active a) l = tt
at_head k (is.Inactive i) l = let z : k - k ≡ 0 = omega arith in (omega arith, omega arith, ap (λ j. get_or (is.Inactive i ∷ l) j unused) z)
at_head k (is.Draining d) l = tt

last_found : (k : ℕ) (l : List State) → Found k l (last_inactive k l)
last_found k [] = tt
last_found k (s ∷ l) = on (last_inactive (suc k) l) (last_found (suc k) l)
  where
    on : (o : Option (ℕ × Inactive)) → Found (suc k) l o → Found k (s ∷ l) (first_some o (inactive_at k s))
    on None h = at_head k s l
    on (Some x) h =
        let e : x.0 - k ≡ suc (x.0 - suc k) = omega (arith, h.0) in
        (omega (arith, h.0), omega (arith, h.1), ap (λ j. get_or (s ∷ l) j unused) e ∙ h.2)

-- where much is free, it is drained
pub drains_last : (b : Books) (r : Option ℕ) → much_is_free (free_below_tip b) (inactive_count b) ≡ true → r ≡ number_from 0 b.segments → Drains b r
drains_last b r t e = subst (Drains b) (sym e) (on (last_inactive 0 b.segments) refl (last_found 0 b.segments))
  where
    on : (o : Option (ℕ × Inactive)) → last_inactive 0 b.segments ≡ o → Found 0 b.segments o → Drains b (option_map (λ x. x.0) o)
    on None f h = ap (λ u. cond u (drain_found (last_inactive 0 b.segments) b) b) t ∙ ap (λ o. drain_found o b) f
    on (Some x) f h =
        let z : x.0 - 0 ≡ x.0 = omega arith in
        (x.1, omega (arith, h.1), ap (λ j. get_or b.segments j unused) (sym z) ∙ h.2, ap (λ u. cond u (drain_found (last_inactive 0 b.segments) b) b) t ∙ ap (λ o. drain_found o b) f)
