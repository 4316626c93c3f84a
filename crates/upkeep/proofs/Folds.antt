-- Loops that ask the host for one thing after the other, until it refuses: what is left of the list decides.
use Rattle.std.proofs.Common.{◌≡◌, ℕ, ◌+◌, ◌<◌, ◌≤◌, List, [], ◌∷◌, length, get_or, drop, ℤ, Ok, Err, sym, ap, ◌∙◌}
use Rattle.std.proofs.lemmas.List.{drop_more, drop_all}
use Rattle.host.specs.Meaning.{Answer}
use Rattle.host.specs.declared.request.HostFault.{HostFault}

-- a fold over a list, by a number of each element, that stops at the first fault
module _ {X S : Type 0} (at : X → ℤ) (one : ℤ → S → Answer × S) (fold : List X → S → Answer × S) (then : (S → Answer × S) → Answer × S → Answer × S)
    (ends : (s : S) → fold [] s ≡ (Ok tt, s))
    (steps : (x : X) (xs : List X) (s : S) → fold (x ∷ xs) s ≡ then (fold xs) (one (at x) s))
    (goes : (f : S → Answer × S) (s : S) → then f (Ok tt, s) ≡ f s)
    (stops : (f : S → Answer × S) (e : HostFault) (s : S) → then f (Err e, s) ≡ (Err e, s))
    (xs : List X) (i : ℕ) (s : S) (all : Answer × S) (inv : fold (drop i xs) s ≡ all) where
  -- z is the number, and q the answer, as the call has them
  module _ (d : X) (z : ℤ) (q : Answer) (t : S) (l : i < length xs) (ez : z ≡ at (get_or xs i d)) (e : (q, t) ≡ one z s) where
    step : then (fold (drop (i + 1) xs)) (q, t) ≡ all
    step = ap (then (fold (drop (i + 1) xs))) (e ∙ ap (λ k. one k s) ez) ∙ (sym (ap (λ ys. fold ys s) (drop_more xs i d l) ∙ steps (get_or xs i d) (drop (i + 1) xs) s) ∙ inv)

    pub fold_more : q ≡ Ok tt → fold (drop (i + 1) xs) t ≡ all
    fold_more ok = sym (ap (λ a. then (fold (drop (i + 1) xs)) (a, t)) ok ∙ goes (fold (drop (i + 1) xs)) t) ∙ step

    pub fold_stop : (f : HostFault) → q ≡ Err f → ◌≡◌ {A = Answer × S} (Err f, t) all
    fold_stop f err = sym (ap (λ a. then (fold (drop (i + 1) xs)) (a, t)) err ∙ stops (fold (drop (i + 1) xs)) f t) ∙ step

  pub fold_end : length xs ≤ i → ◌≡◌ {A = Answer × S} (Ok tt, s) all
  fold_end l = sym (ap (λ ys. fold ys s) (drop_all i xs l) ∙ ends s) ∙ inv
