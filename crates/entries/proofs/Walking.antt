-- A walk along the old segments: what is left of them decides what is left to know.
use Rattle.std.proofs.Common.{◌≡◌, ℕ, ◌+◌, ◌<◌, ◌≤◌, List, length, get_or, drop, ℤ, Some, None, Ok, Err, Option, Result, sym, refl, ap, ◌∙◌, arith}
use Rattle.std.proofs.lemmas.List.{drop_more, drop_all}
use Rattle.rules.specs.declared.refusal.Refusal.{Refusal}
use Rattle.rules.specs.Books.{Books, state_of}
use Rattle.rules.specs.Links.{or_else}
use Rattle.rules.specs.Replacing.{from_state, olds_refusal}
use Rattle.ledger.specs.Verdicts.{verdict}
use Rattle.entries.specs.declared.sums.SumRow.{SumRow}
use Rattle.entries.specs.Sums.{pairs}

-- what an answer says of the refusal
pub ok_none : (o : Option Refusal) → ◌≡◌ {A = Result (Unit {0}) Refusal} (Ok tt) (verdict o) → o ≡ None
ok_none None e = refl
ok_none (Some r) e = let z : ◌≡◌ {A = ℕ} 0 1 = cc in absurd (omega arith)

pub err_some : (refusal : Refusal) (o : Option Refusal) → ◌≡◌ {A = Result (Unit {0}) Refusal} (Err refusal) (verdict o) → o ≡ Some refusal
err_some refusal None e = let z : ◌≡◌ {A = ℕ} 0 1 = cc in absurd (omega arith)
err_some refusal (Some r) e = cc

-- z and y are the base, as the loop and the call have it
module _ (b : Books) (p : ℕ) (rows : List SumRow) (i : ℕ) (base z y : ℤ) (ez : z ≡ base) (ey : y ≡ base) where
  module _ (d : SumRow) (l : i < length rows) (inv : olds_refusal b p z (pairs (drop i rows)) ≡ olds_refusal b p z (pairs rows)) where
    pub olds_more : ◌≡◌ {A = Result (Unit {0}) Refusal} (Ok tt) (verdict (from_state b (get_or rows i d).segment p y (get_or rows i d).size (state_of b (get_or rows i d).segment))) → olds_refusal b p z (pairs (drop (i + 1) rows)) ≡ olds_refusal b p z (pairs rows)
    olds_more e =
        let n : ℕ = (get_or rows i d).segment in
        let f = ap (λ k. from_state b n p k (get_or rows i d).size (state_of b n)) (ez ∙ sym ey) ∙ ok_none _ e in
        sym (ap (λ rs. olds_refusal b p z (pairs rs)) (drop_more rows i d l) ∙ ap (λ o. or_else o (olds_refusal b p z (pairs (drop (i + 1) rows)))) f) ∙ inv

    pub olds_stop : (refusal : Refusal) → ◌≡◌ {A = Result (Unit {0}) Refusal} (Err refusal) (verdict (from_state b (get_or rows i d).segment p y (get_or rows i d).size (state_of b (get_or rows i d).segment))) → ◌≡◌ {A = Result (Unit {0}) Refusal} (Err refusal) (verdict (olds_refusal b p base (pairs rows)))
    olds_stop refusal e =
        let n : ℕ = (get_or rows i d).segment in
        let f = ap (λ k. from_state b n p k (get_or rows i d).size (state_of b n)) (ez ∙ sym ey) ∙ err_some refusal _ e in
        sym (ap verdict (ap (λ rs. olds_refusal b p z (pairs rs)) (drop_more rows i d l) ∙ ap (λ o. or_else o (olds_refusal b p z (pairs (drop (i + 1) rows)))) f)) ∙ ap verdict (inv ∙ ap (λ k. olds_refusal b p k (pairs rows)) ez)

pub olds_end : (b : Books) (p : ℕ) (rows : List SumRow) (i : ℕ) (base z : ℤ) → z ≡ base → length rows ≤ i → olds_refusal b p z (pairs (drop i rows)) ≡ olds_refusal b p z (pairs rows) → ◌≡◌ {A = Result (Unit {0}) Refusal} (Ok tt) (verdict (olds_refusal b p base (pairs rows)))
olds_end b p rows i base z ez l inv = sym (ap (λ rs. verdict (olds_refusal b p z (pairs rs))) (drop_all i rows l)) ∙ ap verdict (inv ∙ ap (λ k. olds_refusal b p k (pairs rows)) ez)
