-- A visit keeps what the books keep, and leaves the checks of the segments still to come as they were.
use Rattle.std.proofs.Common.{◌≡◌, ℕ, ◌+◌, ◌<◌, ◌≤◌, true, false, List, [], ◌∷◌, length, get_or, drop, ℤ, None, sym, refl, ap, ◌∙◌, subst}
use Rattle.std.specs.Cmp.{ranks}
use Rattle.std.specs.Ordering.{is_lt, MatchOrdering, nat_cmp}
use Rattle.std.proofs.lemmas.List.{drop_more, drop_all}
use Rattle.std.proofs.lemmas.Bool.{and_parts}
use Rattle.table.specs.Rows.{every, ascending}
use Rattle.table.proofs.Orders.{less_from}
use Rattle.host.specs.Meaning.{Answer}
use Rattle.host.specs.declared.request.Request.{Request}
use Rattle.rules.specs.Books.{Books, World, world, state_of}
use Rattle.rules.specs.Cleaning.{cleaned}
use Rattle.rules.specs.Links.{out_of_range}
use Rattle.rules.specs.Replacing.{from_state, olds_refusal, taken_at, visited}
use Rattle.orders.specs.Share.{Shared}
use Rattle.orders.proofs.Alone.{Alone, alone_then, taken_alone, cleaned_alone}
use Rattle.orders.proofs.Cleans.{drain_keeps, cleaned_keeps}
use Rattle.orders.proofs.Replaces.{Above, Rising, or_else_none, olds_same}
use Rattle.orders.proofs.ShareSteps.{share_steps}
use Rattle.entries.specs.declared.sums.SumRow.{SumRow}
use Rattle.entries.specs.SumKeys.{sum_key}
use Rattle.entries.specs.Sums.{pairs}
use Rattle.replacing.specs.Visits.{visit_of}

-- ---- rows of sums ascend, and so do the segments
less_is : (x y : ℕ) → is_lt (nat_cmp x y) ≡ true → x < y
less_is x y h = subst (λ k. MatchOrdering k (x < y) (x ≡ y) (y < x)) (less_from (nat_cmp x y) h) (ranks x y)

above_from : (n : ℕ) (rows : List SumRow) → every (λ row. is_lt (nat_cmp n (sum_key row))) rows ≡ true → Above n (pairs rows)
above_from n [] h = tt
above_from n (row ∷ rows) h =
    let hs = and_parts (is_lt (nat_cmp n row.segment)) (every (λ y. is_lt (nat_cmp n (sum_key y))) rows) h in
    (less_is n row.segment hs.0, above_from n rows hs.1)

pub rising_from : (rows : List SumRow) → ascending sum_key nat_cmp rows ≡ true → Rising (pairs rows)
rising_from [] h = tt
rising_from (row ∷ rows) h =
    let hs = and_parts (every (λ y. is_lt (nat_cmp row.segment (sum_key y))) rows) (ascending sum_key nat_cmp rows) h in
    (above_from row.segment rows hs.0, rising_from rows hs.1)

-- what is taken away leaves the books sound; z is the base, as the call has it
pub taken_keeps : (b after : Books) (n p : ℕ) (base z : ℤ) (size : ℕ) → z ≡ base → after ≡ taken_at n p z size b → out_of_range base ≡ false → from_state b n p base size (state_of b n) ≡ None → Shared b → Shared after
taken_keeps b after n p base z size ez e l f h = subst Shared (sym (e ∙ ap (λ k. taken_at n p k size b) ez)) (share_steps.takes n p base size b l f h)

module _ {M : Type 0} (respond : M → Request → Answer × M) where
  -- the rest of the visits may be made, and leads from here to the end
  abbrev pub Going : ℕ → ℤ → List (ℕ × ℕ) → World M → World M → Type 0
  Going p base rest w end = Shared w.books × (olds_refusal w.books p base rest ≡ None) × Rising rest × (visited respond p base rest w ≡ end)

  pub going_step : (p : ℕ) (base : ℤ) (sum : ℕ × ℕ) (rest : List (ℕ × ℕ)) (w end : World M) → out_of_range base ≡ false → Going p base (sum ∷ rest) w end → Going p base rest (visit_of respond p base sum w) end
  unfolding visited
  going_step p base sum rest w end l g0 =
      let h = g0.0 in
      let e = g0.1 in
      let r = g0.2 in
      let es = or_else_none (from_state w.books sum.0 p base sum.1 (state_of w.books sum.0)) (olds_refusal w.books p base rest) e in
      let v : World M = world (taken_at sum.0 p base sum.1 w.books) w.host in
      let g : Shared v.books = share_steps.takes sum.0 p base sum.1 w.books l es.0 h in
      let a : Alone p sum.0 w.books (cleaned respond sum.0 v).books = alone_then (taken_alone p sum.0 base sum.1 w.books) (cleaned_alone respond p sum.0 v (share_steps.ordered _ (drain_keeps respond share_steps sum.0 v.books g))) in
      (cleaned_keeps respond share_steps sum.0 v g, olds_same w.books (cleaned respond sum.0 v).books p sum.0 base rest a r.0 ∙ es.1, r.1, g0.3)

  -- z and y are the base, as the loop and the call have it
  module _ (p : ℕ) (base z y : ℤ) (ez : z ≡ base) (ey : y ≡ base) (rows : List SumRow) (i : ℕ) (d : SumRow) (w end : World M) (l : i < length rows) (g : Going p z (pairs (drop i rows)) w end) where
    here : Going p y (pairs (get_or rows i d ∷ drop (i + 1) rows)) w end
    here = subst (λ rs. Going p y (pairs rs) w end) (drop_more rows i d l) (subst (λ k. Going p k (pairs (drop i rows)) w end) (ez ∙ sym ey) g)

    pub going_passes : from_state w.books (get_or rows i d).segment p y (get_or rows i d).size (state_of w.books (get_or rows i d).segment) ≡ None
    going_passes = (or_else_none _ _ here.1).0

    pub going_next : (after : World M) → out_of_range base ≡ false → after ≡ visit_of respond p y ((get_or rows i d).segment, (get_or rows i d).size) w → Going p z (pairs (drop (i + 1) rows)) after end
    going_next after r e = subst (λ k. Going p k (pairs (drop (i + 1) rows)) after end) (ey ∙ sym ez) (subst (λ x. Going p y (pairs (drop (i + 1) rows)) x end) (sym e) (going_step p y ((get_or rows i d).segment, (get_or rows i d).size) (pairs (drop (i + 1) rows)) w end (ap out_of_range ey ∙ r) here))

  pub going_starts : (p : ℕ) (base z : ℤ) (rows : List SumRow) (w : World M) → z ≡ base → Shared w.books → ascending sum_key nat_cmp rows ≡ true → olds_refusal w.books p base (pairs rows) ≡ None → Going p z (pairs rows) w (visited respond p z (pairs rows) w)
  going_starts p base z rows w ez h up e = (h, ap (λ k. olds_refusal w.books p k (pairs rows)) ez ∙ e, rising_from rows up, refl)

  pub going_ends : (p : ℕ) (base z : ℤ) (rows : List SumRow) (i : ℕ) (w start : World M) → z ≡ base → length rows ≤ i → Going p z (pairs (drop i rows)) w (visited respond p z (pairs rows) start) → w ≡ visited respond p base (pairs rows) start
  unfolding visited
  going_ends p base z rows i w start ez l g = sym (ap (λ rs. visited respond p z (pairs rs) w) (drop_all i rows l)) ∙ (g.3 ∙ ap (λ k. visited respond p k (pairs rows) start) ez)
