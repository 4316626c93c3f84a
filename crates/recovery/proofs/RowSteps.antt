-- One row: it is refused where the checks refuse it, and what it leaves is within the bounds again.
use Rattle.std.proofs.Common.{◌≡◌, ℕ, ◌<◌, ◌≤◌, true, false, cond, not, length, ℤ, Some, None, Ok, Err, Option, sym, refl, ap, ◌∙◌, subst, true≢false, arith}
use Rattle.std.proofs.lemmas.List.{length-set, get_or-set_same}
use Rattle.std.proofs.lemmas.Bool.{and_parts, lt-leb, leb-true, not-false}
use Rattle.segment.specs.Bases.{base_of}
use Rattle.segment.specs.Bounds.{bounded}
use Rattle.segment.specs.Updates.{linked}
use Rattle.segment.specs.declared.snapshot.SnapshotRow.{SnapshotRow}
use Rattle.segment.specs.declared.state.Active.{Active}
use Rattle.segment.specs.declared.state.State.{State}
use Rattle.segment.specs.declared.state.State.TheVariants as is
use Rattle.rules.specs.declared.refusal.Refusal.{Refusal}
use Rattle.rules.specs.declared.refusal.Refusal.TheVariants as no
use Rattle.rules.specs.Books.{Books, unused, state_of}
use Rattle.rules.specs.Links.{out_of_range, linked_at, linked_state}
use Rattle.rules.specs.Starting.{has_base, row_size, row_segment, opened_for, placed_refusal, row_refusal, recovered_by, recover_row}
use Rattle.orders.specs.Within.{is_lsn, is_bounded}
use Rattle.orders.proofs.Every.{every_index}
use Rattle.orders.proofs.Replaces.{passed}
use Rattle.orders.proofs.BoundStarts.{within_beginning}
use Rattle.ledger.specs.Verdicts.{verdict}
use Rattle.recovery.specs.Recoverable.{Recoverable}

verdict_err : (o : Option Refusal) (e : Refusal) → Err e ≡ verdict o → o ≡ Some e
verdict_err None e h = absurd (cc)
verdict_err (Some f) e h = cc

verdict_ok : (o : Option Refusal) → Ok tt ≡ verdict o → o ≡ None
verdict_ok None h = refl
verdict_ok (Some f) h = absurd (cc)

based_active : (base : ℤ) (s : State) → has_base base s ≡ true → (a : Active) × (s ≡ is.Active a)
based_active base (is.Free f) h = absurd (true≢false (sym h))
based_active base (is.Active a) h = (a, refl)
based_active base (is.Inactive i) h = absurd (true≢false (sym h))
based_active base (is.Draining d) h = absurd (true≢false (sym h))

active_bounded : (a : Active) → is_bounded (is.Active a) ≡ true → bounded (is.Active a) ≡ true
active_bounded a h = (and_parts (is_lsn a.latest_replacement_lsn) _ (and_parts (is_lsn a.lsn) _ h).1).1

-- n is the row's segment, which is reached, and mid the books with that segment open
module _ (header p : ℕ) (row : SnapshotRow) (b mid : Books) (n : ℕ) (at : n ≡ row_segment b row) (low : n < length b.segments) (opens : mid ≡ opened_for row b) where
  within_reach : row_refusal header p row b ≡ placed_refusal header p row mid
  within_reach = ap (λ t. cond t (Some no.PastSegments) (placed_refusal header p row (opened_for row b))) (lt-leb _ _ (subst (λ m. m < length b.segments) at low)) ∙ ap (placed_refusal header p row) (sym opens)

  pub row_refused : (e : Refusal) → Err e ≡ verdict (placed_refusal header p row mid) → Err e ≡ recover_row header p row b
  row_refused e h = sym (ap (λ o. recovered_by o (linked_at (row_segment b row) p (row_size header row) (opened_for row b))) (within_reach ∙ verdict_err _ e h))

  -- what is linked has room, and leaves what it found
  module _ (size : ℕ) (sized : size ≡ row_size header row) (r : out_of_range row.lsn ≡ false) (passes : Ok tt ≡ verdict (placed_refusal header p row mid)) (k : Recoverable b) where
    pub linked_kept : Recoverable (linked_at n p size mid)
    linked_kept =
        let kept = within_beginning.recovers header p row b r (within_reach ∙ verdict_ok _ passes) k.within in
        subst Recoverable (λ i. linked_at (sym at i) p (sym sized i) (sym opens i)) (record { within = kept; ordering = k.ordering })

    pub linked_room : length (linked_at n p size mid).pages ≤ 2048
    linked_room = leb-true _ _ linked_kept.within.1.page_room

    pub linked_bytes : bounded (linked_state size (state_of mid n)) ≡ true
    linked_bytes =
        let here : n ≡ row_segment mid row = at ∙ ap (λ x. row_segment x row) (sym opens) in
        let based = passed (not (has_base (base_of mid.size row.lsn) (state_of mid (row_segment mid row)))) _ _ (verdict_ok _ passes) in
        let x = based_active (base_of mid.size row.lsn) (state_of mid (row_segment mid row)) (not-false _ based.0) in
        let is_active : linked_state size (state_of mid n) ≡ is.Active (linked size x.0) = ap (linked_state size) (ap (state_of mid) here ∙ x.1) in
        let as_many = ap (λ x. length x.segments) opens ∙ length-set b.segments (row_segment b row) _ in
        let state = get_or-set_same mid.segments n (linked_state size (state_of mid n)) unused (omega arith) in
        let t = every_index is_bounded (linked_at n p size mid).segments n unused refl linked_kept.within.1.states in
        subst (λ y. bounded y ≡ true) (sym is_active) (active_bounded (linked size x.0) (subst (λ y. is_bounded y ≡ true) (state ∙ is_active) t))
