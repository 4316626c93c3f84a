-- Old segments after a link that was accepted: the new entry's own has the page and the new bytes, the others are as they were.
use Rattle.std.proofs.Common.{◌≡◌, ℕ, ◌≤◌, Bool, true, false, not, List, length, ℤ, Some, None, Err, Option, Result, sym, refl, ap, ◌∙◌, add-zero, arith}
use Rattle.std.proofs.lemmas.List.{get_or-set_same, get_or-set_other}
use Rattle.table.proofs.Laws.{find_insert_same, find_insert_other}
use Rattle.segment.specs.Rows.{page_key}
use Rattle.segment.specs.declared.cache_info.CacheInfo.{CacheInfo}
use Rattle.segment.specs.declared.rows.PageRow.{PageRow}
use Rattle.segment.specs.declared.state.State.{State}
use Rattle.segment.specs.declared.state.State.TheVariants as is
use Rattle.rules.specs.declared.refusal.Refusal.{Refusal}
use Rattle.rules.specs.declared.refusal.Refusal.TheVariants as no
use Rattle.rules.specs.Books.{Books, state_of, unused}
use Rattle.rules.specs.Links.{info_segment, link_refusal, link_of, linked_state}
use Rattle.rules.specs.Pages.{page_row, is_left, is_lying, new_row, written}
use Rattle.rules.specs.Replacing.{from_state}
use Rattle.orders.proofs.Alone.{page_laws}
use Rattle.ledger.specs.Verdicts.{verdict}
use Rattle.entries.specs.Olds.{from_seen}
use Rattle.entries.proofs.Accepted.{info_reached, passes}

-- a check sees the state, and whether the page lies there
seen : (b : Books) (n p : ℕ) (base : ℤ) (size : ℕ) (s : State) → from_state b n p base size s ≡ from_seen base size (is_lying (page_row b.pages n p)) s
seen b n p base size (is.Free f) = refl
seen b n p base size (is.Active a) = refl
seen b n p base size (is.Inactive i) = refl
seen b n p base size (is.Draining d) = refl

-- no bytes more
none_linked : (s : State) → linked_state 0 s ≡ s
none_linked (is.Free f) = refl
none_linked (is.Active a) = ap (λ x. is.Active (record { lsn = a.lsn; rss = x; deferred_replaced_rss = a.deferred_replaced_rss; latest_replacement_lsn = a.latest_replacement_lsn })) (add-zero a.rss)
none_linked (is.Inactive i) = refl
none_linked (is.Draining d) = refl

written_lies : (m p : ℕ) (pages : List PageRow) (o : Option PageRow) → page_row pages m p ≡ o → is_left o ≡ false → is_lying (page_row (written m p pages o) m p) ≡ true
written_lies m p pages None e h = ap is_lying (find_insert_same page_key page_laws pages (new_row m p))
written_lies m p pages (Some row) e h = ap is_lying e ∙ ap not h

written_other : (m n p : ℕ) (pages : List PageRow) (o : Option PageRow) → (n ≡ m → ⊥) → page_row (written m p pages o) n p ≡ page_row pages n p
written_other m n p pages None h = find_insert_other page_key page_laws pages (new_row m p) (n, p) (λ g. h (ap (λ (k : ℕ × ℕ). k.0) (sym g)))
written_other m n p pages (Some row) h = refl

module _ (b : Books) (p : ℕ) (new : CacheInfo) (accepted : link_refusal b p new ≡ None) where
  pub own_seen : (base : ℤ) (size : ℕ) → from_state (link_of p new b) (info_segment b new) p base size (state_of (link_of p new b) (info_segment b new)) ≡ from_seen base size true (linked_state new.log_size (state_of b (info_segment b new)))
  own_seen base size =
      let n : ℕ = info_segment b new in
      let l : Books = link_of p new b in
      let lies = written_lies n p b.pages (page_row b.pages n p) refl (passes b p new accepted).0 in
      let state = get_or-set_same b.segments n (linked_state new.log_size (state_of b n)) unused (info_reached b p new accepted) in
      seen l n p base size (state_of l n) ∙ λ i. from_seen base size (lies i) (state i)

  pub other_seen : (n : ℕ) (base : ℤ) (size : ℕ) → (n ≡ info_segment b new → ⊥) → from_state (link_of p new b) n p base size (state_of (link_of p new b) n) ≡ from_seen base size (is_lying (page_row b.pages n p)) (linked_state 0 (state_of b n))
  other_seen n base size h =
      let l : Books = link_of p new b in
      let row = written_other (info_segment b new) n p b.pages (page_row b.pages (info_segment b new) p) h in
      let state = get_or-set_other b.segments (info_segment b new) n _ unused h in
      seen l n p base size (state_of l n) ∙ λ i. from_seen base size (is_lying (row i)) ((state ∙ sym (none_linked (state_of b n))) i)

  pub own_answer : (n : ℕ) (base z : ℤ) (size : ℕ) (s : State) (r : Result (Unit {0}) Refusal) → z ≡ base → n ≡ info_segment b new → s ≡ state_of b n → r ≡ verdict (from_seen z size true (linked_state new.log_size s)) → r ≡ verdict (from_state (link_of p new b) n p base size (state_of (link_of p new b) n))
  own_answer n base z size s r ez en es er =
      er ∙ ap verdict ((λ i. from_seen (ez i) size true (linked_state new.log_size ((es ∙ ap (state_of b) en) i))) ∙ (sym (own_seen base size) ∙ ap (λ k. from_state (link_of p new b) k p base size (state_of (link_of p new b) k)) (sym en)))

  pub other_answer : (n : ℕ) (base z : ℤ) (size : ℕ) (lies : Bool) (s : State) (r : Result (Unit {0}) Refusal) → z ≡ base → (n ≡ info_segment b new → ⊥) → s ≡ state_of b n → lies ≡ is_lying (page_row b.pages n p) → r ≡ verdict (from_seen z size lies (linked_state 0 s)) → r ≡ verdict (from_state (link_of p new b) n p base size (state_of (link_of p new b) n))
  other_answer n base z size lies s r ez en es el er = er ∙ ap verdict ((λ i. from_seen (ez i) size (el i) (linked_state 0 (es i))) ∙ sym (other_seen n base size en))

  -- a segment past those reached is not the new entry's
  pub past_answer : (n : ℕ) (base : ℤ) (size : ℕ) → length b.segments ≤ n → state_of b n ≡ unused → ◌≡◌ {A = Result (Unit {0}) Refusal} (Err no.NoSegment) (verdict (from_state (link_of p new b) n p base size (state_of (link_of p new b) n)))
  past_answer n base size l e =
      let r = info_reached b p new accepted in
      let apart : n ≡ info_segment b new → ⊥ = λ q. omega arith in
      ap (λ s. verdict (from_state (link_of p new b) n p base size s)) (sym (get_or-set_other b.segments (info_segment b new) n _ unused apart ∙ e))
