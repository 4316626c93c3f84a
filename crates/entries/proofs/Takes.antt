-- Taking away: what a replacement is not refused for, a segment can give up. Its counts are true after the step, so a page was left to leave.
use Rattle.std.proofs.Common.{◌≡◌, ℕ, ◌^◌, ◌<◌, ◌≤◌, Bool, true, false, cond, not, leb, List, length, get_or, set, ℤ, None, sym, refl, ap, ◌∙◌, subst, arith}
use lib.Signed.{lt_z}
use Rattle.std.proofs.lemmas.List.{get_or-set_same, set-set}
use Rattle.std.proofs.lemmas.Bool.{and_parts, and_from, le-leb, lt-ltb, leb-true, ltb-false}
use Rattle.segment.specs.Bounds.{bounded, may_take}
use Rattle.segment.specs.Updates.{taken, leaves}
use Rattle.segment.specs.declared.rows.PageRow.{PageRow}
use Rattle.segment.specs.declared.state.State.{State}
use Rattle.segment.specs.declared.state.State.TheVariants as is
use Rattle.rules.specs.Books.{Books, state_of, unused}
use Rattle.rules.specs.Pages.{page_row, is_lying, marked, page_count, left_count, rows_of}
use Rattle.rules.specs.Replacing.{from_closed, from_state, taken_at}
use Rattle.orders.specs.Counts.{Counted, Counts}
use Rattle.orders.proofs.Counting.{taken_counts}
use Rattle.orders.proofs.Every.{kept_most}
use Rattle.orders.proofs.Replaces.{passed}

module _ (b : Books) (n p : ℕ) (base : ℤ) (size : ℕ) where
  not_more : (lsn : ℤ) (more : Bool) → from_closed b n p base lsn more ≡ None → more ≡ false
  not_more lsn more e =
      let c1 = passed (lt_z base lsn) _ _ e in
      let c2 = passed (not (is_lying (page_row b.pages n p))) _ _ c1.1 in
      (passed more _ _ c2.1).0

  after : (s : State) → n < length b.segments → state_of b n ≡ s → from_state b n p base size s ≡ None → Counts b → Counted (taken base size s) (page_count n (taken_at n p base size b).pages) (left_count n (taken_at n p base size b).pages)
  after s l g e h =
      subst (λ x. Counted x (page_count n (taken_at n p base size b).pages) (left_count n (taken_at n p base size b).pages)) (get_or-set_same b.segments n _ unused l ∙ ap (taken base size) g)
      (taken_counts n p base size b (subst (λ x. from_state b n p base size x ≡ None) (sym g) e) h n)

  most : left_count n (taken_at n p base size b).pages ≤ page_count n (taken_at n p base size b).pages
  most = kept_most (λ (row : PageRow). row.left) (rows_of n (taken_at n p base size b).pages)

  pub may_take_from : (s : State) → n < length b.segments → state_of b n ≡ s → bounded s ≡ true → from_state b n p base size s ≡ None → Counts b → may_take size s ≡ true
  may_take_from (is.Free f) l g k e h = refl
  may_take_from (is.Active a) l g k e h =
      let deferred = leb-true _ _ (and_parts (leb a.deferred_replaced_rss a.rss) (leb a.rss (2 ^ 40)) k).0 in
      let live = ltb-false _ _ (not_more a.lsn _ e) in
      le-leb _ _ (omega arith)
  may_take_from (is.Inactive i) l g k e h =
      let live = ltb-false _ _ (not_more i.lsn _ e) in
      let c = after (is.Inactive i) l g e h in
      let few = most in
      and_from _ _ (le-leb _ _ (omega arith)) (lt-ltb i.replaced_pids i.max_pids (omega (arith, c.0, c.1)))
  may_take_from (is.Draining d) l g k e h =
      let c = after (is.Draining d) l g e h in
      let few = most in
      lt-ltb d.replaced_pids d.max_pids (omega (arith, c.0, c.1))

-- a state moved out, changed and written
pub taken_states : (segments between after : List State) (n : ℕ) (base z : ℤ) (size : ℕ) (s t : State) → z ≡ base → s ≡ get_or segments n unused → between ≡ set segments n unused → t ≡ taken z size s → after ≡ set between n t → after ≡ set segments n (taken base size (get_or segments n unused))
taken_states segments between after n base z size s t ez es eb et ea =
    ea ∙ (ap (λ l. set l n t) eb ∙ (set-set segments n unused t ∙ ap (set segments n) (et ∙ λ i. taken (ez i) size (es i))))

pub taken_pages : (pages after : List PageRow) (n p : ℕ) (base z : ℤ) (s q : State) (left : Bool) → z ≡ base → s ≡ q → left ≡ leaves z s → after ≡ cond left (marked pages (page_row pages n p)) pages → after ≡ cond (leaves base q) (marked pages (page_row pages n p)) pages
taken_pages pages after n p base z s q left ez es el ea = ea ∙ ap (λ t. cond t (marked pages (page_row pages n p)) pages) (el ∙ λ i. leaves (ez i) (es i))
