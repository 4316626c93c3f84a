-- Every step of an accountant at work keeps the counts of closed segments true.
use Rattle.std.proofs.Common.{◌≡◌, ℕ, zero, suc, ◌+◌, ◌<◌, ◌≤◌, Bool, true, false, cond, not, ◌&&◌, ◌⊎◌, List, [], ◌∷◌, length, get_or, set, ℤ, Some, None, filter, Option, sym, refl, ap, ◌∙◌, subst, inl, inr, true≢false, arith}
use lib.Signed.{lt_z}
use Rattle.std.specs.Ordering.{is_eq}
use Rattle.std.specs.List.{ContainsAt as Has}
use Rattle.std.proofs.lemmas.List.{get_or-set_same, get_or-set_other, set_past}
use Rattle.std.proofs.lemmas.Bool.{and_parts, and_from, cases_eq, cases_lt, not-true, not-false, le-leb}
use Rattle.table.specs.Order.{unsigned_lawful}
use Rattle.table.specs.Rows.{every, find, insert_row, towards}
use Rattle.table.proofs.Filters.{has_from_kept}
use Rattle.table.proofs.Laws.{find_key, has_find}
use Rattle.table.proofs.Orders.{rank_same}
use Rattle.segment.specs.Bounds.{bounded}
use Rattle.segment.specs.Rows.{page_key, by_page}
use Rattle.segment.specs.Updates.{taken, leaves}
use Rattle.segment.specs.declared.rows.PageRow.{PageRow}
use Rattle.segment.specs.declared.state.Active.{Active}
use Rattle.segment.specs.declared.state.Inactive.{Inactive}
use Rattle.segment.specs.declared.state.State.{State}
use Rattle.segment.specs.declared.state.State.TheVariants as is
use Rattle.rules.specs.Books.{Books, with_segments, with_pages, unused, state_of}
use Rattle.rules.specs.Pages.{page_row, is_lying, is_in, rows_of, rows_off, queue_of, all_queued, queued_row, left_row, new_row, written, marked, page_count, left_count}
use Rattle.rules.specs.Freeing.{put_free}
use Rattle.rules.specs.Cleaning.{start_draining}
use Rattle.rules.specs.Replacing.{from_state, taken_at}
use Rattle.rules.specs.Stabilizing.{is_free}
use Rattle.orders.specs.Ordered.{Ordered}
use Rattle.orders.specs.Within.{Within, is_lsn, is_bounded}
use Rattle.orders.specs.Counts.{Counted, Counts}
use Rattle.orders.proofs.Alone.{page_laws, rank_other}
use Rattle.orders.proofs.Every.{every_index, kept_most}
use Rattle.orders.proofs.Replaces.{passed}
use Rattle.orders.proofs.Tallies.{over, beside, through_map, left_as_one, off_count}

pub past_end : (l : List State) (n : ℕ) → length l ≤ n → get_or l n unused ≡ unused
past_end [] n h = refl
past_end (x ∷ l) zero h = absurd (omega arith)
past_end (x ∷ l) (suc n) h = past_end l n (omega arith)

-- the counts of segment m in two lists of page rows are the same
abbrev SameCounts : ℕ → List PageRow → List PageRow → Type 0
SameCounts m pages other = (page_count m other ≡ page_count m pages) × (left_count m other ≡ left_count m pages)

counted_same : (s : State) (m : ℕ) (pages other : List PageRow) → SameCounts m pages other → Counted s (page_count m pages) (left_count m pages) → Counted s (page_count m other) (left_count m other)
counted_same s m pages other e h = subst (λ x. Counted s x (left_count m other)) (sym e.0) (subst (λ x. Counted s (page_count m pages) x) (sym e.1) h)

-- one state and the rows of its segment change
pub counts_set : (n : ℕ) (s : State) (other : List PageRow) (b : Books) → Counted s (page_count n other) (left_count n other) → ((m : ℕ) → (m ≡ n → ⊥) → SameCounts m b.pages other) → Counts b → Counts (with_segments (set b.segments n s) (with_pages other b))
counts_set n s other b here same h m = on (cases_eq m n)
  where
    at_n : (n < length b.segments) ⊎ (length b.segments ≤ n) → Counted (get_or (set b.segments n s) n unused) (page_count n other) (left_count n other)
    at_n (inl l) = subst (λ x. Counted x (page_count n other) (left_count n other)) (sym (get_or-set_same b.segments n s unused l)) here
    at_n (inr l) = subst (λ x. Counted x (page_count n other) (left_count n other)) (sym (ap (λ x. get_or x n unused) (set_past b.segments n s l) ∙ past_end b.segments n l)) tt

    on : (m ≡ n) ⊎ (m ≡ n → ⊥) → Counted (get_or (set b.segments n s) m unused) (page_count m other) (left_count m other)
    on (inl q) = subst (λ x. Counted (get_or (set b.segments n s) x unused) (page_count x other) (left_count x other)) (sym q) (at_n (cases_lt n (length b.segments)))
    on (inr q) = subst (λ x. Counted x (page_count m other) (left_count m other)) (sym (get_or-set_other b.segments n m s unused q)) (counted_same (state_of b m) m b.pages other (same m q) (h m))

-- only the page rows change, and no count with them
pub counts_pages : (other : List PageRow) (b : Books) → ((m : ℕ) → SameCounts m b.pages other) → Counts b → Counts (with_pages other b)
counts_pages other b same h m = counted_same (state_of b m) m b.pages other (same m) (h m)

free_counted : (s : State) (pages left : ℕ) → is_free s ≡ true → Counted s pages left
free_counted (is.Free f) pages left e = tt
free_counted (is.Active a) pages left e = tt
free_counted (is.Inactive i) pages left e = absurd (true≢false (sym e))
free_counted (is.Draining d) pages left e = absurd (true≢false (sym e))

pub freed_counts : (n : ℕ) (b : Books) → is_free (state_of b n) ≡ true → Counts b → Counts (put_free n b)
freed_counts n b f h m = on (cases_eq m n)
  where
    on : (m ≡ n) ⊎ (m ≡ n → ⊥) → Counted (state_of b m) (page_count m (rows_off n b.pages)) (left_count m (rows_off n b.pages))
    on (inl q) = free_counted (state_of b m) _ _ (ap (λ x. is_free (state_of b x)) q ∙ f)
    on (inr q) = let e = off_count n m b.pages q in counted_same (state_of b m) m b.pages (rows_off n b.pages) (ap length e, ap (λ l. length (filter (λ (row : PageRow). row.left) l)) e) (h m)

-- ---- the rows after an edit
queued_counts : (n m : ℕ) (pages : List PageRow) → SameCounts m pages (all_queued n pages)
queued_counts n m pages = (
  through_map (is_in m) _ pages (λ row. seg row (is_in n row && not row.left)),
  left_as_one m (all_queued n pages) ∙ (through_map (λ row. is_in m row && row.left) _ pages (λ row. both row (is_in n row && not row.left)) ∙ sym (left_as_one m pages)),
)
  where
    seg : (row : PageRow) (t : Bool) → is_in m (cond t (queued_row true row) row) ≡ is_in m row
    seg row true = refl
    seg row false = refl

    both : (row : PageRow) (t : Bool) → (is_in m (cond t (queued_row true row) row) && (cond t (queued_row true row) row).left) ≡ (is_in m row && row.left)
    both row true = refl
    both row false = refl

pub drained_counts : (n : ℕ) (i : Inactive) (b : Books) → state_of b n ≡ is.Inactive i → Counts b → Counts (start_draining n i b)
drained_counts n i b e h =
    let c : Counted (is.Inactive i) (page_count n b.pages) (left_count n b.pages) = subst (λ x. Counted x (page_count n b.pages) (left_count n b.pages)) e (h n) in
    let q = queued_counts n n b.pages in
    counts_set n _ (all_queued n b.pages) b (c.0 ∙ sym q.0, c.1 ∙ sym q.1) (λ m r. queued_counts n m b.pages) h

-- a row of segment n, over one of the same page or beside all others, leaves other segments alone
other_in : (n m : ℕ) (row : PageRow) → row.segment ≡ n → (m ≡ n → ⊥) → is_in m row ≡ false
other_in n m row s h = rank_other row.segment m (λ r. h (sym r ∙ s))

over_others : (n m : ℕ) (row x : PageRow) (pages : List PageRow) → find page_key by_page pages (page_key row) ≡ Some x → row.segment ≡ n → x.segment ≡ n → (m ≡ n → ⊥) → SameCounts m pages (insert_row page_key by_page pages row)
over_others n m row x pages f s t h =
    let p = over (is_in m) (towards page_key by_page (page_key row)) row x pages f in
    let q = over (λ r. is_in m r && r.left) (towards page_key by_page (page_key row)) row x pages f in (
      level (is_in m row) (is_in m x) _ _ (other_in n m row s h) (other_in n m x t h) p,
      left_as_one m (insert_row page_key by_page pages row) ∙ (level (is_in m row && row.left) (is_in m x && x.left) _ _ (ap (λ z. z && row.left) (other_in n m row s h)) (ap (λ z. z && x.left) (other_in n m x t h)) q ∙ sym (left_as_one m pages)),
    )
  where
    level : (a c : Bool) (y z : ℕ) → a ≡ false → c ≡ false → y + cond c 1 0 ≡ z + cond a 1 0 → y ≡ z
    level true c y z e f g = absurd (true≢false e)
    level false true y z e f g = absurd (true≢false f)
    level false false y z e f g = omega arith

beside_others : (n m : ℕ) (row : PageRow) (pages : List PageRow) → find page_key by_page pages (page_key row) ≡ None → row.segment ≡ n → (m ≡ n → ⊥) → SameCounts m pages (insert_row page_key by_page pages row)
beside_others n m row pages f s h =
    let p = beside (is_in m) (towards page_key by_page (page_key row)) row pages f in
    let q = beside (λ r. is_in m r && r.left) (towards page_key by_page (page_key row)) row pages f in (
      level (is_in m row) _ _ (other_in n m row s h) p,
      left_as_one m (insert_row page_key by_page pages row) ∙ (level (is_in m row && row.left) _ _ (ap (λ z. z && row.left) (other_in n m row s h)) q ∙ sym (left_as_one m pages)),
    )
  where
    level : (a : Bool) (y z : ℕ) → a ≡ false → y ≡ z + cond a 1 0 → y ≡ z
    level true y z e g = absurd (true≢false e)
    level false y z e g = omega arith

written_others : (n p m : ℕ) (pages : List PageRow) → (m ≡ n → ⊥) → SameCounts m pages (written n p pages (page_row pages n p))
written_others n p m pages h = on (page_row pages n p) refl
  where
    on : (o : Option PageRow) → page_row pages n p ≡ o → SameCounts m pages (written n p pages o)
    on None e = beside_others n m (new_row n p) pages e refl h
    on (Some row) e = (refl, refl)

active_counted : (s : State) (a : Active) (pages left : ℕ) → s ≡ is.Active a → Counted s pages left
active_counted s a pages left e = subst (λ x. Counted x pages left) (sym e) tt

pub linked_counts : (n p : ℕ) (s : State) (a : Active) (b : Books) → s ≡ is.Active a → Counts b → Counts (with_segments (set b.segments n s) (with_pages (written n p b.pages (page_row b.pages n p)) b))
linked_counts n p s a b e h = counts_set n s _ b (active_counted s a _ _ e) (λ m q. written_others n p m b.pages q) h

-- ---- taking away
lying_row : (o : Option PageRow) → is_lying o ≡ true → (row : PageRow) × (o ≡ Some row) × (row.left ≡ false)
lying_row None h = absurd (true≢false (sym h))
lying_row (Some row) h = (row, refl, not-true _ h)

marked_others : (n p m : ℕ) (row : PageRow) (pages : List PageRow) → page_row pages n p ≡ Some row → (m ≡ n → ⊥) → SameCounts m pages (insert_row page_key by_page pages (left_row row))
marked_others n p m row pages e h =
    let k = find_key page_key page_laws pages (n, p) row e in
    let s : row.segment ≡ n = ap (λ (q : ℕ × ℕ). q.0) k in
    over_others n m (left_row row) row pages (ap (find page_key by_page pages) k ∙ e) s s h

marked_own : (n p : ℕ) (row : PageRow) (pages : List PageRow) → page_row pages n p ≡ Some row → row.left ≡ false → (page_count n (insert_row page_key by_page pages (left_row row)) ≡ page_count n pages) × (left_count n (insert_row page_key by_page pages (left_row row)) ≡ left_count n pages + 1)
marked_own n p row pages e lying =
    let k = find_key page_key page_laws pages (n, p) row e in
    let f : find page_key by_page pages (page_key row) ≡ Some row = ap (find page_key by_page pages) k ∙ e in
    let s : row.segment ≡ n = ap (λ (q : ℕ × ℕ). q.0) k in
    let inside : is_in n row ≡ true = ap is_eq (rank_same unsigned_lawful row.segment n s) in
    let c = over (is_in n) (towards page_key by_page (page_key row)) (left_row row) row pages f in
    let d = over (λ r. is_in n r && r.left) (towards page_key by_page (page_key row)) (left_row row) row pages f in
    (cancel (is_in n row) _ _ c, left_as_one n (insert_row page_key by_page pages (left_row row)) ∙ (gain (is_in n row) row.left _ _ inside lying d ∙ ap (λ x. x + 1) (sym (left_as_one n pages))))
  where
    cancel : (t : Bool) (y z : ℕ) → y + cond t 1 0 ≡ z + cond t 1 0 → y ≡ z
    cancel true y z g = omega arith
    cancel false y z g = omega arith

    gain : (t l : Bool) (y z : ℕ) → t ≡ true → l ≡ false → y + cond (t && l) 1 0 ≡ z + cond (t && true) 1 0 → y ≡ z + 1
    gain true true y z e f g = absurd (true≢false f)
    gain true false y z e f g = omega arith
    gain false l y z e f g = absurd (true≢false (sym e))

pub taken_counts : (n p : ℕ) (base : ℤ) (size : ℕ) (b : Books) → from_state b n p base size (state_of b n) ≡ None → Counts b → Counts (taken_at n p base size b)
taken_counts n p base size b e h = on (state_of b n) refl
  where
    on : (s : State) → state_of b n ≡ s → Counts (with_segments (set b.segments n (taken base size s)) (with_pages (cond (leaves base s) (marked b.pages (page_row b.pages n p)) b.pages) b))
    on (is.Free f) g = counts_set n (is.Free f) b.pages b tt (λ m q. (refl, refl)) h
    on (is.Active a) g = active (leaves base (is.Active a)) (page_row b.pages n p) refl
      where
        active : (t : Bool) (o : Option PageRow) → page_row b.pages n p ≡ o → Counts (with_segments (set b.segments n (taken base size (is.Active a))) (with_pages (cond t (marked b.pages o) b.pages) b))
        active true None f = counts_set n (taken base size (is.Active a)) b.pages b tt (λ m q. (refl, refl)) h
        active true (Some row) f = counts_set n (taken base size (is.Active a)) (insert_row page_key by_page b.pages (left_row row)) b tt (λ m q. marked_others n p m row b.pages f q) h
        active false o f = counts_set n (taken base size (is.Active a)) b.pages b tt (λ m q. (refl, refl)) h
    on (is.Inactive i) g =
        let checks = subst (λ s. from_state b n p base size s ≡ None) g e in
        let c1 = passed (lt_z base i.lsn) _ _ checks in
        let c2 = passed (not (is_lying (page_row b.pages n p))) _ _ c1.1 in
        let r = lying_row (page_row b.pages n p) (not-false _ c2.0) in
        let c : Counted (is.Inactive i) (page_count n b.pages) (left_count n b.pages) = subst (λ x. Counted x (page_count n b.pages) (left_count n b.pages)) g (h n) in
        let own = marked_own n p r.0 b.pages r.1 r.2 in
        subst (λ o. Counts (with_segments (set b.segments n (taken base size (is.Inactive i))) (with_pages (marked b.pages o) b))) (sym r.1)
        (counts_set n (taken base size (is.Inactive i)) (insert_row page_key by_page b.pages (left_row r.0)) b (c.0 ∙ sym own.0, ap (λ x. x + 1) c.1 ∙ sym own.1) (λ m q. marked_others n p m r.0 b.pages r.1 q) h)
    on (is.Draining d) g =
        let checks = subst (λ s. from_state b n p base size s ≡ None) g e in
        let c1 = passed (lt_z base d.lsn) _ _ checks in
        let c2 = passed (not (is_lying (page_row b.pages n p))) _ _ c1.1 in
        let r = lying_row (page_row b.pages n p) (not-false _ c2.0) in
        let c : Counted (is.Draining d) (page_count n b.pages) (left_count n b.pages) = subst (λ x. Counted x (page_count n b.pages) (left_count n b.pages)) g (h n) in
        let own = marked_own n p r.0 b.pages r.1 r.2 in
        subst (λ o. Counts (with_segments (set b.segments n (taken base size (is.Draining d))) (with_pages (marked b.pages o) b))) (sym r.1)
        (counts_set n (taken base size (is.Draining d)) (insert_row page_key by_page b.pages (left_row r.0)) b (c.0 ∙ sym own.0, ap (λ x. x + 1) c.1 ∙ sym own.1) (λ m q. marked_others n p m r.0 b.pages r.1 q) h)

-- ---- pop
pub popped_counts : (n : ℕ) (row : PageRow) (rows : List PageRow) (b : Books) → queue_of n b.pages ≡ row ∷ rows → Ordered b → Counts b → Counts (with_pages (insert_row page_key by_page b.pages (queued_row false row)) b)
popped_counts n row rows b e o h = counts_pages _ b (λ m. (
  cancel (is_in m row) _ _ (over (is_in m) (towards page_key by_page (page_key row)) (queued_row false row) row b.pages found),
  left_as_one m (insert_row page_key by_page b.pages (queued_row false row)) ∙ (cancel (is_in m row && row.left) _ _ (over (λ r. is_in m r && r.left) (towards page_key by_page (page_key row)) (queued_row false row) row b.pages found) ∙ sym (left_as_one m b.pages)),
)) h
  where
    found : find page_key by_page b.pages (page_key row) ≡ Some row
    found = has_find page_key page_laws b.pages row o.pages (has_from_kept _ b.pages row (has_from_kept _ (rows_of n b.pages) row (subst (λ l. Has l row) (sym e) (0, omega arith, λ d. refl))).0).0

    cancel : (t : Bool) (y z : ℕ) → y + cond t 1 0 ≡ z + cond t 1 0 → y ≡ z
    cancel true y z g = omega arith
    cancel false y z g = omega arith

-- ---- the counts bound each other
state_bounds : (s : State) (n : ℕ) (pages : List PageRow) → is_bounded s ≡ true → Counted s (page_count n pages) (left_count n pages) → bounded s ≡ true
state_bounds (is.Free f) n pages h c = refl
state_bounds (is.Active a) n pages h c = (and_parts (is_lsn a.latest_replacement_lsn) _ (and_parts (is_lsn a.lsn) _ h).1).1
state_bounds (is.Inactive i) n pages h c =
    let k = kept_most (λ (row : PageRow). row.left) (rows_of n pages) in
    and_from _ _ (and_parts (is_lsn i.latest_replacement_lsn) _ (and_parts (is_lsn i.lsn) _ h).1).1 (le-leb i.replaced_pids i.max_pids (omega (arith, c.0, c.1)))
state_bounds (is.Draining d) n pages h c =
    let k = kept_most (λ (row : PageRow). row.left) (rows_of n pages) in
    le-leb d.replaced_pids d.max_pids (omega (arith, c.0, c.1))

every_at_all : (p : State → Bool) (l : List State) → ((n : ℕ) → p (get_or l n unused) ≡ true) → every p l ≡ true
every_at_all p [] h = refl
every_at_all p (x ∷ l) h = and_from (p x) _ (h 0) (every_at_all p l (λ n. h (suc n)))

pub counts_bound : (b : Books) → Within b → Counts b → every bounded b.segments ≡ true
counts_bound b w c = every_at_all bounded b.segments (λ n. state_bounds (state_of b n) n b.pages (every_index is_bounded b.segments n unused refl w.states) (c n))
