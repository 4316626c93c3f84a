-- Link writes a page row; a replacement takes a page away from one segment: both keep the invariant.
use Rattle.std.proofs.Common.{◌≡◌, ℕ, ◌+◌, ◌/◌, ◌<◌, ◌≤◌, max, Bool, true, false, cond, not, eqb, ltb, ◌⊎◌, List, length, set, ℤ, pos, nat_abs, Some, None, Option, sym, refl, ap, ◌∙◌, subst, inl, inr, arith}
use mathlib.Core.Path.{fun_ext}
use Rattle.std.specs.Int.{int_max}
use Rattle.std.proofs.lemmas.Bool.{cases_eq, cases_lt, eq-eqb, ne_eqb, true≢false, not-true, lt-ltb, le-ltb}
use Rattle.std.proofs.lemmas.List.{length-set}
use Rattle.table.specs.Rows.{find, insert_row, ascending}
use Rattle.table.proofs.Laws.{ascending_insert, find_key}
use Rattle.segment.specs.Rows.{page_key, by_page}
use Rattle.segment.specs.Signs.{same_z}
use Rattle.segment.specs.Updates.{linked, taken, leaves}
use Rattle.segment.specs.declared.state.State.{State}
use Rattle.segment.specs.declared.state.State.TheVariants as is
use Rattle.segment.specs.declared.state.Active as active-state
use Rattle.segment.specs.declared.rows.PageRow.{PageRow}
use Rattle.rules.specs.Books.{Books, World, world, state_of}
use Rattle.rules.specs.Pages.{page_row, is_left, is_lying, new_row, written, left_row, marked, is_in}
use Rattle.rules.specs.Links.{linked_state, linked_at}
use Rattle.rules.specs.Replacing.{taken_at}
use Rattle.rules.specs.Recount.{upd}
use Rattle.rules.specs.Runs.{Log}
use Rattle.safety.proofs.Plain.{Seg, seg_is_free, active, lsn_of, the, mapped, upd2, Count, told_link, told_away, seen, above}
use Rattle.safety.proofs.Views.{View, view, Holders, Inv, v_link, link_keeps, v_away, Alike, away_keeps, active_ord}
use Rattle.safety.proofs.Looks.{page_law, seg_of, on_of, ord_of, row_of, keep_of, mark, seg_set, row_insert}
use Rattle.safety.proofs.Counts.{tally, left_in, other_in, other_left, marks_in, marks_left}
use Rattle.safety.proofs.Moves.{Moved, moved_same}
use Rattle.safety.proofs.Steps.{Setting, view_of, Plus, Positive, Tallied, Whole, Good, Went, reach, counts_set, signs_set}
use Rattle.safety.proofs.Cleans.{upd_id}

-- ---- rows
pub upd2_id : {A : Type 0} (f : ℕ → ℕ → A) (n p : ℕ) (v : A) → f n p ≡ v → upd2 f n p v ≡ f
upd2_id f n p v e = fun_ext (λ m. fun_ext (λ q. on m q (cases_eq m n) (cases_eq q p)))
  where
    on : (m q : ℕ) → (m ≡ n) ⊎ (m ≡ n → ⊥) → (q ≡ p) ⊎ (q ≡ p → ⊥) → upd2 f n p v m q ≡ f m q
    on m q (inl a) (inl b) = rw (eq-eqb m n a) (rw (eq-eqb q p b) (sym e ∙ (λ i. f (sym a i) (sym b i))))
    on m q (inl a) (inr b) = rw (eq-eqb m n a) (rw (ne_eqb q p b) refl)
    on m q (inr a) b = rw (ne_eqb m n a) refl

left_none : (o : Option PageRow) (x : PageRow) → o ≡ Some x → is_left o ≡ false → x.left ≡ false
left_none o x e f = sym (ap is_left e) ∙ f

pub row_written : (pages : List PageRow) (n p : ℕ) (o : Option PageRow) → page_row pages n p ≡ o → is_left o ≡ false → row_of (written n p pages o) ≡ upd2 (row_of pages) n p (Some false)
row_written pages n p None e f = row_insert pages (new_row n p)
row_written pages n p (Some x) e f = sym (upd2_id (row_of pages) n p (Some false) (ap (mapped mark) e ∙ ap Some f))

written_up : (pages : List PageRow) (n p : ℕ) (o : Option PageRow) → ascending page_key by_page pages ≡ true → ascending page_key by_page (written n p pages o) ≡ true
written_up pages n p None up = ascending_insert page_key page_law pages (new_row n p) up
written_up pages n p (Some x) up = up

written_in : (pages : List PageRow) (n p m : ℕ) (o : Option PageRow) → (m ≡ n → ⊥) → tally (is_in m) (written n p pages o) ≡ tally (is_in m) pages
written_in pages n p m None ne = other_in m (new_row n p) pages ne
written_in pages n p m (Some x) ne = refl

written_left : (pages : List PageRow) (n p m : ℕ) (o : Option PageRow) → (m ≡ n → ⊥) → tally (left_in m) (written n p pages o) ≡ tally (left_in m) pages
written_left pages n p m None ne = other_left m (new_row n p) pages ne
written_left pages n p m (Some x) ne = refl

-- ---- link
module _ {M : Type 0} (set_up : Setting) (r : Count) (h : Holders) where
  pub linked_good : (w : World (M × Log)) (n p size : ℕ) (a : active-state.Active) → Good set_up w r h → state_of w.books n ≡ is.Active a → is_left (page_row w.books.pages n p) ≡ false → Good set_up (world (linked_at n p size w.books) w.host) (told_link r n p) h
  linked_good w n p size a g e nl =
      let b : Books = w.books in
      let wh : Whole b = g.whole in
      let o : Option PageRow = page_row b.pages n p in
      let low : n < length b.segments = reach b.segments n (ap (λ s. seg_is_free (seen s)) e) in
      let z : State = linked_state size (state_of b n) in
      let ez : z ≡ is.Active (linked size a) = ap (linked_state size) e in
      let ps : Plus a.lsn × Plus a.latest_replacement_lsn = subst Positive e (wh.signs n) in
      let sg : seg_of (set b.segments n z) ≡ seg_of b.segments = seg_set b.segments n z low ∙ upd_id (seg_of b.segments) n (seen z) (ap seen e ∙ sym (ap seen ez)) in
      let vc : view_of set_up (linked_at n p size b) ≡ v_link (view_of set_up b) n p = λ j. view (b.tip / b.size) (sg j) (on_of b.size b.free) (ord_of b.size b.ordering) (row_written b.pages n p o refl nl j) (keep_of b.freeable) (above b.stabilized) set_up.waiting in
      record {
        whole = record {
          some = wh.some;
          free_up = wh.free_up;
          ord_up = wh.ord_up;
          pages_up = written_up b.pages n p o wh.pages_up;
          keep_up = wh.keep_up;
          room = omega (arith, length-set b.segments n z, wh.room);
          tip_even = wh.tip_even;
          free_even = wh.free_even;
          counts = counts_set b.segments b.pages (written n p b.pages o) n z low wh.counts (subst (λ s. Tallied s (tally (is_in n) (written n p b.pages o)) (tally (left_in n) (written n p b.pages o))) (sym ez) tt) (λ m ne. (written_in b.pages n p m o ne, written_left b.pages n p m o ne));
          signs = signs_set b.segments n z low wh.signs (subst Positive (sym ez) ps);
          keep_signs = wh.keep_signs;
          stored_sign = wh.stored_sign;
        };
        inv = subst (λ v. Inv v (told_link r n p) h) (sym vc) (link_keeps (view_of set_up b) r h n p g.inv (ap (λ s. seg_is_free (seen s)) e));
        asked = g.asked;
      }

-- ---- taking away
max_is : (z : ℤ) (k : ℕ) → Plus z → nat_abs (int_max z (pos k)) ≡ max k (nat_abs z)
max_is z k p = subst (λ y. nat_abs (int_max y (pos k)) ≡ max k (nat_abs z)) (sym p) (on (nat_abs z) (cases_lt k (nat_abs z)))
  where
    on : (m : ℕ) → (k < m) ⊎ (m ≤ k) → nat_abs (cond (ltb k m) (pos m) (pos k)) ≡ max k m
    on m (inl l) = rw (lt-ltb k m l) (omega arith)
    on m (inr l) = rw (le-ltb k m l) (omega arith)

max_plus : (z : ℤ) (k : ℕ) → Plus z → Plus (int_max z (pos k))
max_plus z k p = subst (λ y. Plus (int_max y (pos k))) (sym p) (on (nat_abs z) (ltb k (nat_abs z)))
  where
    on : (m : ℕ) (t : Bool) → Plus (cond t (pos m) (pos k))
    on m true = refl
    on m false = refl

taken_alike : (k size : ℕ) (s : State) → seg_is_free (seen s) ≡ false → Positive s → Alike (seen s) (seen (taken (pos k) size s)) k
taken_alike k size (is.Free f) e p = absurd (true≢false e)
taken_alike k size (is.Active a) e p = record { s_free = refl; z_free = refl; lsn = refl; act = refl; more = max_is a.latest_replacement_lsn k p.1 }
taken_alike k size (is.Inactive i) e p = record { s_free = refl; z_free = refl; lsn = refl; act = refl; more = max_is i.latest_replacement_lsn k p.1 }
taken_alike k size (is.Draining d) e p = record { s_free = refl; z_free = refl; lsn = refl; act = refl; more = max_is d.latest_replacement_lsn k p.1 }

taken_plus : (k size : ℕ) (s : State) → Positive s → Positive (taken (pos k) size s)
taken_plus k size (is.Free f) p = p
taken_plus k size (is.Active a) p = (p.0, max_plus a.latest_replacement_lsn k p.1)
taken_plus k size (is.Inactive i) p = (p.0, max_plus i.latest_replacement_lsn k p.1)
taken_plus k size (is.Draining d) p = (p.0, max_plus d.latest_replacement_lsn k p.1)

-- the counts of a segment that is not Active go up with the mark
taken_tallied : (k size : ℕ) (s : State) (x y x' y' : ℕ) → x' ≡ x → (active (seen s) ≡ None → y' ≡ y + 1) → Tallied s x y → Tallied (taken (pos k) size s) x' y'
taken_tallied k size (is.Free f) x y x' y' ex ey t = tt
taken_tallied k size (is.Active a) x y x' y' ex ey t = tt
taken_tallied k size (is.Inactive i) x y x' y' ex ey t = (t.0 ∙ sym ex, ap (λ c. c + 1) t.1 ∙ sym (ey refl))
taken_tallied k size (is.Draining d) x y x' y' ex ey t = (t.0 ∙ sym ex, ap (λ c. c + 1) t.1 ∙ sym (ey refl))

eqb_flip : (a c : ℕ) → eqb a c ≡ eqb c a
eqb_flip a c = on (cases_eq a c)
  where
    on : (a ≡ c) ⊎ (a ≡ c → ⊥) → eqb a c ≡ eqb c a
    on (inl e) = eq-eqb a c e ∙ sym (eq-eqb c a (sym e))
    on (inr e) = ne_eqb a c e ∙ sym (ne_eqb c a (λ z. e (sym z)))

-- the page leaves unless the base is the segment's own LSN, where no closed segment has that LSN
leaves_is : (k l : ℕ) (s : State) → seg_is_free (seen s) ≡ false → Positive s → lsn_of (seen s) ≡ Some l → (active (seen s) ≡ None → l ≡ k → ⊥) → leaves (pos k) s ≡ not (eqb k l)
leaves_is k l (is.Free f) e p h ne = absurd (true≢false e)
leaves_is k l (is.Active a) e p h ne = let q : nat_abs a.lsn ≡ l = ap the h in ap (λ z. not (same_z z (pos k))) (p.0 ∙ ap pos q) ∙ ap not (eqb_flip l k)
leaves_is k l (is.Inactive i) e p h ne = sym (ap not (ne_eqb k l (λ z. ne refl (sym z))))
leaves_is k l (is.Draining d) e p h ne = sym (ap not (ne_eqb k l (λ z. ne refl (sym z))))

lying_row : (o : Option PageRow) → is_lying o ≡ true → (x : PageRow) × (o ≡ Some x) × (x.left ≡ false)
lying_row None e = absurd (true≢false (sym e))
lying_row (Some x) e = (x, refl, not-true x.left e)

module _ (pages : List PageRow) (n p : ℕ) (x : PageRow) (at : page_row pages n p ≡ Some x) (lie : x.left ≡ false) where
  key : page_key x ≡ (n, p)
  key = find_key page_key page_law pages (n, p) x at

  seg_key : x.segment ≡ n
  seg_key = ap (λ (z : ℕ × ℕ). z.0) key

  found : find page_key by_page pages (page_key (left_row x)) ≡ Some x
  found = ap (find page_key by_page pages) key ∙ at

  pub row_marked : (t : Bool) → row_of (cond t (marked pages (page_row pages n p)) pages) ≡ upd2 (row_of pages) n p (Some t)
  row_marked true = ap (λ o. row_of (marked pages o)) at ∙ row_insert pages (left_row x) ∙ (λ i. upd2 (row_of pages) (key i).0 (key i).1 (Some true))
  row_marked false = sym (upd2_id (row_of pages) n p (Some false) (ap (mapped mark) at ∙ ap Some lie))

  pub marked_up : (t : Bool) → ascending page_key by_page pages ≡ true → ascending page_key by_page (cond t (marked pages (page_row pages n p)) pages) ≡ true
  marked_up true up = ap (λ o. ascending page_key by_page (marked pages o)) at ∙ ascending_insert page_key page_law pages (left_row x) up
  marked_up false up = up

  pub marked_in : (t : Bool) (m : ℕ) → tally (is_in m) (cond t (marked pages (page_row pages n p)) pages) ≡ tally (is_in m) pages
  marked_in true m = ap (λ o. tally (is_in m) (marked pages o)) at ∙ on (cases_eq m x.segment)
    where
      on : (m ≡ x.segment) ⊎ (m ≡ x.segment → ⊥) → tally (is_in m) (insert_row page_key by_page pages (left_row x)) ≡ tally (is_in m) pages
      on (inl e) = subst (λ k. tally (is_in k) (insert_row page_key by_page pages (left_row x)) ≡ tally (is_in k) pages) (sym e) (marks_in (left_row x) x pages found)
      on (inr e) = other_in m (left_row x) pages e
  marked_in false m = refl

  pub marked_other : (t : Bool) (m : ℕ) → (m ≡ n → ⊥) → tally (left_in m) (cond t (marked pages (page_row pages n p)) pages) ≡ tally (left_in m) pages
  marked_other true m ne = ap (λ o. tally (left_in m) (marked pages o)) at ∙ other_left m (left_row x) pages (λ e. ne (e ∙ seg_key))
  marked_other false m ne = refl

  pub marked_left : tally (left_in n) (marked pages (page_row pages n p)) ≡ tally (left_in n) pages + 1
  marked_left = ap (λ o. tally (left_in n) (marked pages o)) at ∙ subst (λ k. tally (left_in k) (insert_row page_key by_page pages (left_row x)) ≡ tally (left_in k) pages + 1) seg_key (marks_left (left_row x) x pages found lie refl)

closed_true : (k : ℕ) (s : State) → seg_is_free (seen s) ≡ false → active (seen s) ≡ None → leaves (pos k) s ≡ true
closed_true k (is.Free f) e h = absurd (true≢false e)
closed_true k (is.Active a) e h = absurd (let z : ◌≡◌ {A = ℕ} 0 1 = cc in omega arith)
closed_true k (is.Inactive i) e h = refl
closed_true k (is.Draining d) e h = refl

module _ {M : Type 0} (set_up : Setting) (r : Count) (h : Holders) where
  pub taken_good : (w : World (M × Log)) (n p k size new : ℕ) → Good set_up w r h → seg_is_free (seg_of w.books.segments n) ≡ false → active (seg_of w.books.segments new) ≡ Some k → is_lying (page_row w.books.pages n p) ≡ true → Went set_up (told_away r n p k) w h (world (taken_at n p (pos k) size w.books) w.host)
  taken_good w n p k size new g nf at ly =
      let b : Books = w.books in
      let wh : Whole b = g.whole in
      let v : View = view_of set_up b in
      let s : State = state_of b n in
      let low : n < length b.segments = reach b.segments n nf in
      let x : _ = lying_row (page_row b.pages n p) ly in
      let row : PageRow = x.0 in
      let ps : Positive s = wh.signs n in
      let al : Alike (seen s) (seen (taken (pos k) size s)) k = taken_alike k size s nf ps in
      let ob : v.ord k ≡ Some new = active_ord v r h g.inv new k at in
      let ls : lsn_of (v.seg n) ≡ Some (r.lsn n) = g.inv.same_lsn n nf in
      let apart : active (seen s) ≡ None → r.lsn n ≡ k → ⊥ = λ na q.
      let on : v.ord (the (lsn_of (v.seg n))) ≡ Some n = g.inv.seg_ord n nf in
      let ok2 : v.ord k ≡ Some n = ap v.ord (sym (ap the ls ∙ q)) ∙ on in
      let same : new ≡ n = ap the (sym ob ∙ ok2) in
      let an : active (v.seg n) ≡ Some k = subst (λ z. active (v.seg z) ≡ Some k) same at in
      let z : ◌≡◌ {A = ℕ} 0 1 = cc in omega arith in
      let lv : leaves (pos k) s ≡ not (eqb k (r.lsn n)) = leaves_is k (r.lsn n) s nf ps ls apart in
      let pages2 : List PageRow = cond (leaves (pos k) s) (marked b.pages (page_row b.pages n p)) b.pages in
      let sg : seg_of (set b.segments n (taken (pos k) size s)) ≡ upd (seg_of b.segments) n (seen (taken (pos k) size s)) = seg_set b.segments n (taken (pos k) size s) low in
      let rw2 : row_of pages2 ≡ upd2 (row_of b.pages) n p (Some (not (eqb k (r.lsn n)))) = row_marked b.pages n p row x.1 x.2 (leaves (pos k) s) ∙ ap (λ t. upd2 (row_of b.pages) n p (Some t)) lv in
      let vc : view_of set_up (taken_at n p (pos k) size b) ≡ v_away v n p (seen (taken (pos k) size s)) (not (eqb k (r.lsn n))) = λ j. view (b.tip / b.size) (sg j) (on_of b.size b.free) (ord_of b.size b.ordering) (rw2 j) (keep_of b.freeable) (above b.stabilized) set_up.waiting in
      record {
        now = h;
        good = record {
          whole = record {
            some = wh.some;
            free_up = wh.free_up;
            ord_up = wh.ord_up;
            pages_up = marked_up b.pages n p row x.1 x.2 (leaves (pos k) s) wh.pages_up;
            keep_up = wh.keep_up;
            room = omega (arith, length-set b.segments n (taken (pos k) size s), wh.room);
            tip_even = wh.tip_even;
            free_even = wh.free_even;
            counts = counts_set b.segments b.pages pages2 n (taken (pos k) size s) low wh.counts
                (taken_tallied k size s _ _ _ _ (marked_in b.pages n p row x.1 x.2 (leaves (pos k) s) n) (λ na. ap (λ t. tally (left_in n) (cond t (marked b.pages (page_row b.pages n p)) b.pages)) (closed_true k s nf na) ∙ marked_left b.pages n p row x.1 x.2) (wh.counts n))
                (λ m ne. (marked_in b.pages n p row x.1 x.2 (leaves (pos k) s) m, marked_other b.pages n p row x.1 x.2 (leaves (pos k) s) m ne));
            signs = signs_set b.segments n (taken (pos k) size s) low wh.signs (taken_plus k size s ps);
            keep_signs = wh.keep_signs;
            stored_sign = wh.stored_sign;
          };
          inv = subst (λ q. Inv q (told_away r n p k) h) (sym vc) (away_keeps v r h n p k new (seen (taken (pos k) size s)) g.inv al ob at (ap (mapped mark) x.1 ∙ ap Some x.2));
          asked = g.asked;
        };
        moved = subst (λ (q : ℕ → Seg). Moved (told_away r n p k).noted (seg_of b.segments) h q h) (sym sg) (moved_same (told_away r n p k).noted (seg_of b.segments) h n (seen (taken (pos k) size s)) nf al.z_free al.act);
        level = refl;
        size = refl;
      }
