-- Freeing with its cuts and cleaning, on the lists: each keeps the books whole, the invariant and the clear log.
use Rattle.std.proofs.Common.{◌≡◌, ℕ, ◌*◌, ◌/◌, ◌<◌, ◌≤◌, Bool, true, false, not, ◌&&◌, eqb, leb, ◌⊎◌, List, length, get_or, set, ℤ, pos, negsuc, nat_abs, Some, None, Ok, Err, Option, sym, refl, ap, ◌∙◌, subst, inl, inr, mul-div_cancel, arith}
use lib.Signed.{le_z, non_neg}
use Rattle.std.proofs.lemmas.Bool.{cases_eq, cases_lt, eq-eqb, ne_eqb, eqb-true, true≢false}
use Rattle.std.proofs.lemmas.List.{get_or_past, get_or-set_same, get_or-set_other, length-set}
use Rattle.table.specs.Order.{unsigned_lawful, signed_lawful}
use Rattle.table.specs.Rows.{every, find, insert_row, remove_row, ascending, own_key}
use Rattle.table.proofs.Laws.{ascending_insert, ascending_remove, every_put}
use Rattle.table.proofs.Filters.{ascending_kept}
use Rattle.host.specs.Meaning.{Answer}
use Rattle.host.specs.declared.request.Request.{Request}
use Rattle.host.specs.declared.request.Request.TheVariants as asked
use Rattle.segment.specs.Rows.{ordering_key, page_key, by_page, freeable_key, by_signed}
use Rattle.segment.specs.declared.state.State.{State}
use Rattle.segment.specs.declared.state.State.TheVariants as is
use Rattle.segment.specs.declared.rows.OrderingRow.{OrderingRow}
use Rattle.segment.specs.declared.rows.PageRow.{PageRow}
use Rattle.segment.specs.declared.rows.FreeableRow.{FreeableRow}
use Rattle.rules.specs.Books.{Books, World, unused, state_of, with_segments}
use Rattle.rules.specs.Pages.{rows_off, is_in}
use Rattle.rules.specs.Freeing.{put_free, unordered, without_lsn}
use Rattle.rules.specs.Recount.{upd}
use Rattle.rules.specs.Runs.{Log}
use Rattle.safety.proofs.Plain.{Free, seg_is_free, Count, seen, above}
use Rattle.safety.proofs.Views.{View, view, Holders, Inv}
use Rattle.safety.proofs.Looks.{page_law, seg_of, on_of, ord_of, row_of, keep_of, on_insert, ord_remove, row_drop, in_eqb}
use Rattle.safety.proofs.Counts.{tally, left_in, tally_off}
use Rattle.safety.proofs.Moves.{Moved, moved_refl, moved_trans}
use Rattle.std.specs.Ordering.{nat_cmp, int_cmp}

-- the Free segments that start has still to list, and the blobs that may be removed
pub record Setting : Type 0 where
  pub waiting : ℕ → Bool
  pub fine : ℤ → Bool

abbrev pub view_of : Setting → Books → View
view_of set_up b = view (b.tip / b.size) (seg_of b.segments) (on_of b.size b.free) (ord_of b.size b.ordering) (row_of b.pages) (keep_of b.freeable) (above b.stabilized) set_up.waiting

-- ---- signs: no LSN in the books is negative
abbrev pub Plus : ℤ → Type 0
Plus z = z ≡ pos (nat_abs z)

abbrev pub PlusOpt : Option ℤ → Type 0
PlusOpt None = Unit {0}
PlusOpt (Some z) = Plus z

abbrev pub Positive : State → Type 0
Positive (is.Free f) = PlusOpt f.previous_lsn
Positive (is.Active a) = Plus a.lsn × Plus a.latest_replacement_lsn
Positive (is.Inactive i) = Plus i.lsn × Plus i.latest_replacement_lsn
Positive (is.Draining d) = Plus d.lsn × Plus d.latest_replacement_lsn

-- ---- counts: those of a segment that is Inactive or Draining are true
abbrev pub Tallied : State → ℕ → ℕ → Type 0
Tallied (is.Free f) x y = Unit {0}
Tallied (is.Active a) x y = Unit {0}
Tallied (is.Inactive i) x y = (i.max_pids ≡ x) × (i.replaced_pids ≡ y)
Tallied (is.Draining d) x y = (d.max_pids ≡ x) × (d.replaced_pids ≡ y)

abbrev pub Counts : List State → List PageRow → Type 0
Counts segs pages = (m : ℕ) → Tallied (get_or segs m unused) (tally (is_in m) pages) (tally (left_in m) pages)

abbrev pub even : ℕ → ℕ → Bool
even size o = eqb o (o / size * size)

pub record Whole (b : Books) : Type 0 where
  pub some : 0 < b.size
  pub free_up : ascending own_key nat_cmp b.free ≡ true
  pub ord_up : ascending ordering_key int_cmp b.ordering ≡ true
  pub pages_up : ascending page_key by_page b.pages ≡ true
  pub keep_up : ascending freeable_key by_signed b.freeable ≡ true
  pub room : b.tip / b.size ≤ length b.segments
  pub tip_even : b.tip ≡ b.tip / b.size * b.size
  pub free_even : every (even b.size) b.free ≡ true
  pub counts : Counts b.segments b.pages
  pub signs : (m : ℕ) → Positive (state_of b m)
  pub keep_signs : every (λ (row : FreeableRow). non_neg row.lsn) b.freeable ≡ true
  pub stored_sign : le_z (negsuc 0) b.stabilized ≡ true

-- ---- the log: every cut asked for in the call is at or above the tip, and every blob whose removal was granted may be removed
abbrev pub granted : Answer → Bool → Bool
granted (Ok u) t = t
granted (Err e) t = true

abbrev pub clear : (ℤ → Bool) → ℕ → Request × Answer → Bool
clear fine tip (asked.Cut o, a) = leb tip o
clear fine tip (asked.Fill o, a) = true
clear fine tip (asked.Remove b, a) = granted a (fine b)

pub record Good {M : Type 0} (set_up : Setting) (w : World (M × Log)) (r : Count) (h : Holders) : Type 0 where
  pub whole : Whole w.books
  pub inv : Inv (view_of set_up w.books) r h
  pub asked : every (clear set_up.fine w.books.tip) w.host.1 ≡ true

-- a step went well: some holders fit the books after it
pub record Went {M : Type 0} (set_up : Setting) (r : Count) (w : World (M × Log)) (h : Holders) (z : World (M × Log)) : Type 0 where
  pub now : Holders
  pub good : Good set_up z r now
  pub moved : Moved r.noted (seg_of w.books.segments) h (seg_of z.books.segments) now
  pub level : z.books.stabilized ≡ w.books.stabilized
  pub size : z.books.size ≡ w.books.size

module _ {M : Type 0} (set_up : Setting) (r : Count) where
  pub stayed : (w : World (M × Log)) (h : Holders) → Good set_up w r h → Went set_up r w h w
  stayed w h g = record { now = h; good = g; moved = moved_refl r.noted (seg_of w.books.segments) h; level = refl; size = refl }

  pub then_went : (w : World (M × Log)) (h : Holders) (c d : World (M × Log)) (p : Went set_up r w h c) → Went set_up r c p.now d → Went set_up r w h d
  then_went w h c d p q = record {
    now = q.now;
    good = q.good;
    moved = moved_trans r.noted (seg_of w.books.segments) h (seg_of c.books.segments) p.now (seg_of d.books.segments) q.now p.moved q.moved;
    level = q.level ∙ p.level;
    size = q.size ∙ p.size;
  }

pub reach : (segs : List State) (n : ℕ) → seg_is_free (seg_of segs n) ≡ false → n < length segs
reach segs n e = elim (cases_lt n (length segs)) [ inl l ↦ l | inr l ↦ absurd (let a : seg_of segs n ≡ Free None = ap seen (get_or_past segs n unused l) in let z : ◌≡◌ {A = ℕ} 0 1 = cc in omega arith) ]

-- ---- a state set
pub counts_set : (segs : List State) (pages pages' : List PageRow) (n : ℕ) (z : State) → n < length segs → Counts segs pages → Tallied z (tally (is_in n) pages') (tally (left_in n) pages') → ((m : ℕ) → (m ≡ n → ⊥) → (tally (is_in m) pages' ≡ tally (is_in m) pages) × (tally (left_in m) pages' ≡ tally (left_in m) pages)) → Counts (set segs n z) pages'
counts_set segs pages pages' n z l cs tz oth m = on (cases_eq m n)
  where
    on : (m ≡ n) ⊎ (m ≡ n → ⊥) → Tallied (get_or (set segs n z) m unused) (tally (is_in m) pages') (tally (left_in m) pages')
    on (inl e) = subst (λ k. Tallied (get_or (set segs n z) k unused) (tally (is_in k) pages') (tally (left_in k) pages')) (sym e) (rw (get_or-set_same segs n z unused l) tz)
    on (inr e) = rw (get_or-set_other segs n m z unused e) (rw (oth m e).0 (rw (oth m e).1 (cs m)))

pub signs_set : (segs : List State) (n : ℕ) (z : State) → n < length segs → ((m : ℕ) → Positive (get_or segs m unused)) → Positive z → (m : ℕ) → Positive (get_or (set segs n z) m unused)
signs_set segs n z l ps pz m = on (cases_eq m n)
  where
    on : (m ≡ n) ⊎ (m ≡ n → ⊥) → Positive (get_or (set segs n z) m unused)
    on (inl e) = subst (λ k. Positive (get_or (set segs n z) k unused)) (sym e) (rw (get_or-set_same segs n z unused l) pz)
    on (inr e) = rw (get_or-set_other segs n m z unused e) (ps m)

pub changed_whole : (b : Books) (n : ℕ) (z : State) → Whole b → n < length b.segments → Tallied z (tally (is_in n) b.pages) (tally (left_in n) b.pages) → Positive z → Whole (with_segments (set b.segments n z) b)
changed_whole b n z w low tz pz = record {
  some = w.some;
  free_up = w.free_up;
  ord_up = w.ord_up;
  pages_up = w.pages_up;
  keep_up = w.keep_up;
  room = omega (arith, length-set b.segments n z, w.room);
  tip_even = w.tip_even;
  free_even = w.free_even;
  counts = counts_set b.segments b.pages b.pages n z low w.counts tz (λ m ne. (refl, refl));
  signs = signs_set b.segments n z low w.signs pz;
  keep_signs = w.keep_signs;
  stored_sign = w.stored_sign;
}

-- ---- put on the free list
pub times_even : (size n : ℕ) → 0 < size → even size (n * size) ≡ true
times_even size n p = eq-eqb (n * size) (n * size / size * size) (sym (ap (λ k. k * size) (mul-div_cancel n p)))

apart : (n m : ℕ) → (m ≡ n → ⊥) → (x : PageRow) → is_in n x ≡ true → is_in m x ≡ false
apart n m ne x e = in_eqb m x ∙ ne_eqb x.segment m (λ q. ne (sym q ∙ eqb-true x.segment n (sym (in_eqb n x) ∙ e)))

apart_left : (n m : ℕ) → (m ≡ n → ⊥) → (x : PageRow) → is_in n x ≡ true → left_in m x ≡ false
apart_left n m ne x e = ap (λ t. t && x.left) (apart n m ne x e)

unordered_up : (s : State) (rows : List OrderingRow) → ascending ordering_key int_cmp rows ≡ true → ascending ordering_key int_cmp (unordered s rows) ≡ true
unordered_up (is.Free f) rows up = on f.previous_lsn
  where
    on : (o : Option ℤ) → ascending ordering_key int_cmp (without_lsn o rows) ≡ true
    on None = up
    on (Some z) = ascending_remove ordering_key signed_lawful rows z up
unordered_up (is.Active a) rows up = up
unordered_up (is.Inactive i) rows up = up
unordered_up (is.Draining d) rows up = up

free_tallied : (s : State) (x y x' y' : ℕ) → seg_is_free (seen s) ≡ true → Tallied s x y → Tallied s x' y'
free_tallied (is.Free f) x y x' y' e t = tt
free_tallied (is.Active a) x y x' y' e t = tt
free_tallied (is.Inactive i) x y x' y' e t = absurd (true≢false (sym e))
free_tallied (is.Draining d) x y x' y' e t = absurd (true≢false (sym e))

pub put_whole : (b : Books) (n : ℕ) → Whole b → seg_is_free (seg_of b.segments n) ≡ true → Whole (put_free n b)
put_whole b n w fr = record {
  some = w.some;
  free_up = ascending_insert own_key unsigned_lawful b.free (n * b.size) w.free_up;
  ord_up = unordered_up (state_of b n) b.ordering w.ord_up;
  pages_up = ascending_kept page_key page_law (λ row. not (is_in n row)) b.pages w.pages_up;
  keep_up = w.keep_up;
  room = w.room;
  tip_even = w.tip_even;
  free_even = every_put (even b.size) (Rattle.table.specs.Rows.towards own_key nat_cmp (n * b.size)) (n * b.size) b.free w.free_even (times_even b.size n w.some);
  counts = λ m. on m (cases_eq m n);
  signs = w.signs;
  keep_signs = w.keep_signs;
  stored_sign = w.stored_sign;
}
  where
    on : (m : ℕ) → (m ≡ n) ⊎ (m ≡ n → ⊥) → Tallied (state_of b m) (tally (is_in m) (rows_off n b.pages)) (tally (left_in m) (rows_off n b.pages))
    on m (inl e) = free_tallied (state_of b m) _ _ _ _ (ap (λ k. seg_is_free (seg_of b.segments k)) e ∙ fr) (w.counts m)
    on m (inr e) = rw (tally_off (is_in m) n (apart n m e) b.pages) (rw (tally_off (left_in m) n (apart_left n m e) b.pages) (w.counts m))

abbrev pub v_put : View → ℕ → ℕ → View
v_put v n l = view v.tip v.seg (upd v.on n true) (upd v.ord l None) (upd v.row n (λ q. None)) v.keep v.stable v.todo

pub put_view : (set_up : Setting) (b : Books) (n l : ℕ) → Whole b → unordered (state_of b n) b.ordering ≡ remove_row ordering_key int_cmp b.ordering (pos l) → view_of set_up (put_free n b) ≡ v_put (view_of set_up b) n l
put_view set_up b n l w e = λ i. view (b.tip / b.size) (seg_of b.segments) (on_insert b.size b.free n w.some i) ((ap (ord_of b.size) e ∙ ord_remove b.size b.ordering l w.ord_up) i) (row_drop b.pages n w.pages_up i) (keep_of b.freeable) (above b.stabilized) set_up.waiting
