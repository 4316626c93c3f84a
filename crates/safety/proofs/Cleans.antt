-- Freeing with its cuts, holding back and cleaning a segment go well.
use Rattle.std.proofs.Common.{◌≡◌, ℕ, zero, suc, ◌+◌, ◌-◌, ◌*◌, ◌/◌, ◌<◌, ◌≤◌, Bool, true, false, cond, not, ◌&&◌, eqb, ltb, leb, ◌⊎◌, List, [], ◌∷◌, ◌++◌, map, length, set, ℤ, pos, nat_abs, Some, None, Option, Ordering, sym, refl, ap, ◌∙◌, subst, inl, inr, suc-mul, mul-div_cancel, arith}
use mathlib.Core.Path.{fun_ext}
use lib.Signed.{non_neg}
use Rattle.std.specs.Ordering.{is_lt, nat_cmp, int_cmp}
use Rattle.std.proofs.lemmas.Bool.{cases_eq, eq-eqb, ne_eqb, eqb-true, eqb-false, and_parts, and_from, true≢false, leb-true, le-leb, not-true}
use Rattle.std.proofs.lemmas.List.{get_or-set_same, length-set}
use Rattle.table.specs.Order.{unsigned_lawful}
use Rattle.table.specs.Rows.{every, find, insert_row, remove_row, ascending, own_key, towards}
use Rattle.table.proofs.Laws.{ascending_insert, ascending_remove, every_put, every_cut, every_mono}
use Rattle.host.specs.Meaning.{Answer}
use Rattle.host.specs.declared.request.Request.{Request}
use Rattle.host.specs.declared.request.Request.TheVariants as asked
use Rattle.segment.specs.Changes.{drained, emptied}
use Rattle.segment.specs.Rows.{ordering_key, page_key, by_page, freeable_key, by_signed}
use Rattle.segment.specs.declared.state.State.{State}
use Rattle.segment.specs.declared.state.State.TheVariants as is
use Rattle.segment.specs.declared.state.Inactive.{Inactive}
use Rattle.segment.specs.declared.state.Draining.{Draining}
use Rattle.segment.specs.declared.rows.OrderingRow.{OrderingRow}
use Rattle.segment.specs.declared.rows.PageRow.{PageRow}
use Rattle.segment.specs.declared.rows.FreeableRow.{FreeableRow}
use Rattle.rules.specs.Books.{Books, World, world, unused, state_of, segment_of}
use Rattle.rules.specs.Pages.{is_in, all_queued, queued_row}
use Rattle.rules.specs.Freeing.{put_free, unordered, is_free_offset, can_cut, cut_once, cut_tail, freed}
use Rattle.rules.specs.Cleaning.{half_empty, start_draining, drain_by, drain_if_empty, is_active, active_at, holder, emptied_at, held_by, settle, free_by, cleaned}
use Rattle.rules.specs.Recount.{upd}
use Rattle.rules.specs.Runs.{Log, recorded}
use Rattle.safety.proofs.Plain.{Seg, Free, Active, Shut, seg_is_free, active, lsn_of, latest, is_none, here, mapped, upd2, greatest, Count, seen, above}
use Rattle.safety.proofs.Views.{View, view, Holders, Inv, v_free, v_hold, free_keeps, hold_keeps, v_cut, cut_keeps, active_ord}
use Rattle.safety.proofs.Looks.{signed_law, number_in, seg_of, on_of, ord_of, row_of, keep_of, seg_set, on_remove, row_queue, keep_insert}
use Rattle.safety.proofs.Counts.{tally, left_in, queue_in, queue_left, all_left}
use Rattle.safety.proofs.Moves.{Moved, moved_refl, moved_free, moved_hold}
use Rattle.safety.proofs.Steps.{Setting, view_of, Plus, Positive, Tallied, even, Whole, clear, Good, Went, stayed, then_went, reach, counts_set, signs_set, changed_whole, put_whole, put_view}

-- ---- cutting
step_down : (size k tip : ℕ) → tip ≡ k * size → eqb tip 0 ≡ false → (k ≡ (k - 1) + 1) × (tip - size ≡ (k - 1) * size)
step_down size zero tip e f = absurd (eqb-false tip 0 f (omega (arith, e)))
step_down size (suc j) tip e f = let q : suc j - 1 ≡ j = omega arith in let d : tip - size ≡ j * size = omega (arith, e, suc-mul j size) in (omega arith, d ∙ ap (λ k. k * size) (sym q))

pub every_append : {X : Type 0} (p : X → Bool) (xs ys : List X) → every p xs ≡ true → every p ys ≡ true → every p (xs ++ ys) ≡ true
every_append p [] ys e f = f
every_append p (x ∷ xs) ys e f = and_from (p x) (every p (xs ++ ys)) (and_parts (p x) (every p xs) e).0 (every_append p xs ys (and_parts (p x) (every p xs) e).1 f)

pub clear_lower : (fine : ℤ → Bool) (hi lo : ℕ) → lo ≤ hi → (x : Request × Answer) → clear fine hi x ≡ true → clear fine lo x ≡ true
clear_lower fine hi lo l (asked.Cut o, a) e = let q : hi ≤ o = leb-true hi o e in le-leb lo o (omega arith)
clear_lower fine hi lo l (asked.Fill o, a) e = refl
clear_lower fine hi lo l (asked.Remove b, a) e = e

-- what cutting leaves as it is
pub record Trimmed (b c : Books) : Type 0 where
  pub size : c.size ≡ b.size
  pub segments : c.segments ≡ b.segments
  pub level : c.stabilized ≡ b.stabilized
  pub pages : c.pages ≡ b.pages
  pub blobs : c.blobs ≡ b.blobs
  pub freeable : c.freeable ≡ b.freeable
  pub ordering : c.ordering ≡ b.ordering

module _ {M : Type 0} (respond : M → Request → Answer × M) (set_up : Setting) (r : Count) (h : Holders) where
  pub cut_once_good : (w : World (M × Log)) → Good set_up w r h → can_cut w.books ≡ true → Good set_up (cut_once (recorded respond) w) r h
  cut_once_good w g ok =
      let b : Books = w.books in
      let k : ℕ = b.tip / b.size in
      let j : ℕ = k - 1 in
      let wh : Whole b = g.whole in
      let p : _ = and_parts (not (eqb b.tip 0)) (ltb 1 (length b.free) && is_free_offset b (b.tip - b.size)) ok in
      let q : _ = and_parts (ltb 1 (length b.free)) (is_free_offset b (b.tip - b.size)) p.1 in
      let d : (k ≡ j + 1) × (b.tip - b.size ≡ j * b.size) = step_down b.size k b.tip wh.tip_even (not-true (eqb b.tip 0) p.0) in
      let tips : (b.tip - b.size) / b.size ≡ j = ap (λ o. o / b.size) d.1 ∙ mul-div_cancel j wh.some in
      let on : on_of b.size b.free j ≡ true = ap (is_free_offset b) (sym d.1) ∙ q.1 in
      let same : view_of set_up (cut_once (recorded respond) w).books ≡ v_cut (view_of set_up b) j = λ i. view (tips i) (seg_of b.segments) ((ap (λ o. on_of b.size (remove_row own_key nat_cmp b.free o)) d.1 ∙ on_remove b.size b.free j wh.some wh.free_up) i) (ord_of b.size b.ordering) (row_of b.pages) (keep_of b.freeable) (above b.stabilized) set_up.waiting in
      record {
        whole = record {
          some = wh.some;
          free_up = ascending_remove own_key unsigned_lawful b.free (b.tip - b.size) wh.free_up;
          ord_up = wh.ord_up;
          pages_up = wh.pages_up;
          keep_up = wh.keep_up;
          room = omega (arith, tips, d.0, wh.room);
          tip_even = d.1 ∙ ap (λ z. z * b.size) (sym tips);
          free_even = every_cut (even b.size) (towards own_key nat_cmp (b.tip - b.size)) b.free wh.free_even;
          counts = wh.counts;
          signs = wh.signs;
          keep_signs = wh.keep_signs;
          stored_sign = wh.stored_sign;
        };
        inv = subst (λ v. Inv v r h) (sym same) (cut_keeps (view_of set_up b) r h j g.inv d.0 on);
        asked = every_append (clear set_up.fine (b.tip - b.size)) w.host.1 _ (every_mono (clear set_up.fine b.tip) (clear set_up.fine (b.tip - b.size)) w.host.1 (clear_lower set_up.fine b.tip (b.tip - b.size) (omega arith)) g.asked) (and_from (leb (b.tip - b.size) (b.tip - b.size)) true (le-leb (b.tip - b.size) (b.tip - b.size) (omega arith)) refl);
      }

  pub cut_tail_good : (k : ℕ) (w : World (M × Log)) → Good set_up w r h → Good set_up (cut_tail (recorded respond) k w) r h
  unfolding cut_tail
  cut_tail_good zero w g = g
  cut_tail_good (suc k) w g = on (cut_tail_good k (cut_once (recorded respond) w)) (can_cut w.books) refl
    where
      on : (Good set_up (cut_once (recorded respond) w) r h → Good set_up (cut_tail (recorded respond) k (cut_once (recorded respond) w)) r h) → (t : Bool) → can_cut w.books ≡ t → Good set_up (cond t (cut_tail (recorded respond) k (cut_once (recorded respond) w)) w) r h
      on ih true e = ih (cut_once_good w g e)
      on ih false e = g

module _ {M : Type 0} (respond : M → Request → Answer × M) where
  pub cut_trims : (k : ℕ) (w : World M) → Trimmed w.books (cut_tail respond k w).books
  unfolding cut_tail
  cut_trims zero w = record { size = refl; segments = refl; level = refl; pages = refl; blobs = refl; freeable = refl; ordering = refl }
  cut_trims (suc k) w = on (cut_trims k (cut_once respond w)) (can_cut w.books)
    where
      on : Trimmed (cut_once respond w).books (cut_tail respond k (cut_once respond w)).books → (t : Bool) → Trimmed w.books (cond t (cut_tail respond k (cut_once respond w)) w).books
      on ih true = record { size = ih.size; segments = ih.segments; level = ih.level; pages = ih.pages; blobs = ih.blobs; freeable = ih.freeable; ordering = ih.ordering }
      on ih false = record { size = refl; segments = refl; level = refl; pages = refl; blobs = refl; freeable = refl; ordering = refl }

-- ---- freed, once the books with the segment on the list are good
module _ {M : Type 0} (respond : M → Request → Answer × M) (set_up : Setting) (r : Count) where
  pub freed_went : (w : World (M × Log)) (h : Holders) (z : World (M × Log)) (n : ℕ) (g : Holders) → z.host ≡ w.host → Good set_up (world (put_free n z.books) z.host) r g → Moved r.noted (seg_of w.books.segments) h (seg_of z.books.segments) g → z.books.stabilized ≡ w.books.stabilized → z.books.size ≡ w.books.size → Went set_up r w h (freed (recorded respond) n z)
  freed_went w h z n g same good moved lev siz =
      let y : World (M × Log) = world (put_free n z.books) z.host in
      let k : ℕ = length (put_free n z.books).free in
      let t : Trimmed (put_free n z.books) (freed (recorded respond) n z).books = cut_trims (recorded respond) k y in
      record {
        now = g;
        good = cut_tail_good respond set_up r g k y good;
        moved = subst (λ (s : List State). Moved r.noted (seg_of w.books.segments) h (seg_of s) g) (sym t.segments) moved;
        level = t.level ∙ lev;
        size = t.size ∙ siz;
      }

-- ---- the holder
act_is : (s : State) → is_active s ≡ not (is_none (active (seen s)))
act_is (is.Free f) = refl
act_is (is.Active a) = refl
act_is (is.Inactive i) = refl
act_is (is.Draining d) = refl

pub holder_some : (b : Books) (o : Option OrderingRow) (t : ℕ) → active_at b o ≡ Some t → (mapped (number_in b.size) o ≡ Some t) × (is_none (active (seg_of b.segments t)) ≡ false)
holder_some b None t e = absurd (let z : ◌≡◌ {A = ℕ} 0 1 = cc in omega arith)
holder_some b (Some row) t e = on (is_active (state_of b u)) refl e
  where
    u : ℕ
    u = segment_of b row.offset

    on : (s : Bool) → is_active (state_of b u) ≡ s → cond s (Some u) None ≡ Some t → (Some u ≡ Some t) × (is_none (active (seg_of b.segments t)) ≡ false)
    on true f e = let q : u ≡ t = cc in (e, subst (λ k. is_none (active (seg_of b.segments k)) ≡ false) q (not-true (is_none (active (seg_of b.segments u))) (sym (act_is (state_of b u)) ∙ f)))
    on false f e = absurd (let z : ◌≡◌ {A = ℕ} 0 1 = cc in omega arith)

pub holder_none : (b : Books) (o : Option OrderingRow) (t m : ℕ) → active_at b o ≡ None → mapped (number_in b.size) o ≡ Some t → active (seg_of b.segments t) ≡ Some m → ⊥
holder_none b None t m e f g = let z : ◌≡◌ {A = ℕ} 0 1 = cc in omega arith
holder_none b (Some row) t m e f g = on (is_active (state_of b u)) refl e
  where
    u : ℕ
    u = segment_of b row.offset

    on : (s : Bool) → is_active (state_of b u) ≡ s → cond s (Some u) None ≡ None → ⊥
    on true q e = let z : ◌≡◌ {A = ℕ} 0 1 = cc in omega arith
    on false q e =
        let v : u ≡ t = cc in
        let a : not (is_none (active (seg_of b.segments u))) ≡ false = sym (act_is (state_of b u)) ∙ q in
        let c : not (is_none (active (seg_of b.segments t))) ≡ false = subst (λ k. not (is_none (active (seg_of b.segments k))) ≡ false) v a in
        true≢false (sym (ap (λ (x : Option ℕ). not (is_none x)) g) ∙ c)

pub active_is : (s : Seg) (m : ℕ) → is_none (active s) ≡ false → lsn_of s ≡ Some m → active s ≡ Some m
active_is (Free f) m e h = absurd (true≢false e)
active_is (Active l k) m e h = h
active_is (Shut l k) m e h = absurd (true≢false e)

-- one LSN leads to one segment
pub same_active : (v : View) (r : Count) (h : Holders) → Inv v r h → (t u k : ℕ) → active (v.seg t) ≡ Some k → active (v.seg u) ≡ Some k → u ≡ t
same_active v r h i t u k p q =
    let a : v.ord k ≡ Some t = active_ord v r h i t k p in
    let c : v.ord k ≡ Some u = active_ord v r h i u k q in
    cc

-- ---- a Draining segment without a page
module _ {M : Type 0} (respond : M → Request → Answer × M) (set_up : Setting) (r : Count) where
  gone_by : (b : Books) → Whole b → (n : ℕ) (d : Draining) → state_of b n ≡ is.Draining d → d.replaced_pids ≡ d.max_pids → (q : ℕ) → here (row_of b.pages n q) ≡ false
  gone_by b w n d e f q =
      let t : Tallied (is.Draining d) (tally (is_in n) b.pages) (tally (left_in n) b.pages) = subst (λ s. Tallied s (tally (is_in n) b.pages) (tally (left_in n) b.pages)) e (w.counts n) in
      all_left n q b.pages (sym t.1 ∙ f ∙ t.0)

  pub settled_good : (w : World (M × Log)) (h : Holders) (n : ℕ) (d : Draining) → Good set_up w r h → state_of w.books n ≡ is.Draining d → d.replaced_pids ≡ d.max_pids → (o : Option ℕ) → holder w.books d.latest_replacement_lsn ≡ o → Went set_up r w h (settle (recorded respond) n d w o)
  settled_good w h n d g e full None eo =
      let b : Books = w.books in
      let v : View = view_of set_up b in
      let l : ℕ = nat_abs d.lsn in
      let m : ℕ = nat_abs d.latest_replacement_lsn in
      let ps : Plus d.lsn × Plus d.latest_replacement_lsn = subst Positive e (g.whole.signs n) in
      let sn : seg_of b.segments n ≡ Shut l m = ap seen e in
      let nf : seg_is_free (seg_of b.segments n) ≡ false = ap seg_is_free sn in
      let low : n < length b.segments = reach b.segments n nf in
      let new : m ≡ greatest (r.noted n) = sym (ap latest sn) ∙ g.inv.newest n nf in
      let eo2 : active_at b (find ordering_key int_cmp b.ordering (pos m)) ≡ None = ap (λ z. active_at b (find ordering_key int_cmp b.ordering z)) (sym ps.1) ∙ eo in
      let none : (t : ℕ) → v.ord (latest (v.seg n)) ≡ Some t → active (v.seg t) ≡ Some (latest (v.seg n)) → ⊥ = λ t x y. holder_none b (find ordering_key int_cmp b.ordering (pos m)) t m eo2 (ap v.ord (sym (ap latest sn)) ∙ x) (y ∙ ap Some (ap latest sn)) in
      let i : Inv (v_free v n l) r h = free_keeps v r h n l g.inv nf (ap active sn) (ap lsn_of sn) (gone_by b g.whole n d e full) none in
      let c : Books = emptied_at n d b in
      let cn : state_of c n ≡ is.Free (emptied d) = get_or-set_same b.segments n (is.Free (emptied d)) unused low in
      let un : unordered (state_of c n) b.ordering ≡ remove_row ordering_key int_cmp b.ordering (pos l) = ap (λ s. unordered s b.ordering) cn ∙ ap (remove_row ordering_key int_cmp b.ordering) ps.0 in
      let wc : Whole c = changed_whole b n (is.Free (emptied d)) g.whole low tt ps.0 in
      let sg : seg_of c.segments ≡ upd (seg_of b.segments) n (Free (Some l)) = seg_set b.segments n (is.Free (emptied d)) low in
      let vc : view_of set_up (put_free n c) ≡ v_free v n l = put_view set_up c n l wc un ∙ (λ j. view (b.tip / b.size) (sg j) (upd (on_of b.size b.free) n true) (upd (ord_of b.size b.ordering) l None) (upd (row_of b.pages) n (λ q. None)) (keep_of b.freeable) (above b.stabilized) set_up.waiting) in
      freed_went respond set_up r w h (world c w.host) n h refl
      (record { whole = put_whole c n wc (ap (λ s. seg_is_free (seen s)) cn); inv = subst (λ x. Inv x r h) (sym vc) i; asked = g.asked })
      (subst (λ (s : ℕ → Seg). Moved r.noted (seg_of b.segments) h s h) (sym sg) (moved_free r.noted (seg_of b.segments) h n (Some l) nf (λ t x. none t (ap v.ord (ap latest sn) ∙ active_ord v r h g.inv t m (x ∙ ap Some (sym new))) (x ∙ ap Some (sym new ∙ sym (ap latest sn))))))
      refl refl
  settled_good w h n d g e full (Some t) eo =
      let b : Books = w.books in
      let v : View = view_of set_up b in
      let l : ℕ = nat_abs d.lsn in
      let m : ℕ = nat_abs d.latest_replacement_lsn in
      let ps : Plus d.lsn × Plus d.latest_replacement_lsn = subst Positive e (g.whole.signs n) in
      let sn : seg_of b.segments n ≡ Shut l m = ap seen e in
      let nf : seg_is_free (seg_of b.segments n) ≡ false = ap seg_is_free sn in
      let low : n < length b.segments = reach b.segments n nf in
      let new : m ≡ greatest (r.noted n) = sym (ap latest sn) ∙ g.inv.newest n nf in
      let eo2 : active_at b (find ordering_key int_cmp b.ordering (pos m)) ≡ Some t = ap (λ z. active_at b (find ordering_key int_cmp b.ordering z)) (sym ps.1) ∙ eo in
      let hs : (v.ord m ≡ Some t) × (is_none (active (v.seg t)) ≡ false) = holder_some b (find ordering_key int_cmp b.ordering (pos m)) t eo2 in
      let at : active (v.seg t) ≡ Some m = active_is (v.seg t) m hs.1 (g.inv.ord_seg m t hs.0) in
      let i : Inv (v_hold v n l t) r (upd h n (Some t)) = hold_keeps v r h n l t g.inv nf (ap active sn) (ap lsn_of sn) (gone_by b g.whole n d e full) (at ∙ ap Some (sym (ap latest sn))) in
      let wc : Whole (emptied_at n d b) = changed_whole b n (is.Free (emptied d)) g.whole low tt ps.0 in
      let sg : seg_of (set b.segments n (is.Free (emptied d))) ≡ upd (seg_of b.segments) n (Free (Some l)) = seg_set b.segments n (is.Free (emptied d)) low in
      let kp : keep_of (insert_row freeable_key by_signed b.freeable (record { segment = t; lsn = d.lsn })) ≡ upd2 (keep_of b.freeable) t l true = ap (λ z. keep_of (insert_row freeable_key by_signed b.freeable (record { segment = t; lsn = z }))) ps.0 ∙ keep_insert b.freeable t l in
      let vc : view_of set_up (held_by t d.lsn (emptied_at n d b)) ≡ v_hold v n l t = λ j. view (b.tip / b.size) (sg j) (on_of b.size b.free) (ord_of b.size b.ordering) (row_of b.pages) (kp j) (above b.stabilized) set_up.waiting in
      record {
        now = upd h n (Some t);
        good = record {
          whole = record {
            some = wc.some;
            free_up = wc.free_up;
            ord_up = wc.ord_up;
            pages_up = wc.pages_up;
            keep_up = ascending_insert freeable_key signed_law b.freeable (record { segment = t; lsn = d.lsn }) wc.keep_up;
            room = wc.room;
            tip_even = wc.tip_even;
            free_even = wc.free_even;
            counts = wc.counts;
            signs = wc.signs;
            keep_signs = every_put (λ (row : FreeableRow). non_neg row.lsn) (towards freeable_key by_signed (t, d.lsn)) (record { segment = t; lsn = d.lsn }) b.freeable wc.keep_signs (ap non_neg ps.0);
            stored_sign = wc.stored_sign;
          };
          inv = subst (λ x. Inv x r (upd h n (Some t))) (sym vc) i;
          asked = g.asked;
        };
        moved = subst (λ (s : ℕ → Seg). Moved r.noted (seg_of b.segments) h s (upd h n (Some t))) (sym sg) (moved_hold r.noted (seg_of b.segments) h n t (Some l) nf (λ u x. same_active v r h g.inv t u m at (x ∙ ap Some (sym new))));
        level = refl;
        size = refl;
      }

  pub free_by_good : (w : World (M × Log)) (h : Holders) (n : ℕ) (s : State) → Good set_up w r h → state_of w.books n ≡ s → Went set_up r w h (free_by (recorded respond) n s w)
  free_by_good w h n (is.Free f) g e = stayed set_up r w h g
  free_by_good w h n (is.Active a) g e = stayed set_up r w h g
  free_by_good w h n (is.Inactive i) g e = stayed set_up r w h g
  free_by_good w h n (is.Draining d) g e = on (eqb d.replaced_pids d.max_pids) refl
    where
      on : (t : Bool) → eqb d.replaced_pids d.max_pids ≡ t → Went set_up r w h (cond t (settle (recorded respond) n d w (holder w.books d.latest_replacement_lsn)) w)
      on true q = settled_good w h n d g e (eqb-true d.replaced_pids d.max_pids q) (holder w.books d.latest_replacement_lsn) refl
      on false q = stayed set_up r w h g

-- ---- draining changes nothing that is seen
module _ {X K : Type 0} (key : X → K) (rk : K → K → Ordering) (f : X → X) (same : (x : X) → key (f x) ≡ key x) where
  below_map : (k : K) (xs : List X) → every (λ y. is_lt (rk k (key y))) (map f xs) ≡ every (λ y. is_lt (rk k (key y))) xs
  below_map k [] = refl
  below_map k (x ∷ xs) = λ i. is_lt (rk k (same x i)) && below_map k xs i

  pub ascending_map : (xs : List X) → ascending key rk (map f xs) ≡ ascending key rk xs
  ascending_map [] = refl
  ascending_map (x ∷ xs) = (λ i. every (λ y. is_lt (rk (same x i) (key y))) (map f xs) && ascending_map xs i) ∙ ap (λ t. t && ascending key rk xs) (below_map (key x) xs)

pub upd_id : {A : Type 0} (s : ℕ → A) (n : ℕ) (z : A) → s n ≡ z → upd s n z ≡ s
upd_id s n z e = fun_ext (λ m. on m (cases_eq m n))
  where
    on : (m : ℕ) → (m ≡ n) ⊎ (m ≡ n → ⊥) → upd s n z m ≡ s m
    on m (inl q) = rw (eq-eqb m n q) (sym e ∙ ap s (sym q))
    on m (inr q) = rw (ne_eqb m n q)

module _ (n : ℕ) (pages : List PageRow) where
  queue_keys : (x : PageRow) (t : Bool) → page_key (cond t (queued_row true x) x) ≡ page_key x
  queue_keys x true = refl
  queue_keys x false = refl

  pub queue_up : ascending page_key by_page pages ≡ true → ascending page_key by_page (all_queued n pages) ≡ true
  queue_up up = ascending_map page_key by_page (λ row. cond (is_in n row && not row.left) (queued_row true row) row) (λ x. queue_keys x (is_in n x && not x.left)) pages ∙ up

module _ {M : Type 0} (set_up : Setting) (r : Count) where
  pub start_draining_good : (w : World (M × Log)) (h : Holders) (n : ℕ) (i : Inactive) → Good set_up w r h → state_of w.books n ≡ is.Inactive i → Went set_up r w h (world (start_draining n i w.books) w.host)
  start_draining_good w h n i g e =
      let b : Books = w.books in
      let ps : Plus i.lsn × Plus i.latest_replacement_lsn = subst Positive e (g.whole.signs n) in
      let ts : Tallied (is.Inactive i) (tally (is_in n) b.pages) (tally (left_in n) b.pages) = subst (λ s. Tallied s (tally (is_in n) b.pages) (tally (left_in n) b.pages)) e (g.whole.counts n) in
      let low : n < length b.segments = reach b.segments n (ap (λ s. seg_is_free (seen s)) e) in
      let sg : seg_of (set b.segments n (is.Draining (drained i))) ≡ seg_of b.segments = seg_set b.segments n (is.Draining (drained i)) low ∙ upd_id (seg_of b.segments) n (seen (is.Draining (drained i))) (ap seen e) in
      let vc : view_of set_up (start_draining n i b) ≡ view_of set_up b = λ j. view (b.tip / b.size) (sg j) (on_of b.size b.free) (ord_of b.size b.ordering) (row_queue b.pages n j) (keep_of b.freeable) (above b.stabilized) set_up.waiting in
      record {
        now = h;
        good = record {
          whole = record {
            some = g.whole.some;
            free_up = g.whole.free_up;
            ord_up = g.whole.ord_up;
            pages_up = queue_up n b.pages g.whole.pages_up;
            keep_up = g.whole.keep_up;
            room = omega (arith, length-set b.segments n (is.Draining (drained i)), g.whole.room);
            tip_even = g.whole.tip_even;
            free_even = g.whole.free_even;
            counts = counts_set b.segments b.pages (all_queued n b.pages) n (is.Draining (drained i)) low g.whole.counts (ts.0 ∙ sym (queue_in n n b.pages), ts.1 ∙ sym (queue_left n n b.pages)) (λ m ne. (queue_in n m b.pages, queue_left n m b.pages));
            signs = signs_set b.segments n (is.Draining (drained i)) low g.whole.signs ps;
            keep_signs = g.whole.keep_signs;
            stored_sign = g.whole.stored_sign;
          };
          inv = subst (λ x. Inv x r h) (sym vc) g.inv;
          asked = g.asked;
        };
        moved = subst (λ (s : ℕ → Seg). Moved r.noted (seg_of b.segments) h s h) (sym sg) (moved_refl r.noted (seg_of b.segments) h);
        level = refl;
        size = refl;
      }

  drain_by_good : (w : World (M × Log)) (h : Holders) (n : ℕ) (s : State) → Good set_up w r h → state_of w.books n ≡ s → Went set_up r w h (world (drain_by n s w.books) w.host)
  drain_by_good w h n (is.Free f) g e = stayed set_up r w h g
  drain_by_good w h n (is.Active a) g e = stayed set_up r w h g
  drain_by_good w h n (is.Inactive i) g e = on (half_empty w.books.size i)
    where
      on : (t : Bool) → Went set_up r w h (world (cond t (start_draining n i w.books) w.books) w.host)
      on true = start_draining_good w h n i g e
      on false = stayed set_up r w h g
  drain_by_good w h n (is.Draining d) g e = stayed set_up r w h g

  pub drain_if_good : (w : World (M × Log)) (h : Holders) (n : ℕ) → Good set_up w r h → Went set_up r w h (world (drain_if_empty n w.books) w.host)
  drain_if_good w h n g = drain_by_good w h n (state_of w.books n) g refl

module _ {M : Type 0} (respond : M → Request → Answer × M) (set_up : Setting) (r : Count) where
  pub cleaned_good : (w : World (M × Log)) (h : Holders) (n : ℕ) → Good set_up w r h → Went set_up r w h (cleaned (recorded respond) n w)
  unfolding cleaned
  cleaned_good w h n g =
      let p : Went set_up r w h (world (drain_if_empty n w.books) w.host) = drain_if_good set_up r w h n g in
      then_went set_up r w h _ _ p (free_by_good respond set_up r (world (drain_if_empty n w.books) w.host) p.now n _ p.good refl)
