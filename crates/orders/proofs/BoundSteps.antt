-- Every step keeps the bounds: what a call checks is what its steps need.
use Rattle.std.proofs.Common.{◌≡◌, ℕ, suc, ◌+◌, ◌-◌, ◌*◌, ◌/◌, ◌^◌, ◌<◌, ◌≤◌, Bool, true, false, cond, not, ◌&&◌, ltb, leb, List, [], ◌∷◌, ◌++◌, length, set, ℤ, is_some, Some, None, Option, sym, refl, ap, ◌∙◌, subst, arith}
use lib.Signed.{lt_z}
use Rattle.std.specs.Int.{int_max}
use Rattle.std.specs.List.{ContainsAt as Has}
use Rattle.std.proofs.lemmas.Nat.{div_below}
use Rattle.std.proofs.lemmas.List.{length-set, length-append}
use Rattle.std.proofs.lemmas.Bool.{and_parts, and_from, ltb-true, leb-true, ltb-false, leb-false, eq-eqb, lt-ltb, le-leb, not_from_false}
use Rattle.table.specs.Order.{signed_lawful}
use Rattle.table.specs.Rows.{every, find, insert_row, remove_row, own_key}
use Rattle.table.proofs.Filters.{every_kept, has_from_kept}
use Rattle.table.proofs.Laws.{find_has, find_key, has_find, length_insert_new, length_insert_old}
use Rattle.table.proofs.Orders.{every_has}
use Rattle.segment.specs.Bases.{base_of}
use Rattle.segment.specs.Pointers.{blob_of}
use Rattle.segment.specs.Changes.{drained, emptied, opened}
use Rattle.segment.specs.Rows.{ordering_key, page_key, blob_key, freeable_key, by_page, by_signed}
use Rattle.segment.specs.Signs.{same_z}
use Rattle.segment.specs.Updates.{taken, leaves}
use Rattle.segment.specs.declared.cache_info.CacheInfo.{CacheInfo}
use Rattle.segment.specs.declared.rows.BlobRow.{BlobRow}
use Rattle.segment.specs.declared.rows.FreeableRow.{FreeableRow}
use Rattle.segment.specs.declared.rows.OrderingRow.{OrderingRow}
use Rattle.segment.specs.declared.rows.PageRow.{PageRow}
use Rattle.segment.specs.declared.state.Active.{Active}
use Rattle.segment.specs.declared.state.Draining.{Draining}
use Rattle.segment.specs.declared.state.Inactive.{Inactive}
use Rattle.segment.specs.declared.state.State.{State}
use Rattle.segment.specs.declared.state.State.TheVariants as is
use Rattle.rules.specs.Books.{Books, with_segments, with_free, with_ordering, with_pages, with_blobs, with_freeable, with_listed, state_of, segment_of, offset_of}
use Rattle.rules.specs.Pages.{page_row, is_left, is_lying, is_in, rows_of, queue_of, all_queued, queued_row, left_row, new_row, written, marked}
use Rattle.rules.specs.Freeing.{put_free}
use Rattle.rules.specs.Cleaning.{start_draining, is_active, active_at, holder, emptied_at, held_by}
use Rattle.rules.specs.Links.{out_of_range, page_rows_full, into_active, into_state, info_segment, link_refusal, link_of, linked_state, linked_at}
use Rattle.rules.specs.Replacing.{same_blob, blob_row, with_blob, given_up, blob_rows_full, blobs_given_up, from_state, taken_at}
use Rattle.rules.specs.Stabilizing.{blobs_off, number_at, number_of_lsn, closed_at}
use Rattle.rules.specs.HandingOut.{entered, rest_of, risen, handed_out}
use Rattle.orders.specs.Ordered.{Ordered}
use Rattle.orders.specs.Within.{Within, is_lsn, is_bounded, is_place, is_end}
use Rattle.orders.proofs.Alone.{page_laws}
use Rattle.orders.proofs.Every.{every_insert, every_remove, every_push, every_mapped, kept_most, length_mapped, place_of, end_of, place_parts, end_parts, suc_times}
use Rattle.orders.proofs.Replaces.{or_else_none, passed, accepted_active, active_reached, reached}
use Rattle.orders.proofs.Bounds.{size_positive, grown_within, state_within, pages_within, blobs_within, free_within, listed_within, ordering_within, freeable_within, tip_within, state_bounded, freed_within}
use Rattle.std.specs.Ordering.{nat_cmp, int_cmp}

-- ---- cleaning
queued_segment : (p : ℕ → Bool) (n : ℕ) (row : PageRow) → p row.segment ≡ true → p (cond (is_in n row && not row.left) (queued_row true row) row).segment ≡ true
queued_segment p n row h = on (is_in n row && not row.left)
  where
    on : (t : Bool) → p (cond t (queued_row true row) row).segment ≡ true
    on true = h
    on false = h

pub drained_within : (n : ℕ) (i : Inactive) (b : Books) → state_of b n ≡ is.Inactive i → Within b → Within (start_draining n i b)
drained_within n i b e w =
    let l = reached b.segments n (is.Inactive i) e (λ q. let z : ◌≡◌ {A = ℕ} 0 1 = cc in omega arith) in
    let s = state_bounded b n (is.Inactive i) e w in
    let s1 = and_parts (is_lsn i.lsn) _ s in
    let s2 = and_parts (is_lsn i.latest_replacement_lsn) _ s1.1 in
    let room = leb-true _ _ w.page_room in
    let same = length_mapped (λ row. cond (is_in n row && not row.left) (queued_row true row) row) b.pages in
    state_within n (is.Draining (drained i)) (with_pages (all_queued n b.pages) (with_listed (insert_row own_key nat_cmp b.listed (offset_of b n)) b)) (and_from _ _ s1.0 s2.0)
    (pages_within (all_queued n b.pages) (with_listed (insert_row own_key nat_cmp b.listed (offset_of b n)) b) (every_mapped (λ row. ltb row.segment (length b.segments)) _ b.pages (λ row. queued_segment (λ m. ltb m (length b.segments)) n row) w.pages) (omega arith)
    (listed_within _ b (every_insert (is_place b.size (length b.segments)) own_key nat_cmp b.listed (offset_of b n) (place_of b.size (size_positive b w) n _ l) w.listed) w))

pub emptied_within : (n : ℕ) (d : Draining) (b : Books) → state_of b n ≡ is.Draining d → Within b → Within (emptied_at n d b)
emptied_within n d b e w = state_within n (is.Free (emptied d)) b (and_parts (is_lsn d.lsn) _ (state_bounded b n (is.Draining d) e w)).0 w

ordering_place : (b : Books) (lsn : ℤ) (row : OrderingRow) → find ordering_key int_cmp b.ordering lsn ≡ Some row → Within b → segment_of b row.offset < length b.segments
ordering_place b lsn row e w = (place_parts b.size (length b.segments) row.offset (and_parts (is_lsn row.lsn) _ (every_has _ b.ordering row w.ordering (find_has ordering_key signed_lawful b.ordering lsn row e))).1).1

holder_reached : (b : Books) (lsn : ℤ) (t : ℕ) → holder b lsn ≡ Some t → Within b → t < length b.segments
holder_reached b lsn t h w = on (find ordering_key int_cmp b.ordering lsn) refl h
  where
    on : (o : Option OrderingRow) → find ordering_key int_cmp b.ordering lsn ≡ o → active_at b o ≡ Some t → t < length b.segments
    on None e f = let z : ◌≡◌ {A = ℕ} 0 1 = cc in absurd (omega arith)
    on (Some row) e f = is_it (is_active (state_of b (segment_of b row.offset))) f
      where
        is_it : (a : Bool) → cond a (Some (segment_of b row.offset)) None ≡ Some t → t < length b.segments
        is_it true g = let q : segment_of b row.offset ≡ t = cc in subst (λ n. n < length b.segments) q (ordering_place b lsn row e w)
        is_it false g = let z : ◌≡◌ {A = ℕ} 0 1 = cc in absurd (omega arith)

pub held_within : (n : ℕ) (d : Draining) (t : ℕ) (b : Books) → state_of b n ≡ is.Draining d → holder b d.latest_replacement_lsn ≡ Some t → Within b → Within (held_by t d.lsn (emptied_at n d b))
held_within n d t b e h w =
    let v = emptied_within n d b e w in
    let l = holder_reached b d.latest_replacement_lsn t h w in
    let k = length-set b.segments n (is.Free (emptied d)) in
    freeable_within _ (emptied_at n d b) (every_insert _ freeable_key by_signed b.freeable _ (and_from _ _ (lt-ltb t _ (omega arith)) (and_parts (is_lsn d.lsn) _ (state_bounded b n (is.Draining d) e w)).0) v.freeable) v

-- ---- releasing
pub number_reached : (b : Books) (lsn : ℤ) → 0 < length b.segments → Within b → number_of_lsn b lsn < length b.segments
number_reached b lsn l w = on (find ordering_key int_cmp b.ordering lsn) refl
  where
    on : (o : Option OrderingRow) → find ordering_key int_cmp b.ordering lsn ≡ o → number_at b o < length b.segments
    on None e = l
    on (Some row) e = ordering_place b lsn row e w

pub released_within : (row : FreeableRow) (b : Books) → Has b.freeable row → Within b → Within (put_free (number_of_lsn b row.lsn) (with_freeable (remove_row freeable_key by_signed b.freeable (row.segment, row.lsn)) b))
released_within row b h w =
    let r = ltb-true row.segment (length b.segments) (and_parts _ (is_lsn row.lsn) (every_has (λ row. ltb row.segment (length b.segments) && is_lsn row.lsn) b.freeable row w.freeable h)).0 in
    freed_within (number_of_lsn b row.lsn) (with_freeable (remove_row freeable_key by_signed b.freeable (row.segment, row.lsn)) b) (number_reached b row.lsn (omega arith) w)
    (freeable_within _ b (every_remove _ freeable_key by_signed b.freeable _ w.freeable) w)

pub removed_within : (n : ℕ) (b : Books) → Within b → Within (with_blobs (blobs_off n b.blobs) b)
removed_within n b w =
    let room = leb-true _ _ w.blob_room in
    blobs_within (blobs_off n b.blobs) b (every_kept _ _ b.blobs w.blobs) (≤-through (kept_most _ b.blobs) room) w
  where
    ≤-through : {x y z : ℕ} → x ≤ y → y ≤ z → x ≤ z
    ≤-through p q = omega arith

pub closed_within : (n : ℕ) (a : Active) (b : Books) → state_of b n ≡ is.Active a → Within b → Within (closed_at n a b)
closed_within n a b e w =
    let s = state_bounded b n (is.Active a) e w in
    let s1 = and_parts (is_lsn a.lsn) _ s in
    let s2 = and_parts (is_lsn a.latest_replacement_lsn) _ s1.1 in
    let top = leb-true _ _ (and_parts (leb a.deferred_replaced_rss a.rss) _ s2.1).1 in
    state_within n _ b (and_from _ _ s1.0 (and_from _ _ s2.0 (le-leb (a.rss - a.deferred_replaced_rss) (2 ^ 40) (omega arith)))) w

-- ---- linking
pub linked_within : (n p size : ℕ) (a : Active) (b : Books) → state_of b n ≡ is.Active a → a.rss + size ≤ 2 ^ 40 → page_rows_full b n p ≡ false → Within b → Within (linked_at n p size b)
linked_within n p size a b e top full w =
    let l = active_reached b n a e in
    let s = state_bounded b n (is.Active a) e w in
    let s1 = and_parts (is_lsn a.lsn) _ s in
    let s2 = and_parts (is_lsn a.latest_replacement_lsn) _ s1.1 in
    let low = leb-true _ _ (and_parts (leb a.deferred_replaced_rss a.rss) _ s2.1).0 in
    state_within n (linked_state size (state_of b n)) (with_pages (written n p b.pages (page_row b.pages n p)) b)
    (subst (λ x. is_bounded (linked_state size x) ≡ true) (sym e) (and_from _ _ s1.0 (and_from _ _ s2.0 (and_from _ _ (le-leb a.deferred_replaced_rss (a.rss + size) (omega arith)) (le-leb (a.rss + size) (2 ^ 40) top)))))
    (on l (page_row b.pages n p) refl)
  where
    on : n < length b.segments → (o : Option PageRow) → page_row b.pages n p ≡ o → Within (with_pages (written n p b.pages o) b)
    on l None f =
        let more = length_insert_new page_key page_laws b.pages (new_row n p) f in
        let g : leb 2048 (length b.pages) ≡ false = subst (λ o. (not (is_some o) && leb 2048 (length b.pages)) ≡ false) f full in
        let room = leb-false 2048 (length b.pages) g in
        pages_within _ b (every_insert _ page_key by_page b.pages (new_row n p) (lt-ltb n _ l) w.pages) (omega arith) w
    on l (Some row) f = w

pub link_within : (p : ℕ) (info : CacheInfo) (b : Books) → link_refusal b p info ≡ None → Within b → Within (link_of p info b)
link_within p info b e w =
    let n : ℕ = info_segment b info in
    let base : ℤ = base_of b.size info.lsn in
    let into = (or_else_none _ (into_state b n p info.log_size base (state_of b n)) e).1 in
    let x = accepted_active b n p info.log_size base (state_of b n) into in
    let checks : into_active b n p info.log_size base x.0 ≡ None = subst (λ s. into_state b n p info.log_size base s ≡ None) x.1 into in
    let c1 = passed (not (same_z x.0.lsn base)) _ _ checks in
    let c2 = passed (is_left (page_row b.pages n p)) _ _ c1.1 in
    let c3 = passed (ltb (2 ^ 40) (x.0.rss + info.log_size)) _ _ c2.1 in
    let c4 = passed (page_rows_full b n p) _ _ c3.1 in
    linked_within n p info.log_size x.0 b x.1 (ltb-false _ _ c3.0) c4.0 w

-- ---- replacing
with_blob_within : (p : BlobRow → Bool) (n : ℕ) (kept blob : Option ℤ) (rows : List BlobRow) → ((name : ℤ) → p (blob_row n name) ≡ true) → every p rows ≡ true → every p (with_blob n kept blob rows) ≡ true
with_blob_within p n kept None rows r h = h
with_blob_within p n kept (Some name) rows r h = on (same_blob kept name)
  where
    on : (t : Bool) → every p (cond t rows (insert_row blob_key by_signed rows (blob_row n name))) ≡ true
    on true = h
    on false = every_insert p blob_key by_signed rows (blob_row n name) (r name) h

pub given_within : (p : BlobRow → Bool) (n : ℕ) (kept : Option ℤ) (olds : List CacheInfo) (rows : List BlobRow) → ((name : ℤ) → p (blob_row n name) ≡ true) → every p rows ≡ true → every p (given_up n kept olds rows) ≡ true
given_within p n kept [] rows r h = h
given_within p n kept (old ∷ olds) rows r h = given_within p n kept olds (with_blob n kept (blob_of old.pointer) rows) r (with_blob_within p n kept (blob_of old.pointer) rows r h)

pub gave_within : (olds : List CacheInfo) (new : CacheInfo) (a : Active) (b : Books) → state_of b (info_segment b new) ≡ is.Active a → blob_rows_full b (info_segment b new) (blob_of new.pointer) olds ≡ false → Within b → Within (blobs_given_up olds new b)
gave_within olds new a b e f w =
    let l = active_reached b (info_segment b new) a e in
    blobs_within _ b (given_within (λ row. ltb row.segment (length b.segments)) (info_segment b new) (blob_of new.pointer) olds b.blobs (λ name. lt-ltb _ _ l) w.blobs) (ltb-false 256 _ f) w

later_lsn : (x y : ℤ) → is_lsn x ≡ true → is_lsn y ≡ true → is_lsn (int_max x y) ≡ true
later_lsn x y h g = on (lt_z y x)
  where
    on : (t : Bool) → is_lsn (cond t x y) ≡ true
    on true = h
    on false = g

taken_bounded : (b : Books) (n p : ℕ) (base : ℤ) (size : ℕ) (s : State) → is_lsn base ≡ true → from_state b n p base size s ≡ None → is_bounded s ≡ true → is_bounded (taken base size s) ≡ true
taken_bounded b n p base size (is.Free f) r e h = h
taken_bounded b n p base size (is.Active a) r e h =
    let s1 = and_parts (is_lsn a.lsn) _ h in
    let s2 = and_parts (is_lsn a.latest_replacement_lsn) _ s1.1 in
    let s3 = and_parts (leb a.deferred_replaced_rss a.rss) _ s2.1 in
    let low = leb-true _ _ s3.0 in
    let c1 = passed (lt_z base a.lsn) _ _ e in
    let c2 = passed (not (is_lying (page_row b.pages n p))) _ _ c1.1 in
    let c3 = passed (ltb (a.rss - a.deferred_replaced_rss) size) _ _ c2.1 in
    let room = ltb-false _ _ c3.0 in
    and_from _ _ s1.0 (and_from _ _ (later_lsn a.latest_replacement_lsn base s2.0 r) (and_from _ _ (le-leb (a.deferred_replaced_rss + size) a.rss (omega arith)) s3.1))
taken_bounded b n p base size (is.Inactive i) r e h =
    let s1 = and_parts (is_lsn i.lsn) _ h in
    let s2 = and_parts (is_lsn i.latest_replacement_lsn) _ s1.1 in
    let top = leb-true _ _ s2.1 in
    and_from _ _ s1.0 (and_from _ _ (later_lsn i.latest_replacement_lsn base s2.0 r) (le-leb (i.rss - size) (2 ^ 40) (omega arith)))
taken_bounded b n p base size (is.Draining d) r e h =
    let s1 = and_parts (is_lsn d.lsn) _ h in
    and_from _ _ s1.0 (later_lsn d.latest_replacement_lsn base s1.1 r)

-- a row that is there is put in again, with other marks
again_within : (row new : PageRow) (b : Books) → page_key new ≡ page_key row → find page_key by_page b.pages (page_key row) ≡ Some row → Within b → Within (with_pages (insert_row page_key by_page b.pages new) b)
again_within row new b k f w =
    let h = every_has _ b.pages row w.pages (find_has page_key page_laws b.pages (page_key row) row f) in
    let s : new.segment ≡ row.segment = ap (λ (q : ℕ × ℕ). q.0) k in
    let same = length_insert_old page_key page_laws b.pages new row (ap (find page_key by_page b.pages) k ∙ f) in
    let room = leb-true _ _ w.page_room in
    pages_within _ b (every_insert (λ row. ltb row.segment (length b.segments)) page_key by_page b.pages new (ap (λ m. ltb m (length b.segments)) s ∙ h) w.pages) (omega arith) w

marked_within : (n p : ℕ) (b : Books) → Within b → Within (with_pages (marked b.pages (page_row b.pages n p)) b)
marked_within n p b w = on (page_row b.pages n p) refl
  where
    on : (o : Option PageRow) → page_row b.pages n p ≡ o → Within (with_pages (marked b.pages o) b)
    on None e = w
    on (Some row) e = again_within row (left_row row) b refl (ap (find page_key by_page b.pages) (find_key page_key page_laws b.pages (n, p) row e) ∙ e) w

pub taken_within : (n p : ℕ) (base : ℤ) (size : ℕ) (b : Books) → out_of_range base ≡ false → from_state b n p base size (state_of b n) ≡ None → Within b → Within (taken_at n p base size b)
taken_within n p base size b r e w =
    state_within n (taken base size (state_of b n)) (with_pages (cond (leaves base (state_of b n)) (marked b.pages (page_row b.pages n p)) b.pages) b)
    (taken_bounded b n p base size (state_of b n) (not_from_false _ r) e (state_bounded b n (state_of b n) refl w)) (on (leaves base (state_of b n)))
  where
    on : (t : Bool) → Within (with_pages (cond t (marked b.pages (page_row b.pages n p)) b.pages) b)
    on true = marked_within n p b w
    on false = w

-- ---- next and pop
entered_within : (n : ℕ) (lsn : ℤ) (b : Books) → is_lsn lsn ≡ true → n ≤ length b.segments → n < 256 → Within b → Within (with_segments (entered n (is.Active (opened lsn)) b.segments) b) × (n < length (entered n (is.Active (opened lsn)) b.segments))
entered_within n lsn b r l m w = on (ltb n (length b.segments)) refl
  where
    s : is_bounded (is.Active (opened lsn)) ≡ true
    s = and_from _ _ r (and_from _ _ refl refl)

    on : (t : Bool) → ltb n (length b.segments) ≡ t → Within (with_segments (cond t (set b.segments n (is.Active (opened lsn))) (b.segments ++ is.Active (opened lsn) ∷ [])) b) × (n < length (cond t (set b.segments n (is.Active (opened lsn))) (b.segments ++ is.Active (opened lsn) ∷ [])))
    on true e =
        let k = ltb-true n (length b.segments) e in
        let same = length-set b.segments n (is.Active (opened lsn)) in
        (state_within n (is.Active (opened lsn)) b s w, omega arith)
    on false e =
        let k = ltb-false n (length b.segments) e in
        let one : length (is.Active (opened lsn) ∷ []) ≡ 1 = refl in
        let more = length-append b.segments (is.Active (opened lsn) ∷ []) in
        (grown_within (b.segments ++ is.Active (opened lsn) ∷ []) b (omega arith) (omega arith) (every_push is_bounded b.segments (is.Active (opened lsn)) s w.states) w, omega arith)

ordered_in : (lsn : ℤ) (offset : ℕ) (b : Books) → is_lsn lsn ≡ true → is_place b.size (length b.segments) offset ≡ true → Within b → Within (with_ordering (insert_row ordering_key int_cmp b.ordering (record { lsn = lsn; offset = offset })) b)
ordered_in lsn offset b r h w = ordering_within _ b (every_insert (λ row. is_lsn row.lsn && is_place b.size (length b.segments) row.offset) ordering_key int_cmp b.ordering (record { lsn = lsn; offset = offset }) (and_from _ _ r h) w.ordering) w

rest_every : (p : ℕ → Bool) (rows : List ℕ) → every p rows ≡ true → every p (rest_of rows) ≡ true
rest_every p [] h = refl
rest_every p (x ∷ xs) h = (and_parts (p x) (every p xs) h).1

handed_within : (lsn : ℤ) (offset : ℕ) (b : Books) → is_lsn lsn ≡ true → offset / b.size * b.size ≡ offset → offset / b.size ≤ length b.segments → offset / b.size < 256 → ((reached : ℕ) → length b.segments ≤ reached → offset / b.size < reached → is_end b.size reached (risen b.free b.tip b.size) ≡ true) → Within b → Within (handed_out lsn offset b)
handed_within lsn offset b r whole l m end w =
    let v = entered_within (offset / b.size) lsn b r l m w in
    let b1 : Books = with_segments (entered (offset / b.size) (is.Active (opened lsn)) b.segments) b in
    let place : is_place b.size (length b1.segments) offset ≡ true = and_from _ _ (eq-eqb _ _ whole) (lt-ltb _ _ v.1) in
    let v2 = ordered_in lsn offset b1 r place v.0 in
    let b2 : Books = with_ordering (insert_row ordering_key int_cmp b.ordering (record { lsn = lsn; offset = offset })) b1 in
    let v3 = free_within (rest_of b.free) b2 (rest_every (is_place b.size (length b1.segments)) b.free v.0.free) v2 in
    tip_within (risen b.free b.tip b.size) (with_free (rest_of b.free) b2) (end (length b1.segments) (longer (ltb (offset / b.size) (length b.segments))) v.1) v3
  where
    longer : (t : Bool) → length b.segments ≤ length (cond t (set b.segments (offset / b.size) (is.Active (opened lsn))) (b.segments ++ is.Active (opened lsn) ∷ []))
    longer true = let e = length-set b.segments (offset / b.size) (is.Active (opened lsn)) in omega arith
    longer false = let e = length-append b.segments (is.Active (opened lsn) ∷ []) in omega arith

pub least_within : (lsn : ℤ) (offset : ℕ) (rest : List ℕ) (b : Books) → out_of_range lsn ≡ false → b.free ≡ offset ∷ rest → Within b → Within (handed_out lsn offset b)
least_within lsn offset rest b r e w =
    let q = place_parts b.size (length b.segments) offset (and_parts (is_place b.size (length b.segments) offset) _ (subst (λ l. every (is_place b.size (length b.segments)) l ≡ true) e w.free)).0 in
    let l = q.1 in
    let t = end_parts b.size (length b.segments) b.tip w.tip in
    let u = t.1 in
    let top = leb-true _ _ w.reached in
    handed_within lsn offset b (not_from_false _ r) q.0 (omega arith) (omega arith)
    (λ reached more h. subst (λ rows. is_end b.size reached (risen rows b.tip b.size) ≡ true) (sym e) (and_from _ _ (eq-eqb _ _ t.0) (le-leb (b.tip / b.size) reached (omega arith)))) w

pub tip_taken_within : (lsn : ℤ) (b : Books) → out_of_range lsn ≡ false → b.free ≡ [] → leb (256 * b.size) b.tip ≡ false → Within b → Within (handed_out lsn b.tip b)
tip_taken_within lsn b r e full w =
    let t = end_parts b.size (length b.segments) b.tip w.tip in
    let u = t.1 in
    let l = size_positive b w in
    let k = div_below b.tip b.size 256 l (leb-false _ _ full) in
    let next : suc (b.tip / b.size) * b.size ≡ b.tip + b.size = suc_times (b.tip / b.size) b.size ∙ ap (λ m. m + b.size) t.0 in
    handed_within lsn b.tip b (not_from_false _ r) t.0 u k
    (λ reached more h. subst (λ rows. is_end b.size reached (risen rows b.tip b.size) ≡ true) (sym e) (subst (λ o. is_end b.size reached o ≡ true) next (end_of b.size l (suc (b.tip / b.size)) reached (omega arith)))) w

pub popped_within : (n : ℕ) (row : PageRow) (rows : List PageRow) (b : Books) → queue_of n b.pages ≡ row ∷ rows → Ordered b → Within b → Within (with_pages (insert_row page_key by_page b.pages (queued_row false row)) b)
popped_within n row rows b e o w =
    let h : Has (queue_of n b.pages) row = subst (λ l. Has l row) (sym e) (0, omega arith, λ d. refl) in
    let g : Has b.pages row = (has_from_kept _ b.pages row (has_from_kept _ (rows_of n b.pages) row h).0).0 in
    again_within row (queued_row false row) b refl (has_find page_key page_laws b.pages row o.pages g) w
