-- The books of a start are within their bounds, and so the steps keep them there in every run.
use Rattle.std.proofs.Common.{◌≡◌, ℕ, suc, ◌+◌, ◌*◌, ◌^◌, ◌<◌, ◌≤◌, Bool, true, false, not, ◌&&◌, eqb, ltb, leb, List, [], ◌∷◌, length, ℤ, pos, is_some, Some, None, Ok, Err, Option, Result, unwrap_or, sym, refl, subst, true≢false, arith}
use Rattle.std.proofs.lemmas.List.{length-set, length-replicate}
use Rattle.std.proofs.lemmas.Bool.{and_parts, and_from, leb-true, ltb-false, le-leb, not-false, not_from_false, or_parts}
use Rattle.table.specs.Rows.{every, find, insert_row, own_key}
use Rattle.segment.specs.Bases.{base_of}
use Rattle.segment.specs.Changes.{opened, emptied}
use Rattle.segment.specs.Rows.{ordering_key}
use Rattle.segment.specs.declared.rows.OrderingRow.{OrderingRow}
use Rattle.segment.specs.declared.snapshot.SnapshotRow.{SnapshotRow}
use Rattle.segment.specs.declared.state.Active.{Active}
use Rattle.segment.specs.declared.state.Draining.{Draining}
use Rattle.segment.specs.declared.state.State.{State}
use Rattle.segment.specs.declared.state.State.TheVariants as is
use Rattle.rules.specs.declared.refusal.Refusal.{Refusal}
use Rattle.rules.specs.Books.{Books, with_ordering, unused, state_of}
use Rattle.rules.specs.Freeing.{put_free}
use Rattle.rules.specs.Cleaning.{emptied_at}
use Rattle.rules.specs.Links.{out_of_range, too_large, page_rows_full, linked_at}
use Rattle.rules.specs.Starting.{Plan, stable_out_of_range, lsns_out_of_range, is_segment_size, is_header, segment_count, plan_refusal, blank, with_active, opened_at, has_base, bytes_in, row_size, row_segment, opened_for, row_refusal, order_state, order_then, order_all}
use Rattle.orders.specs.Within.{Within, KeptWithin, is_lsn, is_bounded, is_place}
use Rattle.orders.proofs.Steps.{Steps, Beginning}
use Rattle.orders.proofs.Every.{every_insert, every_remove, every_replicate, end_of, place_of}
use Rattle.orders.proofs.Replaces.{passed, base_in_range, reached}
use Rattle.orders.proofs.Bounds.{size_positive, state_within, listed_within, ordering_within, faults_within, level_within, state_bounded, freed_within, lowered_within}
use Rattle.orders.proofs.BoundSteps.{drained_within, emptied_within, held_within, released_within, removed_within, closed_within, linked_within, link_within, gave_within, taken_within, least_within, tip_taken_within, popped_within}
use Rattle.orders.proofs.Levels.{level_above}
use Rattle.orders.proofs.Orders.{ordered_steps, ordered_beginning}
use Rattle.std.specs.Ordering.{nat_cmp, int_cmp}

opened_bounded : (lsn : ℤ) → is_lsn lsn ≡ true → is_bounded (is.Active (opened lsn)) ≡ true
opened_bounded lsn h = and_from _ _ h (and_from _ _ refl refl)

blank_within : (s : Plan) (count : ℕ) → is_segment_size s.size ≡ true → count ≤ 256 → Within (blank s count)
blank_within s count h l =
    let e = length-replicate count unused in
    record {
      size = h;
      reached = le-leb _ _ (omega arith);
      states = every_replicate is_bounded count unused refl;
      tip = end_of s.size (positive h) count _ (omega arith);
      stabilized = refl;
      free = refl;
      ordering = refl;
      pages = refl;
      page_room = refl;
      blobs = refl;
      blob_room = refl;
      freeable = refl;
      listed = refl;
      faults = refl;
    }
  where
    positive : is_segment_size s.size ≡ true → 0 < s.size
    positive g = let k = leb-true 256 s.size (and_parts (leb 256 s.size) _ g).0 in omega arith

begun_within : (s : Plan) (slot extent : ℕ) → plan_refusal s slot extent ≡ None → Within (with_active s.active (unwrap_or s.stable (pos 0)) (blank s (segment_count s extent)))
begun_within s slot extent e =
    let c1 = passed (lsns_out_of_range s) _ _ e in
    let c2 = passed (not (is_segment_size s.size && (is_header s.header && eqb slot s.size))) _ _ c1.1 in
    let c3 = passed (ltb 256 (segment_count s extent)) _ _ c2.1 in
    let w = blank_within s (segment_count s extent) (and_parts (is_segment_size s.size) _ (not-false _ c2.0)).0 (ltb-false _ _ c3.0) in
    on s.active (stable s.stable (or_parts (stable_out_of_range s.stable) _ c1.0).0) w
  where
    stable : (o : Option ℤ) → stable_out_of_range o ≡ false → out_of_range (unwrap_or o (pos 0)) ≡ false
    stable None h = refl
    stable (Some lsn) h = h

    on : (o : Option ℕ) → out_of_range (unwrap_or s.stable (pos 0)) ≡ false → Within (blank s (segment_count s extent)) → Within (with_active o (unwrap_or s.stable (pos 0)) (blank s (segment_count s extent)))
    on None r w = w
    on (Some active) r w = state_within _ (is.Active (opened (base_of s.size (unwrap_or s.stable (pos 0))))) (blank s (segment_count s extent)) (opened_bounded (base_of s.size (unwrap_or s.stable (pos 0))) (not_from_false _ (base_in_range s.size (unwrap_or s.stable (pos 0)) r))) w

-- ---- rows
opened_at_bounded : (base : ℤ) (s : State) → is_lsn base ≡ true → is_bounded s ≡ true → is_bounded (opened_at base s) ≡ true
opened_at_bounded base (is.Free f) r h = opened_bounded base r
opened_at_bounded base (is.Active a) r h = h
opened_at_bounded base (is.Inactive i) r h = h
opened_at_bounded base (is.Draining d) r h = h

based_active : (base : ℤ) (s : State) → has_base base s ≡ true → (a : Active) × (s ≡ is.Active a)
based_active base (is.Free f) h = absurd (true≢false (sym h))
based_active base (is.Active a) h = (a, refl)
based_active base (is.Inactive i) h = absurd (true≢false (sym h))
based_active base (is.Draining d) h = absurd (true≢false (sym h))

recovered_within : (header p : ℕ) (row : SnapshotRow) (b : Books) → out_of_range row.lsn ≡ false → row_refusal header p row b ≡ None → Within b → Within (linked_at (row_segment b row) p (row_size header row) (opened_for row b))
recovered_within header p row b r e w =
    let n : ℕ = row_segment b row in
    let base : ℤ = base_of b.size row.lsn in
    let c : Books = opened_for row b in
    let c0 = passed (leb (length b.segments) n) _ _ e in
    let c1 = passed (not (has_base base (state_of c n))) _ _ c0.1 in
    let c2 = passed (too_large (row_size header row)) _ _ c1.1 in
    let c3 = passed (ltb (2 ^ 40) (bytes_in (state_of c n) + row_size header row)) _ _ c2.1 in
    let c4 = passed (page_rows_full c n p) _ _ c3.1 in
    let x = based_active base (state_of c n) (not-false _ c1.0) in
    let v = state_within n (opened_at base (state_of b n)) b (opened_at_bounded base (state_of b n) (not_from_false _ (base_in_range b.size row.lsn r)) (state_bounded b n (state_of b n) refl w)) w in
    linked_within n p (row_size header row) x.0 c x.1 (subst (λ s. bytes_in s + row_size header row ≤ 2 ^ 40) x.1 (ltb-false _ _ c3.0)) c4.0 v

-- ---- the ordering
module _ (p : OrderingRow → Bool) (size : ℕ) where
  order_state_keeps : (n : ℕ) (s : State) (rows more : List OrderingRow) → ((a : Active) → s ≡ is.Active a → p (record { lsn = a.lsn; offset = n * size }) ≡ true) → order_state (n * size) s rows ≡ Ok more → every p rows ≡ true → every p more ≡ true
  order_state_keeps n (is.Free f) rows more at e h = let q : rows ≡ more = cc in subst (λ l. every p l ≡ true) q h
  order_state_keeps n (is.Active a) rows more at e h = on (is_some (find ordering_key int_cmp rows a.lsn)) refl
    where
      on : (t : Bool) → is_some (find ordering_key int_cmp rows a.lsn) ≡ t → every p more ≡ true
      on true f = let g = rw f at e in let z : ◌≡◌ {A = ℕ} 0 1 = cc in absurd (omega arith)
      on false f =
          let g = rw f at e in
          let q : insert_row ordering_key int_cmp rows (record { lsn = a.lsn; offset = n * size }) ≡ more = cc in
          subst (λ l. every p l ≡ true) q (every_insert p ordering_key int_cmp rows _ (at a refl) h)
  order_state_keeps n (is.Inactive i) rows more at e h = let q : rows ≡ more = cc in subst (λ l. every p l ≡ true) q h
  order_state_keeps n (is.Draining d) rows more at e h = let q : rows ≡ more = cc in subst (λ l. every p l ≡ true) q h

  pub order_all_keeps : (end n : ℕ) (states : List State) (rows more : List OrderingRow) → n + length states ≡ end → ((m : ℕ) (a : Active) → m < end → is_bounded (is.Active a) ≡ true → p (record { lsn = a.lsn; offset = m * size }) ≡ true) → every is_bounded states ≡ true → order_all size n states rows ≡ Ok more → every p rows ≡ true → every p more ≡ true
  order_all_keeps end n [] rows more l at h e g = let q : rows ≡ more = cc in subst (λ r. every p r ≡ true) q g
  order_all_keeps end n (s ∷ states) rows more l at h e g =
      let hs = and_parts (is_bounded s) (every is_bounded states) h in
      on (order_state (n * size) s rows) refl e (λ mid f k. order_all_keeps end (suc n) states mid more (omega arith) at hs.1 f k)
    where
      on : (o : Result (List OrderingRow) Refusal) → order_state (n * size) s rows ≡ o → order_then o (order_all size (suc n) states) ≡ Ok more → ((mid : List OrderingRow) → order_all size (suc n) states mid ≡ Ok more → every p mid ≡ true → every p more ≡ true) → every p more ≡ true
      on (Ok mid) f k ih = ih mid k (order_state_keeps n s rows mid (λ a q. at n a (omega arith) (subst (λ x. is_bounded x ≡ true) q (and_parts (is_bounded s) (every is_bounded states) h).0)) f g)
      on (Err r) f k ih = let z : ◌≡◌ {A = ℕ} 0 1 = cc in absurd (omega arith)

orders_within : (rows : List OrderingRow) (b : Books) → order_all b.size 0 b.segments b.ordering ≡ Ok rows → Within b → Within (with_ordering rows b)
orders_within rows b e w =
    ordering_within rows b (order_all_keeps (λ row. is_lsn row.lsn && is_place b.size (length b.segments) row.offset) b.size (length b.segments) 0 b.segments b.ordering rows (omega arith)
    (λ m a l h. and_from _ _ (and_parts (is_lsn a.lsn) _ h).0 (place_of b.size (size_positive b w) m _ l)) w.states e w.ordering) w

-- ---- all steps
pub within_steps : Steps KeptWithin
within_steps = record {
  ordered = λ b h. h.0;
  cuts = λ b a c h. (ordered_steps.cuts b a c h.0, lowered_within b a c h.1);
  drains = λ n i b e h. (ordered_steps.drains n i b e h.0, drained_within n i b e h.1);
  holds = λ n d t b e f g h. (ordered_steps.holds n d t b e f g h.0, held_within n d t b e g h.1);
  frees = λ n d b e f g h. (ordered_steps.frees n d b e f g h.0, emptied_freed n d b e h.1);
  links = λ p info b r e h. (ordered_steps.links p info b r e h.0, link_within p info b e h.1);
  gives = λ olds new a b e f h. (ordered_steps.gives olds new a b e f h.0, gave_within olds new a b e f h.1);
  takes = λ n p base size b r e h. (ordered_steps.takes n p base size b r e h.0, taken_within n p base size b r e h.1);
  removes = λ n b h. (ordered_steps.removes n b h.0, removed_within n b h.1);
  releases = λ row b m h. (ordered_steps.releases row b m h.0, released_within row b m h.1);
  closes = λ n a b e h. (ordered_steps.closes n a b e h.0, closed_within n a b e h.1);
  stores = λ lsn b r e h. (ordered_steps.stores lsn b r e h.0, level_within _ b (level_above b.size lsn b.stabilized r e h.1.stabilized) h.1);
  hands_least = λ lsn offset rest b r u i e q h. (ordered_steps.hands_least lsn offset rest b r u i e q h.0, least_within lsn offset rest b r e h.1);
  hands_tip = λ lsn b r u i e f q l h. (ordered_steps.hands_tip lsn b r u i e f q l h.0, tip_taken_within lsn b r e q h.1);
  forgets = λ b h. (ordered_steps.forgets b h.0, faults_within [] b refl h.1);
  unlists = λ offset b e h. (ordered_steps.unlists offset b e h.0, listed_within _ b (every_remove (is_place b.size (length b.segments)) own_key nat_cmp b.listed offset h.1.listed) h.1);
  pops = λ offset row rows b e q h. (ordered_steps.pops offset row rows b e q h.0, popped_within _ row rows b q h.0 h.1);
}
  where
    emptied_freed : (n : ℕ) (d : Draining) (b : Books) → state_of b n ≡ is.Draining d → Within b → Within (put_free n (emptied_at n d b))
    emptied_freed n d b e w =
        let l = reached b.segments n (is.Draining d) e (λ q. let z : ◌≡◌ {A = ℕ} 0 1 = cc in omega arith) in
        let k = length-set b.segments n (is.Free (emptied d)) in
        freed_within n (emptied_at n d b) (omega arith) (emptied_within n d b e w)

pub within_beginning : Beginning KeptWithin (λ n b. KeptWithin b) KeptWithin
within_beginning = record {
  begins = λ s slot extent e. (ordered_beginning.begins s slot extent e, begun_within s slot extent e);
  recovers = λ header p row b r e h. (ordered_beginning.recovers header p row b r e h.0, recovered_within header p row b r e h.1);
  orders = λ rows b e h. (ordered_beginning.orders rows b e h.0, orders_within rows b e h.1);
  cuts = λ n b a c h. (ordered_beginning.cuts n b a c h.0, lowered_within b a c h.1);
  frees = λ n b l e h. (ordered_beginning.frees n b l e h.0, freed_within n b l h.1);
  passes = λ n b l e h. h;
  ends = λ b e h. h;
}
