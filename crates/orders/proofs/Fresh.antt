-- A start: states are Free and never used, or Active; the ordering leads to the Active ones; the Free ones are freed in turn, below a tip that stays until the last.
use Rattle.std.proofs.Common.{◌≡◌, ℕ, suc, ◌+◌, ◌-◌, ◌*◌, ◌/◌, ◌<◌, ◌≤◌, Bool, true, false, not, eqb, ltb, ◌⊎◌, List, [], ◌∷◌, length, get_or, set, replicate, ℤ, pos, is_some, Some, None, Ok, Err, Option, Result, unwrap_or, sym, refl, ap, ◌∙◌, subst, inl, inr, true≢false, mul-div_cancel, arith}
use Rattle.std.specs.Option.{option_map}
use Rattle.std.proofs.lemmas.List.{length-set, length-replicate}
use Rattle.std.proofs.lemmas.Bool.{and_parts, cases_eq, not-true, eqb-false}
use Rattle.table.specs.Order.{signed_lawful, unsigned_lawful}
use Rattle.table.specs.Rows.{every, find, insert_row, remove_row, own_key}
use Rattle.table.proofs.Laws.{find_insert_same, find_insert_other, find_remove_same, find_remove_other, find_has}
use Rattle.table.proofs.Orders.{every_has}
use Rattle.host.specs.Meaning.{Answer}
use Rattle.segment.specs.Bases.{base_of}
use Rattle.segment.specs.Changes.{opened}
use Rattle.segment.specs.Rows.{ordering_key, freeable_key, by_signed}
use Rattle.segment.specs.declared.rows.OrderingRow.{OrderingRow}
use Rattle.segment.specs.declared.snapshot.SnapshotRow.{SnapshotRow}
use Rattle.segment.specs.declared.state.Active.{Active}
use Rattle.segment.specs.declared.state.State.{State}
use Rattle.segment.specs.declared.state.State.TheVariants as is
use Rattle.rules.specs.declared.refusal.Refusal.{Refusal}
use Rattle.rules.specs.Books.{Books, with_ordering, unused, state_of, segment_of, offset_of}
use Rattle.rules.specs.Freeing.{put_free, is_free_offset, can_cut, lowered}
use Rattle.rules.specs.Links.{linked_state, linked_at}
use Rattle.rules.specs.Stabilizing.{is_free}
use Rattle.rules.specs.Starting.{Plan, segment_count, blank, with_active, opened_at, row_segment, row_size, opened_for, order_state, order_then, order_all}
use Rattle.orders.specs.Ordered.{Ordered}
use Rattle.orders.specs.Within.{Within, is_lsn}
use Rattle.orders.specs.Looks.{label, offers, Looks}
use Rattle.orders.specs.Counts.{Counted, Counts}
use Rattle.orders.proofs.Every.{every_set, every_index, every_replicate, place_parts, end_parts, last_place}
use Rattle.orders.proofs.Bounds.{size_positive}
use Rattle.orders.proofs.Looking.{cases_lsn}
use Rattle.orders.proofs.LookSteps.{freed_looks}
use Rattle.orders.proofs.Counting.{past_end}
use Rattle.orders.proofs.Replaces.{reached}
use Rattle.std.specs.Ordering.{nat_cmp, int_cmp}

-- never used, or Active
abbrev pub is_fresh : State → Bool
is_fresh (is.Free f) = not (is_some f.previous_lsn)
is_fresh (is.Active a) = true
is_fresh (is.Inactive i) = false
is_fresh (is.Draining d) = false

pub record Fresh (b : Books) : Type 0 where
  pub states : every is_fresh b.segments ≡ true
  pub free : b.free ≡ []
  pub ordering : b.ordering ≡ []
  pub freeable : b.freeable ≡ []
  pub tip : b.tip ≡ length b.segments * b.size

begun_fresh : (s : Plan) (count : ℕ) (active : Option ℕ) (lsn : ℤ) → Fresh (with_active active lsn (blank s count))
begun_fresh s count None lsn = record { states = every_replicate is_fresh count unused refl; free = refl; ordering = refl; freeable = refl; tip = ap (λ n. n * s.size) (sym (length-replicate count unused)) }
begun_fresh s count (Some offset) lsn = record {
  states = every_set is_fresh (replicate count unused) (offset / s.size) _ refl (every_replicate is_fresh count unused refl);
  free = refl;
  ordering = refl;
  freeable = refl;
  tip = ap (λ n. n * s.size) (sym (length-set (replicate count unused) (offset / s.size) (is.Active (opened (base_of s.size lsn))) ∙ length-replicate count unused));
}

pub begins_fresh : (s : Plan) (extent : ℕ) → Fresh (with_active s.active (unwrap_or s.stable (pos 0)) (blank s (segment_count s extent)))
begins_fresh s extent = begun_fresh s (segment_count s extent) s.active (unwrap_or s.stable (pos 0))

opened_fresh : (base : ℤ) (s : State) → is_fresh s ≡ true → is_fresh (opened_at base s) ≡ true
opened_fresh base (is.Free f) h = refl
opened_fresh base (is.Active a) h = refl
opened_fresh base (is.Inactive i) h = h
opened_fresh base (is.Draining d) h = h

linked_fresh : (size : ℕ) (s : State) → is_fresh s ≡ true → is_fresh (linked_state size s) ≡ true
linked_fresh size (is.Free f) h = h
linked_fresh size (is.Active a) h = refl
linked_fresh size (is.Inactive i) h = h
linked_fresh size (is.Draining d) h = h

pub recovered_fresh : (header p : ℕ) (row : SnapshotRow) (b : Books) → Fresh b → Fresh (linked_at (row_segment b row) p (row_size header row) (opened_for row b))
recovered_fresh header p row b f =
    let n : ℕ = row_segment b row in
    let s : State = opened_at (base_of b.size row.lsn) (state_of b n) in
    let l : List State = set b.segments n s in
    let u : every is_fresh l ≡ true = every_set is_fresh b.segments n s (opened_fresh _ (state_of b n) (every_index is_fresh b.segments n unused refl f.states)) f.states in
    record {
      states = every_set is_fresh l n _ (linked_fresh (row_size header row) (get_or l n unused) (every_index is_fresh l n unused refl u)) u;
      free = f.free;
      ordering = f.ordering;
      freeable = f.freeable;
      tip = f.tip ∙ ap (λ m. m * b.size) (sym (length-set l n (linked_state (row_size header row) (get_or l n unused)) ∙ length-set b.segments n s));
    }

-- ---- the ordering that a start makes
module _ (size : ℕ) (positive : 0 < size) (all : List State) where
  -- its rows lead to segments with their LSNs, and the Active segments below n are in it
  pub record Made (n : ℕ) (rows : List OrderingRow) : Type 0 where
    pub named : (lsn : ℤ) (row : OrderingRow) → find ordering_key int_cmp rows lsn ≡ Some row → label (get_or all (row.offset / size) unused) ≡ Some lsn
    pub entered : (m : ℕ) (lsn : ℤ) → m < n → is_free (get_or all m unused) ≡ false → label (get_or all m unused) ≡ Some lsn → find ordering_key int_cmp rows lsn ≡ Some (record { lsn = lsn; offset = m * size })

  below_next : (m n : ℕ) → m < suc n → (m ≡ n) ⊎ (m ≡ n → ⊥) → (m ≡ n) ⊎ (m < n)
  below_next m n l (inl q) = inl q
  below_next m n l (inr q) = inr (omega arith)

  passed_by : (n : ℕ) (rows : List OrderingRow) → is_free (get_or all n unused) ≡ true → Made n rows → Made (suc n) rows
  passed_by n rows f h = record { named = h.named; entered = λ m lsn l g e. on m lsn g e (below_next m n l (cases_eq m n)) }
    where
      on : (m : ℕ) (lsn : ℤ) → is_free (get_or all m unused) ≡ false → label (get_or all m unused) ≡ Some lsn → (m ≡ n) ⊎ (m < n) → find ordering_key int_cmp rows lsn ≡ Some (record { lsn = lsn; offset = m * size })
      on m lsn g e (inl q) = absurd (true≢false (sym f ∙ (sym (ap (λ x. is_free (get_or all x unused)) q) ∙ g)))
      on m lsn g e (inr q) = h.entered m lsn q g e

  put_in : (n : ℕ) (a : Active) (rows : List OrderingRow) → get_or all n unused ≡ is.Active a → find ordering_key int_cmp rows a.lsn ≡ None → Made n rows → Made (suc n) (insert_row ordering_key int_cmp rows (record { lsn = a.lsn; offset = n * size }))
  put_in n a rows s none h = record { named = λ lsn row e. is_named lsn row e (cases_lsn lsn a.lsn); entered = λ m lsn l g e. is_in m lsn g e (below_next m n l (cases_eq m n)) }
    where
      new : OrderingRow
      new = record { lsn = a.lsn; offset = n * size }

      other : (lsn : ℤ) → (lsn ≡ a.lsn → ⊥) → find ordering_key int_cmp (insert_row ordering_key int_cmp rows new) lsn ≡ find ordering_key int_cmp rows lsn
      other lsn q = find_insert_other ordering_key signed_lawful rows new lsn (λ r. q (sym r))

      is_named : (lsn : ℤ) (row : OrderingRow) → find ordering_key int_cmp (insert_row ordering_key int_cmp rows new) lsn ≡ Some row → (lsn ≡ a.lsn) ⊎ (lsn ≡ a.lsn → ⊥) → label (get_or all (row.offset / size) unused) ≡ Some lsn
      is_named lsn row e (inl q) =
          let same : Some new ≡ Some row = sym (find_insert_same ordering_key signed_lawful rows new) ∙ (ap (find ordering_key int_cmp (insert_row ordering_key int_cmp rows new)) (sym q) ∙ e) in
          let r : new ≡ row = cc in
          ap (λ (x : OrderingRow). label (get_or all (x.offset / size) unused)) (sym r) ∙ (ap (λ x. label (get_or all x unused)) (mul-div_cancel n positive) ∙ (ap label s ∙ ap Some (sym q)))
      is_named lsn row e (inr q) = h.named lsn row (sym (other lsn q) ∙ e)

      is_in : (m : ℕ) (lsn : ℤ) → is_free (get_or all m unused) ≡ false → label (get_or all m unused) ≡ Some lsn → (m ≡ n) ⊎ (m < n) → find ordering_key int_cmp (insert_row ordering_key int_cmp rows new) lsn ≡ Some (record { lsn = lsn; offset = m * size })
      is_in m lsn g e (inl q) =
          let p : Some lsn ≡ Some a.lsn = sym e ∙ (ap (λ x. label (get_or all x unused)) q ∙ ap label s) in
          let r : a.lsn ≡ lsn = cc in
          subst (λ x. find ordering_key int_cmp (insert_row ordering_key int_cmp rows new) x ≡ Some (record { lsn = x; offset = m * size })) r
          (subst (λ x. find ordering_key int_cmp (insert_row ordering_key int_cmp rows new) a.lsn ≡ Some (record { lsn = a.lsn; offset = x * size })) (sym q) (find_insert_same ordering_key signed_lawful rows new))
      is_in m lsn g e (inr q) =
          let found = h.entered m lsn q g e in
          other lsn (λ r. let z : ◌≡◌ {A = ℕ} 0 1 = cc (ap (find ordering_key int_cmp rows) r) in omega arith) ∙ found

  state_made : (n : ℕ) (s : State) (rows more : List OrderingRow) → get_or all n unused ≡ s → is_fresh s ≡ true → order_state (n * size) s rows ≡ Ok more → Made n rows → Made (suc n) more
  state_made n (is.Free f) rows more e h g m = let q : rows ≡ more = cc in subst (Made (suc n)) q (passed_by n rows (ap is_free e) m)
  state_made n (is.Active a) rows more e h g m = on (find ordering_key int_cmp rows a.lsn) refl
    where
      on : (o : Option OrderingRow) → find ordering_key int_cmp rows a.lsn ≡ o → Made (suc n) more
      on None f = let k = rw f at g in let q : insert_row ordering_key int_cmp rows (record { lsn = a.lsn; offset = n * size }) ≡ more = cc in subst (Made (suc n)) q (put_in n a rows e f m)
      on (Some row) f = let k = rw f at g in let z : ◌≡◌ {A = ℕ} 0 1 = cc in absurd (omega arith)
  state_made n (is.Inactive i) rows more e h g m = absurd (true≢false (sym h))
  state_made n (is.Draining d) rows more e h g m = absurd (true≢false (sym h))

  all_made : (n : ℕ) (states : List State) (rows more : List OrderingRow) → ((j : ℕ) → get_or states j unused ≡ get_or all (n + j) unused) → every is_fresh states ≡ true → order_all size n states rows ≡ Ok more → Made n rows → Made (n + length states) more
  all_made n [] rows more at h e m = let q : rows ≡ more = cc in let z : n ≡ n + 0 = omega arith in subst (λ k. Made k more) z (subst (Made n) q m)
  all_made n (s ∷ states) rows more at h e m =
      let hs = and_parts (is_fresh s) (every is_fresh states) h in
      on (order_state (n * size) s rows) refl e hs.0
      (λ mid f k. let z : suc n + length states ≡ n + suc (length states) = omega arith in subst (λ x. Made x more) z (all_made (suc n) states mid more (λ j. at (suc j) ∙ ap (λ x. get_or all x unused) (shift j)) hs.1 f k))
    where
      shift : (j : ℕ) → n + suc j ≡ suc n + j
      shift j = omega arith

      zero_on : n + 0 ≡ n
      zero_on = omega arith

      on : (o : Result (List OrderingRow) Refusal) → order_state (n * size) s rows ≡ o → order_then o (order_all size (suc n) states) ≡ Ok more → is_fresh s ≡ true → ((mid : List OrderingRow) → order_all size (suc n) states mid ≡ Ok more → Made (suc n) mid → Made (n + suc (length states)) more) → Made (n + suc (length states)) more
      on (Ok mid) f k fresh ih = ih mid k (state_made n s rows mid (ap (λ x. get_or all x unused) (sym zero_on) ∙ sym (at 0)) fresh f m)
      on (Err r) f k fresh ih = let z : ◌≡◌ {A = ℕ} 0 1 = cc in absurd (omega arith)

pub made_looks : (rows : List OrderingRow) (b : Books) → order_all b.size 0 b.segments b.ordering ≡ Ok rows → Fresh b → Within b → Within (with_ordering rows b) → Looks (with_ordering rows b)
made_looks rows b e f w v =
    let l = size_positive b w in
    let m = all_made b.size l b.segments 0 b.segments [] rows (λ j. ap (λ k. get_or b.segments k unused) (front j)) f.states (subst (λ r. order_all b.size 0 b.segments r ≡ Ok rows) f.ordering e) empty in
    let below : b.tip / b.size ≡ length b.segments = ap (λ x. x / b.size) f.tip ∙ mul-div_cancel (length b.segments) l in
    record {
      named = λ lsn n g. let x = leads (find ordering_key int_cmp rows lsn) n g in ap (λ k. label (state_of b k)) (sym x.2) ∙ m.named lsn x.0 x.1;
      low = λ lsn n g. let x = leads (find ordering_key int_cmp rows lsn) n g in
          let p = (place_parts b.size (length b.segments) x.0.offset (and_parts (is_lsn x.0.lsn) _ (every_has _ rows x.0 v.ordering (find_has ordering_key signed_lawful rows lsn x.0 x.1))).1).1 in
          let q = x.2 in omega arith;
      entered = λ n lsn g h. let k = reaches n g in
          ap (option_map (λ (row : OrderingRow). segment_of b row.offset)) (m.entered n lsn (omega arith) g h) ∙ ap Some (mul-div_cancel n l);
      held = λ t lsn g. absurd (true≢false (sym g ∙ ap (λ rows. is_some (find freeable_key by_signed rows (t, lsn))) f.freeable));
      once = λ t u lsn g. absurd (true≢false (sym g ∙ ap (λ rows. is_some (find freeable_key by_signed rows (t, lsn))) f.freeable));
      idle = λ n g. absurd (true≢false (sym g ∙ nothing n));
      within = λ n g. absurd (true≢false (sym g ∙ nothing n));
      apart = λ n lsn g. absurd (true≢false (sym g ∙ nothing n));
      past = λ n k. beyond n (subst (λ x. x ≤ n) below k);
    }
  where
    front : (j : ℕ) → j ≡ 0 + j
    front j = omega arith

    nothing : (n : ℕ) → offers b n ≡ false
    nothing n = ap (λ rows. is_some (find own_key nat_cmp rows (offset_of b n))) f.free

    empty : {size : ℕ} {positive : 0 < size} → Made size positive b.segments 0 []
    empty = record { named = λ lsn row g. let z : ◌≡◌ {A = ℕ} 0 1 = cc in absurd (omega arith); entered = λ m lsn k. absurd (omega arith) }

    leads : (o : Option OrderingRow) (n : ℕ) → option_map (λ (row : OrderingRow). segment_of b row.offset) o ≡ Some n → (row : OrderingRow) × (o ≡ Some row) × (segment_of b row.offset ≡ n)
    leads None n g = let z : ◌≡◌ {A = ℕ} 0 1 = cc in absurd (omega arith)
    leads (Some row) n g = (row, refl, cc)

    reaches : (n : ℕ) → is_free (state_of b n) ≡ false → n < length b.segments
    reaches n g = reached b.segments n (state_of b n) refl (λ q. true≢false (sym (ap is_free q) ∙ g))

    beyond : (n : ℕ) → length b.segments ≤ n → is_free (state_of b n) ≡ true
    beyond n k = ap is_free (past_end b.segments n k)

fresh_counted : (s : State) (pages left : ℕ) → is_fresh s ≡ true → Counted s pages left
fresh_counted (is.Free f) pages left h = tt
fresh_counted (is.Active a) pages left h = tt
fresh_counted (is.Inactive i) pages left h = absurd (true≢false (sym h))
fresh_counted (is.Draining d) pages left h = absurd (true≢false (sym h))

pub fresh_counts : (b : Books) → every is_fresh b.segments ≡ true → Counts b
fresh_counts b h n = fresh_counted (state_of b n) _ _ (every_index is_fresh b.segments n unused refl h)

-- ---- the segments below n have been looked at
pub record Progress (n : ℕ) (b : Books) : Type 0 where
  pub states : every is_fresh b.segments ≡ true
  pub freeable : b.freeable ≡ []
  pub listed : (m : ℕ) → offers b m ≡ true → m < n
  pub tip : n < length b.segments → b.tip / b.size ≡ length b.segments

pub made_progress : (rows : List OrderingRow) (b : Books) → Fresh b → 0 < b.size → Progress 0 (with_ordering rows b)
made_progress rows b f l = record {
  states = f.states;
  freeable = f.freeable;
  listed = λ m g. absurd (true≢false (sym g ∙ ap (λ rows. is_some (find own_key nat_cmp rows (offset_of b m))) f.free));
  tip = λ k. ap (λ x. x / b.size) f.tip ∙ mul-div_cancel (length b.segments) l;
}

unlabelled : (s : State) (lsn : ℤ) → is_fresh s ≡ true → is_free s ≡ true → label s ≡ Some lsn → ⊥
unlabelled (is.Free f) lsn h g e = true≢false (sym h ∙ ap (λ o. not (is_some o)) e)
unlabelled (is.Active a) lsn h g e = true≢false (sym g)
unlabelled (is.Inactive i) lsn h g e = true≢false (sym g)
unlabelled (is.Draining d) lsn h g e = true≢false (sym g)

pub freed_progress : (n : ℕ) (b : Books) → n < length b.segments → is_free (state_of b n) ≡ true → Ordered b → Within b → Looks b → Progress n b → Looks (put_free n b) × Progress (suc n) (put_free n b)
freed_progress n b k e o w h p =
    let l = size_positive b w in
    let fresh = every_index is_fresh b.segments n unused refl p.states in
    let low : n < b.tip / b.size = subst (λ x. n < x) (sym (p.tip k)) k in (
      freed_looks n b o l e low (λ lsn g. absurd (unlabelled (state_of b n) lsn fresh e g)) (λ u lsn g. absurd (true≢false (sym g ∙ ap (λ rows. is_some (find freeable_key by_signed rows (u, lsn))) p.freeable))) h,
      record { states = p.states; freeable = p.freeable; listed = λ m g. on l m g (cases_eq m n); tip = λ j. p.tip k },
    )
  where
    on : 0 < b.size → (m : ℕ) → offers (put_free n b) m ≡ true → (m ≡ n) ⊎ (m ≡ n → ⊥) → m < suc n
    on l m g (inl q) = omega arith
    on l m g (inr q) =
        let before : offers b m ≡ true = ap is_some (sym (find_insert_other own_key unsigned_lawful b.free (offset_of b n) (offset_of b m) (λ r. q (sym (mul-div_cancel m l) ∙ (ap (λ x. x / b.size) (sym r) ∙ mul-div_cancel n l))))) ∙ g in
        let j = p.listed m before in
        omega arith

pub passed_progress : (n : ℕ) (b : Books) → n < length b.segments → Progress n b → Progress (suc n) b
passed_progress n b k p = record { states = p.states; freeable = p.freeable; listed = λ m g. let j = p.listed m g in omega arith; tip = λ j. p.tip k }

pub lowered_progress : (n : ℕ) (b : Books) (a : Answer) → can_cut b ≡ true → Ordered b → Within b → Progress n b → Progress n (lowered b a)
lowered_progress n b a c o w p = record {
  states = p.states;
  freeable = p.freeable;
  listed = λ m g. p.listed m (still m (cases_eq (b.tip - b.size) (offset_of b m)) g);
  tip = λ k. absurd (never k);
}
  where
    still : (m : ℕ) → (b.tip - b.size ≡ offset_of b m) ⊎ (b.tip - b.size ≡ offset_of b m → ⊥) → offers (lowered b a) m ≡ true → offers b m ≡ true
    still m (inl q) g = absurd (true≢false (sym g ∙ ap is_some (ap (find own_key nat_cmp (remove_row own_key nat_cmp b.free (b.tip - b.size))) (sym q) ∙ find_remove_same own_key unsigned_lawful b.free (b.tip - b.size) o.free)))
    still m (inr q) g = ap is_some (sym (find_remove_other own_key unsigned_lawful b.free (b.tip - b.size) (offset_of b m) o.free q)) ∙ g

    never : n < length b.segments → ⊥
    never k =
        let t = end_parts b.size (length b.segments) b.tip w.tip in
        let nonzero = eqb-false b.tip 0 (not-true _ (and_parts (not (eqb b.tip 0)) _ c).0) in
        let is_on = (and_parts (ltb 1 (length b.free)) (is_free_offset b (b.tip - b.size)) (and_parts (not (eqb b.tip 0)) _ c).1).1 in
        let x = last_place (b.tip / b.size) b.size b.tip t.0 nonzero in
        let j = p.listed x.0 (subst (λ y. is_free_offset b y ≡ true) x.2 is_on) in
        let i = p.tip k in
        let y = x.1 in
        omega arith
