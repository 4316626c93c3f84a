-- The room equations are kept with all the rest. In a start, the Free segments not yet looked at count as well.
use Rattle.std.proofs.Common.{◌≡◌, ℕ, zero, suc, ◌+◌, ◌-◌, ◌*◌, ◌/◌, ◌<◌, ◌≤◌, Bool, true, false, cond, not, ltb, List, [], ◌∷◌, ◌++◌, length, get_or, drop, set, ℤ, is_some, Some, None, Ok, Err, filter, Option, Result, sym, refl, ap, ◌∙◌, subst, true≢false, mul-div_cancel, arith}
use Rattle.std.specs.List.{ContainsAt as Has}
use Rattle.std.proofs.lemmas.List.{length-set, length-append, get_or-set_same}
use Rattle.std.proofs.lemmas.Bool.{and_parts, ltb-true}
use Rattle.table.specs.Order.{unsigned_lawful, signed_lawful}
use Rattle.table.specs.Rows.{every, find, insert_row, remove_row, own_key}
use Rattle.table.proofs.Laws.{has_find, length_insert_new}
use Rattle.host.specs.Meaning.{Answer}
use Rattle.segment.specs.Changes.{emptied, drained}
use Rattle.segment.specs.Rows.{ordering_key, freeable_key, by_signed}
use Rattle.segment.specs.declared.rows.FreeableRow.{FreeableRow}
use Rattle.segment.specs.declared.rows.OrderingRow.{OrderingRow}
use Rattle.segment.specs.declared.state.Draining.{Draining}
use Rattle.segment.specs.declared.state.State.{State}
use Rattle.segment.specs.declared.state.State.TheVariants as is
use Rattle.rules.specs.declared.refusal.Refusal.{Refusal}
use Rattle.rules.specs.Books.{Books, with_segments, with_ordering, with_freeable, unused, state_of, offset_of}
use Rattle.rules.specs.Freeing.{without_lsn, unordered, put_free, can_cut, lowered}
use Rattle.rules.specs.Cleaning.{emptied_at}
use Rattle.rules.specs.Stabilizing.{is_free, number_of_lsn}
use Rattle.rules.specs.HandingOut.{entered}
use Rattle.rules.specs.Starting.{Plan, blank, with_active, order_state, order_then, order_all}
use Rattle.orders.specs.Within.{Within}
use Rattle.orders.specs.Looks.{label, offers, Looks}
use Rattle.orders.specs.Counts.{Counting}
use Rattle.orders.specs.Spread.{Spread, Whole}
use Rattle.orders.proofs.Steps.{Steps, Beginning}
use Rattle.orders.proofs.Every.{every_index, end_parts}
use Rattle.orders.proofs.Bounds.{size_positive}
use Rattle.orders.proofs.Replaces.{reached}
use Rattle.orders.proofs.Stabilizes.{signed_laws}
use Rattle.orders.proofs.LookSteps.{emptied_looks, releasing_looks, number_at_is}
use Rattle.orders.proofs.Fresh.{is_fresh, Fresh, Progress}
use Rattle.orders.proofs.BookSteps.{book_steps, book_beginning, Recovering, Freeing, least_reached}
use Rattle.orders.proofs.Spreads.{none_of, freed_spread, remembered_most, last_below, cut_less, lowered_spread, least_spread, tip_spread}
use Rattle.std.specs.Ordering.{nat_cmp, int_cmp}

pub entered_length : (n : ℕ) (s : State) (l : List State) → n ≤ length l → (length l ≤ length (entered n s l)) × (n < length (entered n s l))
entered_length n s l k = on (ltb n (length l)) refl
  where
    on : (t : Bool) → ltb n (length l) ≡ t → (length l ≤ length (cond t (set l n s) (l ++ s ∷ []))) × (n < length (cond t (set l n s) (l ++ s ∷ [])))
    on true e = let x = length-set l n s in let y = ltb-true n (length l) e in (omega arith, omega arith)
    on false e = let x = length-append l (s ∷ []) in let y : length (s ∷ []) ≡ 1 = refl in (omega arith, omega arith)

-- states of the same number, nothing else
states_spread : (n : ℕ) (s : State) (b : Books) → Spread b → Spread (with_segments (set b.segments n s) b)
states_spread n s b h = let e = length-set b.segments n s in let f = h.faults in record { rows = h.rows; faults = omega arith }

settled_spread : (n : ℕ) (d : Draining) (b : Books) → state_of b n ≡ is.Draining d → Looks b → Spread b → Spread (put_free n (emptied_at n d b))
settled_spread n d b e h s =
    let at : state_of (emptied_at n d b) n ≡ is.Free (emptied d) = get_or-set_same b.segments n (is.Free (emptied d)) unused (reached b.segments n (is.Draining d) e (λ q. let z : ◌≡◌ {A = ℕ} 0 1 = cc in omega arith)) in
    freed_spread n d.lsn (emptied_at n d b) (ap is_free at) (ap label at) (h.entered n d.lsn (ap is_free e) (ap label e)) (emptied_looks n d b e h) (states_spread n (is.Free (emptied d)) b s)

released_spread : (row : FreeableRow) (b : Books) → Has b.freeable row → Counting b → Spread b → Spread (put_free (number_of_lsn b row.lsn) (with_freeable (remove_row freeable_key by_signed b.freeable (row.segment, row.lsn)) b))
released_spread row b m c s =
    let h = c.looks in
    let x = h.held row.segment row.lsn (ap is_some (has_find freeable_key signed_laws b.freeable row c.within.0.freeable m)) in
    subst (λ k. Spread (put_free k (with_freeable (remove_row freeable_key by_signed b.freeable (row.segment, row.lsn)) b))) (sym (number_at_is b row.lsn x.0 x.1))
    (freed_spread x.0 row.lsn (with_freeable (remove_row freeable_key by_signed b.freeable (row.segment, row.lsn)) b) x.2 (h.named row.lsn x.0 x.1) x.1 (releasing_looks row b c.within.0 h) (record { rows = s.rows; faults = s.faults }))

pub whole_steps : Steps Whole
whole_steps = record {
  ordered = λ b h. h.counting.within.0;
  cuts = λ b a c h. record { counting = book_steps.cuts b a c h.counting; spread = lowered_spread b a c h.counting.within.1 h.spread };
  drains = λ n i b e h. record { counting = book_steps.drains n i b e h.counting; spread = let s = states_spread n (is.Draining (drained i)) b h.spread in record { rows = s.rows; faults = s.faults } };
  holds = λ n d t b e f g h. record { counting = book_steps.holds n d t b e f g h.counting; spread = let s = states_spread n (is.Free (emptied d)) b h.spread in record { rows = s.rows; faults = s.faults } };
  frees = λ n d b e f g h. record { counting = book_steps.frees n d b e f g h.counting; spread = settled_spread n d b e h.counting.looks h.spread };
  links = λ p info b r e h. record { counting = book_steps.links p info b r e h.counting; spread = let s = states_spread _ _ b h.spread in record { rows = s.rows; faults = s.faults } };
  gives = λ olds new a b e f h. record { counting = book_steps.gives olds new a b e f h.counting; spread = record { rows = h.spread.rows; faults = h.spread.faults } };
  takes = λ n p base size b r e h. record { counting = book_steps.takes n p base size b r e h.counting; spread = let s = states_spread _ _ b h.spread in record { rows = s.rows; faults = s.faults } };
  removes = λ n b h. record { counting = book_steps.removes n b h.counting; spread = record { rows = h.spread.rows; faults = h.spread.faults } };
  releases = λ row b m h. record { counting = book_steps.releases row b m h.counting; spread = released_spread row b m h.counting h.spread };
  closes = λ n a b e h. record { counting = book_steps.closes n a b e h.counting; spread = let s = states_spread _ _ b h.spread in record { rows = s.rows; faults = s.faults } };
  stores = λ lsn b r e h. record { counting = book_steps.stores lsn b r e h.counting; spread = record { rows = h.spread.rows; faults = h.spread.faults } };
  hands_least = λ lsn offset rest b r u i e q h. record { counting = book_steps.hands_least lsn offset rest b r u i e q h.counting; spread = least_spread lsn offset rest b i e (entered_length _ _ b.segments (least_reached offset rest b e h.counting.within.1)).0 h.spread };
  hands_tip = λ lsn b r u i e f q l h. record { counting = book_steps.hands_tip lsn b r u i e f q l h.counting; spread = tip_spread lsn b i e f (entered_length _ _ b.segments (end_parts b.size (length b.segments) b.tip h.counting.within.1.tip).1).1 h.counting.within.1 h.spread };
  forgets = λ b h. record { counting = book_steps.forgets b h.counting; spread = let f = h.spread.faults in record { rows = h.spread.rows; faults = omega arith } };
  unlists = λ offset b e h. record { counting = book_steps.unlists offset b e h.counting; spread = record { rows = h.spread.rows; faults = h.spread.faults } };
  pops = λ offset row rows b e q h. record { counting = book_steps.pops offset row rows b e q h.counting; spread = record { rows = h.spread.rows; faults = h.spread.faults } };
}

-- ---- a start
-- each state is Free, or enters the ordering
state_entered : (offset : ℕ) (s : State) (rows more : List OrderingRow) → is_fresh s ≡ true → order_state offset s rows ≡ Ok more → length more + cond (is_free s) 1 0 ≡ length rows + 1
state_entered offset (is.Free f) rows more h e = let q : rows ≡ more = cc in let l = ap length q in omega arith
state_entered offset (is.Active a) rows more h e = on (find ordering_key int_cmp rows a.lsn) refl
  where
    on : (o : Option OrderingRow) → find ordering_key int_cmp rows a.lsn ≡ o → length more + 0 ≡ length rows + 1
    on None f =
        let k = rw f at e in
        let q : insert_row ordering_key int_cmp rows (record { lsn = a.lsn; offset = offset }) ≡ more = cc in
        let l = length_insert_new ordering_key signed_lawful rows (record { lsn = a.lsn; offset = offset }) f in
        let m = ap length q in
        omega arith
    on (Some row) f = let k = rw f at e in let z : ◌≡◌ {A = ℕ} 0 1 = cc in absurd (omega arith)
state_entered offset (is.Inactive i) rows more h e = absurd (true≢false (sym h))
state_entered offset (is.Draining d) rows more h e = absurd (true≢false (sym h))

count_first : (t : Bool) (x : State) (l : List State) → length (cond t (x ∷ l) l) ≡ cond t 1 0 + length l
count_first true x l = omega arith
count_first false x l = omega arith

all_entered : (size n : ℕ) (states : List State) (rows more : List OrderingRow) → every is_fresh states ≡ true → order_all size n states rows ≡ Ok more → length more + length (filter is_free states) ≡ length rows + length states
all_entered size n [] rows more h e = let q : rows ≡ more = cc in let l = ap length q in omega arith
all_entered size n (s ∷ states) rows more h e =
    let hs = and_parts (is_fresh s) (every is_fresh states) h in
    on (order_state (n * size) s rows) refl e hs.0 (λ mid f. all_entered size (suc n) states mid more hs.1 f)
  where
    on : (o : Result (List OrderingRow) Refusal) → order_state (n * size) s rows ≡ o → order_then o (order_all size (suc n) states) ≡ Ok more → is_fresh s ≡ true → ((mid : List OrderingRow) → order_all size (suc n) states mid ≡ Ok more → length more + length (filter is_free states) ≡ length mid + length states) → length more + length (filter is_free (s ∷ states)) ≡ length rows + length (s ∷ states)
    on (Ok mid) f k fresh ih =
        let i = ih mid k in
        let j = state_entered (n * size) s rows mid fresh f in
        let c = count_first (is_free s) s (filter is_free states) in
        omega arith
    on (Err r) f k fresh ih = let z : ◌≡◌ {A = ℕ} 0 1 = cc in absurd (omega arith)

-- the Free segments from n on
next_count : (l : List State) (n : ℕ) → n < length l → length (filter is_free (drop n l)) ≡ cond (is_free (get_or l n unused)) 1 0 + length (filter is_free (drop (suc n) l))
next_count [] n h = absurd (omega arith)
next_count (x ∷ l) zero h = count_first (is_free x) x (filter is_free l)
next_count (x ∷ l) (suc n) h = next_count l n (omega arith)

no_count : (l : List State) → length (filter is_free (drop (length l) l)) ≡ 0
no_count [] = refl
no_count (x ∷ l) = no_count l

pub record Left (n : ℕ) (b : Books) : Type 0 where
  pub rows : length b.free + length b.ordering + length (filter is_free (drop n b.segments)) ≡ b.tip / b.size
  pub faults : length b.faults + b.tip / b.size ≤ length b.segments

begun_faults : (s : Plan) (count : ℕ) (active : Option ℕ) (lsn : ℤ) → (with_active active lsn (blank s count)).faults ≡ []
begun_faults s count None lsn = refl
begun_faults s count (Some offset) lsn = refl

made_left : (rows : List OrderingRow) (b : Books) → order_all b.size 0 b.segments b.ordering ≡ Ok rows → Fresh b → 0 < b.size → b.faults ≡ [] → Left 0 (with_ordering rows b)
made_left rows b e f l g =
    let a = all_entered b.size 0 b.segments b.ordering rows f.states e in
    let below : b.tip / b.size ≡ length b.segments = ap (λ x. x / b.size) f.tip ∙ mul-div_cancel (length b.segments) l in
    let o : length b.ordering ≡ 0 = ap length f.ordering in
    let r : length b.free ≡ 0 = ap length f.free in
    let z : length b.faults ≡ 0 = ap length g in
    let d = front b.segments in
    record { rows = omega arith; faults = omega arith }
  where
    front : (l : List State) → length (filter is_free (drop 0 l)) ≡ length (filter is_free l)
    front [] = refl
    front (x ∷ l) = refl

left_cut : (n : ℕ) (b : Books) (a : Answer) → can_cut b ≡ true → Within b → Left n b → Left n (lowered b a)
left_cut n b a c w s =
    let k = last_below b c w in
    let k1 = k.1 in
    let k2 = k.2 in
    let less = cut_less b c in
    let most = remembered_most (b.tip - b.size) a b.faults in
    let rows = s.rows in
    let faults = s.faults in
    record { rows = omega arith; faults = omega arith }

-- no ordering row goes with a segment that was never used
kept_ordering : (rows : List OrderingRow) (s : State) → is_fresh s ≡ true → unordered s rows ≡ rows
kept_ordering rows (is.Free f) h = on f.previous_lsn h
  where
    on : (o : Option ℤ) → not (is_some o) ≡ true → without_lsn o rows ≡ rows
    on None g = refl
    on (Some lsn) g = absurd (true≢false (sym g))
kept_ordering rows (is.Active a) h = refl
kept_ordering rows (is.Inactive i) h = refl
kept_ordering rows (is.Draining d) h = refl

left_freed : (n : ℕ) (b : Books) → n < length b.segments → is_free (state_of b n) ≡ true → Progress n b → Left n b → Left (suc n) (put_free n b)
left_freed n b l e p s =
    let more = length_insert_new own_key unsigned_lawful b.free (offset_of b n) (new (offers b n) refl) in
    let same = ap length (kept_ordering b.ordering (state_of b n) (every_index is_fresh b.segments n unused refl p.states)) in
    let c = next_count b.segments n l in
    let d : ◌≡◌ {A = ℕ} (cond {A = ℕ} (is_free (state_of b n)) 1 0) 1 = ap (λ t. cond {A = ℕ} t 1 0) e in
    let rows = s.rows in
    record { rows = omega arith; faults = s.faults }
  where
    new : (t : Bool) → offers b n ≡ t → find own_key nat_cmp b.free (offset_of b n) ≡ None
    new true f = let k = p.listed n f in absurd (omega arith)
    new false f = none_of _ f

left_passed : (n : ℕ) (b : Books) → n < length b.segments → is_free (state_of b n) ≡ false → Left n b → Left (suc n) b
left_passed n b l e s =
    let c = next_count b.segments n l in
    let d : ◌≡◌ {A = ℕ} (cond {A = ℕ} (is_free (state_of b n)) 1 0) 0 = ap (λ t. cond {A = ℕ} t 1 0) e in
    let rows = s.rows in
    record { rows = omega arith; faults = s.faults }

pub whole_beginning : Beginning (λ b. Recovering b × (b.faults ≡ [])) (λ n b. Freeing n b × Left n b) Whole
whole_beginning = record {
  begins = λ s slot extent e. (book_beginning.begins s slot extent e, begun_faults s _ s.active _);
  recovers = λ header p row b r e h. (book_beginning.recovers header p row b r e h.0, h.1);
  orders = λ rows b e h. (book_beginning.orders rows b e h.0, made_left rows b e h.0.1 (size_positive b h.0.0.1) h.1);
  cuts = λ n b a c h. (book_beginning.cuts n b a c h.0, left_cut n b a c h.0.0.within.1 h.1);
  frees = λ n b l e h. (book_beginning.frees n b l e h.0, left_freed n b l e h.0.1 h.1);
  passes = λ n b l e h. (book_beginning.passes n b l e h.0, left_passed n b l e h.1);
  ends = λ b e h. let c = no_count b.segments in let rows = h.1.rows in record { counting = h.0.0; spread = record { rows = omega arith; faults = h.1.faults } };
}
