-- The share of Free segments is kept with all the rest. In a start, it holds of the segments looked at so far.
use Rattle.std.proofs.Common.{◌≡◌, ℕ, suc, ◌+◌, ◌-◌, ◌*◌, ◌/◌, ◌<◌, ◌≤◌, Bool, true, false, cond, not, eqb, ltb, List, [], ◌∷◌, ◌++◌, length, get_or, take, set, ℤ, is_some, Some, None, sym, refl, ap, ◌∙◌, subst, true≢false, mul-div_cancel, arith}
use Rattle.std.specs.List.{ContainsAt as Has}
use Rattle.std.proofs.lemmas.Bool.{and_parts, eqb-false, not-true, lt-ltb}
use Rattle.table.specs.Order.{unsigned_lawful}
use Rattle.table.specs.Rows.{every, find, remove_row, own_key}
use Rattle.table.proofs.Laws.{find_first, has_find, length_insert_new, length_remove}
use Rattle.host.specs.Meaning.{Answer}
use Rattle.segment.specs.Changes.{closed, drained, emptied, opened}
use Rattle.segment.specs.Rows.{freeable_key, by_signed}
use Rattle.segment.specs.Updates.{taken}
use Rattle.segment.specs.declared.rows.FreeableRow.{FreeableRow}
use Rattle.segment.specs.declared.rows.OrderingRow.{OrderingRow}
use Rattle.segment.specs.declared.state.Draining.{Draining}
use Rattle.segment.specs.declared.state.State.{State}
use Rattle.segment.specs.declared.state.State.TheVariants as is
use Rattle.rules.specs.Books.{Books, with_ordering, unused, state_of, offset_of}
use Rattle.rules.specs.Pages.{page_count, left_count}
use Rattle.rules.specs.Freeing.{put_free, is_free_offset, can_cut, lowered}
use Rattle.rules.specs.Links.{info_segment, linked_state}
use Rattle.rules.specs.Stabilizing.{is_free, free_below_tip, number_of_lsn}
use Rattle.rules.specs.HandingOut.{entered, rest_of, risen, handed_out}
use Rattle.orders.specs.Within.{Within, is_place}
use Rattle.orders.specs.Looks.{label, ordered_at, holds_back, offers, Looks}
use Rattle.orders.specs.Counts.{Counting}
use Rattle.orders.specs.Spread.{Whole}
use Rattle.orders.specs.Share.{Shared}
use Rattle.orders.proofs.Steps.{Steps, Beginning}
use Rattle.orders.proofs.Every.{place_parts, end_parts, suc_times, last_place}
use Rattle.orders.proofs.Bounds.{size_positive}
use Rattle.orders.proofs.Replaces.{reached}
use Rattle.orders.proofs.Stabilizes.{signed_laws}
use Rattle.orders.proofs.LookSteps.{linked_label, taken_label, entered_state, number_at_is}
use Rattle.orders.proofs.Fresh.{Fresh, Progress}
use Rattle.orders.proofs.BookSteps.{Recovering, Freeing}
use Rattle.orders.proofs.Spreads.{none_of, not_offered, cut_less}
use Rattle.orders.proofs.WholeSteps.{Left, whole_steps, whole_beginning, entered_length}
use Rattle.orders.proofs.Shares.{count, one_if, set_count, set_same, take_next, entered_take}
use Rattle.std.specs.Ordering.{nat_cmp}

-- the last segment below the tip is offered, where the tip can be cut
last_offered : (b : Books) → can_cut b ≡ true → Within b → (last : ℕ) × (suc last ≡ b.tip / b.size) × ((b.tip - b.size) / b.size ≡ last) × (offers b last ≡ true)
last_offered b c w =
    let t = end_parts b.size (length b.segments) b.tip w.tip in
    let nonzero = eqb-false b.tip 0 (not-true _ (and_parts (not (eqb b.tip 0)) _ c).0) in
    let is_on = (and_parts (ltb 1 (length b.free)) (is_free_offset b (b.tip - b.size)) (and_parts (not (eqb b.tip 0)) _ c).1).1 in
    let k = last_place (b.tip / b.size) b.size b.tip t.0 nonzero in
    (k.0, k.1, ap (λ x. x / b.size) k.2 ∙ mul-div_cancel k.0 (size_positive b w), subst (λ x. is_free_offset b x ≡ true) k.2 is_on)

-- one Free segment less below a lower tip
cut_count : (b : Books) (last : ℕ) → suc last ≡ b.tip / b.size → offers b last ≡ true → Within b → Looks b → count (take last b.segments) + 1 ≡ free_below_tip b
cut_count b last e f w h =
    let t = (end_parts b.size (length b.segments) b.tip w.tip).1 in
    let n = take_next last b.segments (omega arith) in
    let d : ◌≡◌ {A = ℕ} (one_if (is_free (state_of b last))) 1 = ap one_if (h.idle last f) in
    let q : count (take (suc last) b.segments) ≡ free_below_tip b = ap (λ k. count (take k b.segments)) e in
    omega arith

-- a segment that is emptied is one Free segment more
emptied_count : (n : ℕ) (d : Draining) (b : Books) → state_of b n ≡ is.Draining d → Looks b → count (take (b.tip / b.size) (set b.segments n (is.Free (emptied d)))) ≡ free_below_tip b + 1
emptied_count n d b e h =
    let low = h.low d.lsn n (h.entered n d.lsn (ap is_free e) (ap label e)) in
    let r = reached b.segments n (is.Draining d) e (λ q. let z : ◌≡◌ {A = ℕ} 0 1 = cc in omega arith) in
    let c = set_count (b.tip / b.size) b.segments n (is.Free (emptied d)) low r in
    let o : ◌≡◌ {A = ℕ} (one_if (is_free (state_of b n))) 0 = ap (λ s. one_if (is_free s)) e in
    omega arith

held_none : (n : ℕ) (d : Draining) (t : ℕ) (b : Books) → state_of b n ≡ is.Draining d → Looks b → find freeable_key by_signed b.freeable (t, d.lsn) ≡ None
held_none n d t b e h = none_of _ (on (holds_back b t d.lsn) refl)
  where
    on : (f : Bool) → holds_back b t d.lsn ≡ f → holds_back b t d.lsn ≡ false
    on true g =
        let x = h.held t d.lsn g in
        let p = h.entered n d.lsn (ap is_free e) (ap label e) in
        let m : x.0 ≡ n = let q : Some x.0 ≡ Some n = sym x.1 ∙ p in cc in
        absurd (true≢false (sym x.2 ∙ (ap (λ k. is_free (state_of b k)) m ∙ ap is_free e)))
    on false g = g

freed_more : (n : ℕ) (lsn : ℤ) (b : Books) → ordered_at b lsn ≡ Some n → Looks b → length (put_free n b).free ≡ length b.free + 1
freed_more n lsn b p h = length_insert_new own_key unsigned_lawful b.free (offset_of b n) (not_offered n lsn b p h)

released_share : (row : FreeableRow) (b : Books) → Has b.freeable row → Counting b → free_below_tip b ≡ length b.free + length b.freeable → free_below_tip b ≡ length (put_free (number_of_lsn b row.lsn) b).free + length (remove_row freeable_key by_signed b.freeable (row.segment, row.lsn))
released_share row b m c s =
    let h = c.looks in
    let f = has_find freeable_key signed_laws b.freeable row c.within.0.freeable m in
    let x = h.held row.segment row.lsn (ap is_some f) in
    let less = length_remove freeable_key signed_laws b.freeable (row.segment, row.lsn) row f in
    let more = ap (λ k. length (put_free k b).free) (number_at_is b row.lsn x.0 x.1) ∙ freed_more x.0 row.lsn b x.1 h in
    omega arith

least_share : (lsn : ℤ) (offset : ℕ) (rest : List ℕ) (b : Books) → b.free ≡ offset ∷ rest → offers b (offset / b.size) ≡ true → offset / b.size < length b.segments → Looks b → free_below_tip b ≡ length b.free + length b.freeable → free_below_tip (handed_out lsn offset b) ≡ length (rest_of b.free) + length b.freeable
least_share lsn offset rest b e f l h s =
    let n : ℕ = offset / b.size in
    let a : State = is.Active (opened lsn) in
    let tip : risen b.free b.tip b.size / b.size ≡ b.tip / b.size = ap (λ x. risen x b.tip b.size / b.size) e in
    let in_place : entered n a b.segments ≡ set b.segments n a = ap (λ t. cond t (set b.segments n a) (b.segments ++ a ∷ [])) (lt-ltb n (length b.segments) l) in
    let c = set_count (b.tip / b.size) b.segments n a (h.within n f) l in
    let d : ◌≡◌ {A = ℕ} (one_if (is_free (state_of b n))) 1 = ap one_if (h.idle n f) in
    let q : free_below_tip (handed_out lsn offset b) ≡ count (take (b.tip / b.size) (set b.segments n a)) = λ i. count (take (tip i) (in_place i)) in
    let free : length b.free ≡ suc (length rest) = ap length e in
    let left : length (rest_of b.free) ≡ length rest = ap (λ x. length (rest_of x)) e in
    omega arith

tip_share : (lsn : ℤ) (b : Books) → b.free ≡ [] → Within b → free_below_tip b ≡ length b.free + length b.freeable → free_below_tip (handed_out lsn b.tip b) ≡ length (rest_of b.free) + length b.freeable
tip_share lsn b e w s =
    let n : ℕ = b.tip / b.size in
    let a : State = is.Active (opened lsn) in
    let t = end_parts b.size (length b.segments) b.tip w.tip in
    let grown : risen b.free b.tip b.size ≡ suc n * b.size = ap (λ x. risen x b.tip b.size) e ∙ (ap (λ m. m + b.size) (sym t.0) ∙ sym (suc_times n b.size)) in
    let next : risen b.free b.tip b.size / b.size ≡ suc n = ap (λ x. x / b.size) grown ∙ mul-div_cancel (suc n) (size_positive b w) in
    let q : free_below_tip (handed_out lsn b.tip b) ≡ count (take (suc n) (entered n a b.segments)) = ap (λ k. count (take k (entered n a b.segments))) next in
    let c = take_next n (entered n a b.segments) (entered_length n a b.segments t.1).1 in
    let d : ◌≡◌ {A = ℕ} (one_if (is_free (get_or (entered n a b.segments) n unused))) 0 = ap (λ x. one_if (is_free x)) (entered_state n a b.segments t.1).0 in
    let g = entered_take n a b.segments t.1 in
    let free : length b.free ≡ 0 = ap length e in
    let left : length (rest_of b.free) ≡ 0 = ap (λ x. length (rest_of x)) e in
    omega arith

cut_share : (b : Books) (a : Answer) → can_cut b ≡ true → Whole b → free_below_tip b ≡ length b.free + length b.freeable → free_below_tip (lowered b a) ≡ length (lowered b a).free + length b.freeable
cut_share b a c w s =
    let k = last_offered b c w.counting.within.1 in
    let n = cut_count b k.0 k.1 k.3 w.counting.within.1 w.counting.looks in
    let q : free_below_tip (lowered b a) ≡ count (take k.0 b.segments) = ap (λ x. count (take x b.segments)) k.2 in
    let less = cut_less b c in
    omega arith

pub share_steps : Steps Shared
share_steps = record {
  ordered = λ b h. h.whole.counting.within.0;
  cuts = λ b a c h. record { whole = whole_steps.cuts b a c h.whole; share = cut_share b a c h.whole h.share };
  drains = λ n i b e h. record { whole = whole_steps.drains n i b e h.whole; share = set_same (b.tip / b.size) b.segments n (is.Draining (drained i)) (sym (ap is_free e)) ∙ h.share };
  holds = λ n d t b e f g h.
      let c = emptied_count n d b e h.whole.counting.looks in
      let m = length_insert_new freeable_key signed_laws b.freeable (record { segment = t; lsn = d.lsn }) (held_none n d t b e h.whole.counting.looks) in
      let s = h.share in
      record { whole = whole_steps.holds n d t b e f g h.whole; share = omega arith };
  frees = λ n d b e f g h.
      let l = h.whole.counting.looks in
      let c = emptied_count n d b e l in
      let m = freed_more n d.lsn b (l.entered n d.lsn (ap is_free e) (ap label e)) l in
      let s = h.share in
      record { whole = whole_steps.frees n d b e f g h.whole; share = omega arith };
  links = λ p info b r e h. record { whole = whole_steps.links p info b r e h.whole; share = set_same (b.tip / b.size) b.segments (info_segment b info) (linked_state info.log_size (state_of b (info_segment b info))) (linked_label info.log_size (state_of b (info_segment b info))).1 ∙ h.share };
  gives = λ olds new a b e f h. record { whole = whole_steps.gives olds new a b e f h.whole; share = h.share };
  takes = λ n p base size b r e h. record { whole = whole_steps.takes n p base size b r e h.whole; share = set_same (b.tip / b.size) b.segments n (taken base size (state_of b n)) (taken_label base size (state_of b n)).1 ∙ h.share };
  removes = λ n b h. record { whole = whole_steps.removes n b h.whole; share = h.share };
  releases = λ row b m h. record { whole = whole_steps.releases row b m h.whole; share = released_share row b m h.whole.counting h.share };
  closes = λ n a b e h. record { whole = whole_steps.closes n a b e h.whole; share = set_same (b.tip / b.size) b.segments n (is.Inactive (closed (page_count n b.pages) (left_count n b.pages) a)) (sym (ap is_free e)) ∙ h.share };
  stores = λ lsn b r e h. record { whole = whole_steps.stores lsn b r e h.whole; share = h.share };
  hands_least = λ lsn offset rest b r u i e q h.
      let w = h.whole.counting.within in
      let x = least_offered offset rest b e w.1 in
      record { whole = whole_steps.hands_least lsn offset rest b r u i e q h.whole; share = least_share lsn offset rest b e x.0 x.1 h.whole.counting.looks h.share };
  hands_tip = λ lsn b r u i e f q l h. record { whole = whole_steps.hands_tip lsn b r u i e f q l h.whole; share = tip_share lsn b e h.whole.counting.within.1 h.share };
  forgets = λ b h. record { whole = whole_steps.forgets b h.whole; share = h.share };
  unlists = λ offset b e h. record { whole = whole_steps.unlists offset b e h.whole; share = h.share };
  pops = λ offset row rows b e q h. record { whole = whole_steps.pops offset row rows b e q h.whole; share = h.share };
}
  where
    least_offered : (offset : ℕ) (rest : List ℕ) (b : Books) → b.free ≡ offset ∷ rest → Within b → (offers b (offset / b.size) ≡ true) × (offset / b.size < length b.segments)
    least_offered offset rest b e w =
        let q = place_parts b.size (length b.segments) offset (and_parts (is_place b.size (length b.segments) offset) _ (subst (λ l. every (is_place b.size (length b.segments)) l ≡ true) e w.free)).0 in
        (ap is_some (ap (find own_key nat_cmp b.free) q.0 ∙ (ap (λ l. find own_key nat_cmp l offset) e ∙ find_first own_key unsigned_lawful offset rest)), q.1)

-- ---- a start: of the segments below n, or below the tip where that is lower
pub record Looked (n : ℕ) (b : Books) : Type 0 where
  pub front : n ≤ b.tip / b.size → count (take n b.segments) ≡ length b.free
  pub all : b.tip / b.size ≤ n → free_below_tip b ≡ length b.free

none_taken : (l : List State) → count (take 0 l) ≡ 0
none_taken [] = refl
none_taken (x ∷ l) = refl

made_looked : (rows : List OrderingRow) (b : Books) → Fresh b → Looked 0 (with_ordering rows b)
made_looked rows b f =
    let z = none_taken b.segments in
    let r : length b.free ≡ 0 = ap length f.free in
    record { front = λ l. omega arith; all = λ l. at (b.tip / b.size) refl l z r }
  where
    at : (k : ℕ) → b.tip / b.size ≡ k → b.tip / b.size ≤ 0 → count (take 0 b.segments) ≡ 0 → length b.free ≡ 0 → free_below_tip b ≡ length b.free
    at k e l z r = let q : b.tip / b.size ≡ 0 = omega arith in ap (λ x. count (take x b.segments)) q ∙ (z ∙ sym r)

-- one segment further
looked_next : (n more : ℕ) (b : Books) (free : List ℕ) → n < length b.segments → b.tip / b.size ≡ length b.segments → one_if (is_free (state_of b n)) ≡ more → length free ≡ length b.free + more → Looked n b → (count (take (suc n) b.segments) ≡ length free) × (b.tip / b.size ≤ suc n → free_below_tip b ≡ length free)
looked_next n more b free l t e g h =
    let c = take_next n b.segments l in
    let f = h.front (omega arith) in
    let done : count (take (suc n) b.segments) ≡ length free = omega arith in
    (done, λ k. let q : b.tip / b.size ≡ suc n = omega arith in ap (λ x. count (take x b.segments)) q ∙ done)

looked_freed : (n : ℕ) (b : Books) → n < length b.segments → is_free (state_of b n) ≡ true → Progress n b → Looked n b → Looked (suc n) (put_free n b)
looked_freed n b l e p h =
    let more = length_insert_new own_key unsigned_lawful b.free (offset_of b n) (new (offers b n) refl) in
    let x = looked_next n 1 b (put_free n b).free l (p.tip l) (ap one_if e) more h in
    record { front = λ k. x.0; all = x.1 }
  where
    new : (t : Bool) → offers b n ≡ t → find own_key nat_cmp b.free (offset_of b n) ≡ None
    new true f = let k = p.listed n f in absurd (omega arith)
    new false f = none_of _ f

looked_passed : (n : ℕ) (b : Books) → n < length b.segments → is_free (state_of b n) ≡ false → Progress n b → Looked n b → Looked (suc n) b
looked_passed n b l e p h =
    let same : length b.free ≡ length b.free + 0 = omega arith in
    let x = looked_next n 0 b b.free l (p.tip l) (ap one_if e) same h in
    record { front = λ k. x.0; all = x.1 }

looked_cut : (n : ℕ) (b : Books) (a : Answer) → can_cut b ≡ true → Counting b → Progress n b → Looked n b → Looked n (lowered b a)
looked_cut n b a c w p h =
    let k = last_offered b c w.within.1 in
    let k1 = k.1 in
    let k2 = k.2 in
    let j = p.listed k.0 k.3 in
    let m = cut_count b k.0 k.1 k.3 w.within.1 w.looks in
    let f = h.all (omega arith) in
    let less = cut_less b c in
    let q : free_below_tip (lowered b a) ≡ count (take k.0 b.segments) = ap (λ x. count (take x b.segments)) k.2 in
    record { front = λ l. absurd (omega arith); all = λ l. omega arith }

pub share_beginning : Beginning (λ b. Recovering b × (b.faults ≡ [])) (λ n b. (Freeing n b × Left n b) × Looked n b) Shared
share_beginning = record {
  begins = whole_beginning.begins;
  recovers = whole_beginning.recovers;
  orders = λ rows b e h. (whole_beginning.orders rows b e h, made_looked rows b h.0.1);
  cuts = λ n b a c h. (whole_beginning.cuts n b a c h.0, looked_cut n b a c h.0.0.0 h.0.0.1 h.1);
  frees = λ n b l e h. (whole_beginning.frees n b l e h.0, looked_freed n b l e h.0.0.1 h.1);
  passes = λ n b l e h. (whole_beginning.passes n b l e h.0, looked_passed n b l e h.0.0.1 h.1);
  ends = λ b e h.
      let t = (end_parts b.size (length b.segments) b.tip h.0.0.0.within.1.tip).1 in
      let a = h.1.all t in
      let z : length b.freeable ≡ 0 = ap length h.0.0.1.freeable in
      record { whole = whole_beginning.ends b e h.0; share = omega arith };
}
