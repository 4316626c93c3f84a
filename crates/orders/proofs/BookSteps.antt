-- Order, bounds, look-ups and counts are kept together by every step.
use Rattle.std.proofs.Common.{◌≡◌, ℕ, ◌/◌, ◌≤◌, true, ◌⊎◌, List, ◌∷◌, length, ℤ, is_some, Some, None, Option, sym, refl, ap, ◌∙◌, subst, inl, inr, true≢false, arith}
use Rattle.std.specs.List.{ContainsAt as Has}
use Rattle.std.proofs.lemmas.List.{get_or-set_same}
use Rattle.std.proofs.lemmas.Bool.{and_parts, cases_eq}
use Rattle.table.specs.Rows.{every, remove_row}
use Rattle.table.proofs.Laws.{has_find}
use Rattle.segment.specs.Rows.{freeable_key, by_signed}
use Rattle.segment.specs.declared.rows.FreeableRow.{FreeableRow}
use Rattle.segment.specs.Bases.{base_of}
use Rattle.segment.specs.Changes.{closed, drained, emptied, opened}
use Rattle.segment.specs.Updates.{linked, taken}
use Rattle.segment.specs.declared.cache_info.CacheInfo.{CacheInfo}
use Rattle.segment.specs.declared.state.Draining.{Draining}
use Rattle.segment.specs.declared.state.State.TheVariants as is
use Rattle.rules.specs.Books.{Books, with_freeable, unused, state_of}
use Rattle.rules.specs.Cleaning.{emptied_at}
use Rattle.rules.specs.Links.{info_segment, link_refusal, link_of, linked_state}
use Rattle.rules.specs.Pages.{page_count, left_count}
use Rattle.rules.specs.HandingOut.{handed_out}
use Rattle.rules.specs.Stabilizing.{is_free, number_of_lsn}
use Rattle.orders.specs.Ordered.{Ordered}
use Rattle.orders.specs.Within.{Within, KeptWithin, is_place}
use Rattle.orders.specs.Looks.{label, Looks}
use Rattle.orders.specs.Counts.{Counted, Counts, Counting, Bounded}
use Rattle.orders.specs.Always.{IfAny}
use Rattle.orders.proofs.Steps.{Steps, Beginning}
use Rattle.orders.proofs.Every.{place_parts, end_parts}
use Rattle.orders.proofs.Replaces.{or_else_none, accepted_active, reached}
use Rattle.orders.proofs.Stabilizes.{signed_laws}
use Rattle.orders.proofs.Bounds.{size_positive}
use Rattle.orders.proofs.BoundStarts.{within_steps, within_beginning}
use Rattle.orders.proofs.LookSteps.{state_looks, linked_label, taken_label, lowered_looks, settled_looks, held_looks, number_at_is, released_looks, entered_state, least_looks, tip_looks}
use Rattle.orders.proofs.Counting.{counts_set, freed_counts, drained_counts, linked_counts, taken_counts, popped_counts, counts_bound}
use Rattle.orders.proofs.Fresh.{Fresh, begins_fresh, recovered_fresh, made_looks, fresh_counts, Progress, made_progress, freed_progress, passed_progress, lowered_progress}

emptied_counts : (n : ℕ) (d : Draining) (b : Books) → Counts b → Counts (emptied_at n d b)
emptied_counts n d b h = counts_set n (is.Free (emptied d)) b.pages b tt (λ m q. (refl, refl)) h

-- segment n is entered, Active, and all others stay
handed_counts : (lsn : ℤ) (offset : ℕ) (b : Books) → offset / b.size ≤ length b.segments → Counts b → Counts (handed_out lsn offset b)
handed_counts lsn offset b l h m = on (cases_eq m (offset / b.size))
  where
    s : (state_of (handed_out lsn offset b) (offset / b.size) ≡ is.Active (opened lsn)) × ((m : ℕ) → (m ≡ offset / b.size → ⊥) → state_of (handed_out lsn offset b) m ≡ state_of b m)
    s = entered_state (offset / b.size) (is.Active (opened lsn)) b.segments l

    on : (m ≡ offset / b.size) ⊎ (m ≡ offset / b.size → ⊥) → Counted (state_of (handed_out lsn offset b) m) (page_count m b.pages) (left_count m b.pages)
    on (inl q) = subst (λ x. Counted x (page_count m b.pages) (left_count m b.pages)) (sym (ap (state_of (handed_out lsn offset b)) q ∙ s.0)) tt
    on (inr q) = subst (λ x. Counted x (page_count m b.pages) (left_count m b.pages)) (sym (s.1 m q)) (h m)

link_counts : (p : ℕ) (info : CacheInfo) (b : Books) → link_refusal b p info ≡ None → Counts b → Counts (link_of p info b)
link_counts p info b e h =
    let n : ℕ = info_segment b info in
    let x = accepted_active b n p info.log_size (base_of b.size info.lsn) (state_of b n) (or_else_none _ _ e).1 in
    linked_counts n p (linked_state info.log_size (state_of b n)) (linked info.log_size x.0) b (ap (linked_state info.log_size) x.1) h

emptied_free : (n : ℕ) (d : Draining) (b : Books) → state_of b n ≡ is.Draining d → is_free (state_of (emptied_at n d b) n) ≡ true
emptied_free n d b e = ap is_free (get_or-set_same b.segments n (is.Free (emptied d)) unused (reached b.segments n (is.Draining d) e (λ q. let z : ◌≡◌ {A = ℕ} 0 1 = cc in omega arith)))

released_free : (row : FreeableRow) (b : Books) → Has b.freeable row → Ordered b → Looks b → is_free (state_of b (number_of_lsn b row.lsn)) ≡ true
released_free row b m o h =
    let x = h.held row.segment row.lsn (ap is_some (has_find freeable_key signed_laws b.freeable row o.freeable m)) in
    ap (λ n. is_free (state_of b n)) (number_at_is b row.lsn x.0 x.1) ∙ x.2

pub least_reached : (offset : ℕ) (rest : List ℕ) (b : Books) → b.free ≡ offset ∷ rest → Within b → offset / b.size ≤ length b.segments
least_reached offset rest b e w =
    let q = (place_parts b.size (length b.segments) offset (and_parts (is_place b.size (length b.segments) offset) _ (subst (λ l. every (is_place b.size (length b.segments)) l ≡ true) e w.free)).0).1 in
    omega arith

pub book_steps : Steps Counting
book_steps = record {
  ordered = λ b h. h.within.0;
  cuts = λ b a c h. record { within = within_steps.cuts b a c h.within; looks = lowered_looks b a h.within.0 h.within.1 c h.looks; counts = h.counts };
  drains = λ n i b e h. record { within = within_steps.drains n i b e h.within; looks = state_looks n (is.Draining (drained i)) b (sym (ap label e)) (λ f. absurd (true≢false (sym f ∙ ap is_free e))) h.looks; counts = drained_counts n i b e h.counts };
  holds = λ n d t b e f g h. record { within = within_steps.holds n d t b e f g h.within; looks = held_looks n d b e h.looks t; counts = emptied_counts n d b h.counts };
  frees = λ n d b e f g h. record { within = within_steps.frees n d b e f g h.within; looks = settled_looks n d b e h.looks h.within.0 h.within.1; counts = freed_counts n (emptied_at n d b) (emptied_free n d b e) (emptied_counts n d b h.counts) };
  links = λ p info b r e h.
      let l = linked_label info.log_size (state_of b (info_segment b info)) in
      record { within = within_steps.links p info b r e h.within; looks = state_looks (info_segment b info) (linked_state info.log_size (state_of b (info_segment b info))) b l.0 (λ f. l.1 ∙ f) h.looks; counts = link_counts p info b e h.counts };
  gives = λ olds new a b e f h. record { within = within_steps.gives olds new a b e f h.within; looks = h.looks; counts = h.counts };
  takes = λ n p base size b r e h.
      let l = taken_label base size (state_of b n) in
      record { within = within_steps.takes n p base size b r e h.within; looks = state_looks n (taken base size (state_of b n)) b l.0 (λ f. l.1 ∙ f) h.looks; counts = taken_counts n p base size b e h.counts };
  removes = λ n b h. record { within = within_steps.removes n b h.within; looks = h.looks; counts = h.counts };
  releases = λ row b m h. record { within = within_steps.releases row b m h.within; looks = released_looks row b m h.within.0 h.within.1 h.looks; counts = freed_counts (number_of_lsn b row.lsn) (with_freeable (remove_row freeable_key by_signed b.freeable (row.segment, row.lsn)) b) (released_free row b m h.within.0 h.looks) h.counts };
  closes = λ n a b e h. record { within = within_steps.closes n a b e h.within; looks = state_looks n (is.Inactive (closed (page_count n b.pages) (left_count n b.pages) a)) b (sym (ap label e)) (λ f. absurd (true≢false (sym f ∙ ap is_free e))) h.looks; counts = counts_set n (is.Inactive (closed (page_count n b.pages) (left_count n b.pages) a)) b.pages b (refl, refl) (λ m q. (refl, refl)) h.counts };
  stores = λ lsn b r e h. record { within = within_steps.stores lsn b r e h.within; looks = h.looks; counts = h.counts };
  hands_least = λ lsn offset rest b r u i e q h. record { within = within_steps.hands_least lsn offset rest b r u i e q h.within; looks = least_looks lsn offset rest b i e h.within.0 h.within.1 h.looks; counts = handed_counts lsn offset b (least_reached offset rest b e h.within.1) h.counts };
  hands_tip = λ lsn b r u i e f q l h. record { within = within_steps.hands_tip lsn b r u i e f q l h.within; looks = tip_looks lsn b i e h.within.1 h.looks; counts = handed_counts lsn b.tip b (end_parts b.size (length b.segments) b.tip h.within.1.tip).1 h.counts };
  forgets = λ b h. record { within = within_steps.forgets b h.within; looks = h.looks; counts = h.counts };
  unlists = λ offset b e h. record { within = within_steps.unlists offset b e h.within; looks = h.looks; counts = h.counts };
  pops = λ offset row rows b e q h. record { within = within_steps.pops offset row rows b e q h.within; looks = h.looks; counts = popped_counts _ row rows b q h.within.0 h.counts };
}

-- while rows are recovered, and while segments are freed
abbrev pub Recovering : Books → Type 0
Recovering b = KeptWithin b × Fresh b

abbrev pub Freeing : ℕ → Books → Type 0
Freeing n b = Counting b × Progress n b

pub book_beginning : Beginning Recovering Freeing Counting
book_beginning = record {
  begins = λ s slot extent e. (within_beginning.begins s slot extent e, begins_fresh s extent);
  recovers = λ header p row b r e h. (within_beginning.recovers header p row b r e h.0, recovered_fresh header p row b h.1);
  orders = λ rows b e h.
      let v = within_beginning.orders rows b e h.0 in
      (record { within = v; looks = made_looks rows b e h.1 h.0.1 v.1; counts = fresh_counts b h.1.states }, made_progress rows b h.1 (size_positive b h.0.1));
  cuts = λ n b a c h. (book_steps.cuts b a c h.0, lowered_progress n b a c h.0.within.0 h.0.within.1 h.1);
  frees = λ n b l e h.
      let x = freed_progress n b l e h.0.within.0 h.0.within.1 h.0.looks h.1 in
      (record { within = within_beginning.frees n b l e h.0.within; looks = x.0; counts = freed_counts n b e h.0.counts }, x.1);
  passes = λ n b l e h. (h.0, passed_progress n b l h.1);
  ends = λ b e h. h.0;
}

pub bounded_if_any : (o : Option Books) → IfAny Counting o → IfAny Bounded o
bounded_if_any None h = tt
bounded_if_any (Some b) h = record { counting = h; bounded = counts_bound b h.within.1 h.counts }
