-- Every step of an accountant at work keeps what the look-ups say of each other.
use Rattle.std.proofs.Common.{◌≡◌, ℕ, zero, suc, ◌+◌, ◌-◌, ◌*◌, ◌/◌, ◌<◌, ◌≤◌, Bool, true, false, cond, not, eqb, ltb, ◌⊎◌, List, [], ◌∷◌, ◌++◌, length, get_or, set, ℤ, is_some, Some, None, Option, Less, Equal, sym, refl, ap, ◌∙◌, subst, inl, inr, true≢false, mul-div_cancel, arith}
use Rattle.std.specs.Option.{option_map}
use Rattle.std.specs.Ordering.{is_lt, nat_cmp, int_cmp}
use Rattle.std.specs.List.{ContainsAt as Has}
use Rattle.std.proofs.lemmas.List.{get_or-set_same, get_or-set_other}
use Rattle.std.proofs.lemmas.Bool.{and_parts, eqb-false, not-true, cases_eq, ltb-true, ltb-false}
use Rattle.table.specs.Order.{unsigned_lawful, signed_lawful}
use Rattle.table.specs.Rows.{every, ascending, find, remove_row, own_key}
use Rattle.table.proofs.Laws.{ascending_remove, find_insert_same, find_insert_other, find_remove_same, find_remove_other, find_key, find_has, has_find, find_first, find_tail}
use Rattle.table.proofs.Orders.{rank_same}
use Rattle.host.specs.Meaning.{Answer}
use Rattle.segment.specs.Changes.{emptied, opened}
use Rattle.segment.specs.Rows.{ordering_key, freeable_key, by_signed}
use Rattle.segment.specs.Updates.{taken}
use Rattle.segment.specs.declared.rows.FreeableRow.{FreeableRow}
use Rattle.segment.specs.declared.rows.OrderingRow.{OrderingRow}
use Rattle.segment.specs.declared.state.Draining.{Draining}
use Rattle.segment.specs.declared.state.State.{State}
use Rattle.segment.specs.declared.state.State.TheVariants as is
use Rattle.rules.specs.Books.{Books, with_segments, with_freeable, unused, state_of, segment_of, offset_of}
use Rattle.rules.specs.Freeing.{without_lsn, unordered, put_free, is_free_offset, can_cut, lowered}
use Rattle.rules.specs.Cleaning.{emptied_at, held_by}
use Rattle.rules.specs.Links.{linked_state}
use Rattle.rules.specs.Stabilizing.{is_free, number_at, number_of_lsn}
use Rattle.rules.specs.HandingOut.{in_use, entered, rest_of, risen, handed_out}
use Rattle.orders.specs.Ordered.{Ordered}
use Rattle.orders.specs.Within.{Within, is_place}
use Rattle.orders.specs.Looks.{label, ordered_at, holds_back, offers, Looking, Looks}
use Rattle.orders.proofs.Every.{place_parts, end_parts, suc_times, last_place}
use Rattle.orders.proofs.Bounds.{size_positive}
use Rattle.orders.proofs.Replaces.{reached}
use Rattle.orders.proofs.Stabilizes.{signed_laws}
use Rattle.orders.proofs.Orders.{states_up, freeable_up}
use Rattle.orders.proofs.Looking.{cases_lsn, restated, holding, releasing, freeing, cutting, handing}

-- ---- one state changed
pub set_either : (l : List State) (n : ℕ) (s : State) (m : ℕ) → ((m ≡ n) × (get_or (set l n s) m unused ≡ s)) ⊎ (get_or (set l n s) m unused ≡ get_or l m unused)
set_either [] n s m = inr refl
set_either (x ∷ l) zero s zero = inl (refl, refl)
set_either (x ∷ l) zero s (suc m) = inr refl
set_either (x ∷ l) (suc n) s zero = inr refl
set_either (x ∷ l) (suc n) s (suc m) = on (set_either l n s m)
  where
    on : ((m ≡ n) × (get_or (set l n s) m unused ≡ s)) ⊎ (get_or (set l n s) m unused ≡ get_or l m unused) → ((suc m ≡ suc n) × (get_or (set l n s) m unused ≡ s)) ⊎ (get_or (set l n s) m unused ≡ get_or l m unused)
    on (inl e) = inl (ap suc e.0, e.1)
    on (inr e) = inr e

pub state_looks : (n : ℕ) (s : State) (b : Books) → label s ≡ label (state_of b n) → (is_free (state_of b n) ≡ true → is_free s ≡ true) → Looks b → Looks (with_segments (set b.segments n s) b)
state_looks n s b e f h = restated h (state_of (with_segments (set b.segments n s) b)) (λ m. same m (set_either b.segments n s m)) (λ m. grows m (set_either b.segments n s m))
  where
    same : (m : ℕ) → ((m ≡ n) × (get_or (set b.segments n s) m unused ≡ s)) ⊎ (get_or (set b.segments n s) m unused ≡ get_or b.segments m unused) → label (get_or (set b.segments n s) m unused) ≡ label (state_of b m)
    same m (inl q) = ap label q.1 ∙ (e ∙ ap (λ x. label (state_of b x)) (sym q.0))
    same m (inr q) = ap label q

    grows : (m : ℕ) → ((m ≡ n) × (get_or (set b.segments n s) m unused ≡ s)) ⊎ (get_or (set b.segments n s) m unused ≡ get_or b.segments m unused) → is_free (state_of b m) ≡ true → is_free (get_or (set b.segments n s) m unused) ≡ true
    grows m (inl q) g = ap is_free q.1 ∙ f (ap (λ x. is_free (state_of b x)) (sym q.0) ∙ g)
    grows m (inr q) g = ap is_free q ∙ g

pub linked_label : (size : ℕ) (s : State) → (label (linked_state size s) ≡ label s) × (is_free (linked_state size s) ≡ is_free s)
linked_label size (is.Free f) = (refl, refl)
linked_label size (is.Active a) = (refl, refl)
linked_label size (is.Inactive i) = (refl, refl)
linked_label size (is.Draining d) = (refl, refl)

pub taken_label : (base : ℤ) (size : ℕ) (s : State) → (label (taken base size s) ≡ label s) × (is_free (taken base size s) ≡ is_free s)
taken_label base size (is.Free f) = (refl, refl)
taken_label base size (is.Active a) = (refl, refl)
taken_label base size (is.Inactive i) = (refl, refl)
taken_label base size (is.Draining d) = (refl, refl)

-- ---- freeing
some_is : {X : Type 0} (o : Option X) → is_some o ≡ true → (x : X) × (o ≡ Some x)
some_is None h = absurd (true≢false (sym h))
some_is (Some x) h = (x, refl)

same_place : (size m n : ℕ) → 0 < size → m * size ≡ n * size → m ≡ n
same_place size m n l e = sym (mul-div_cancel m l) ∙ (ap (λ x. x / size) e ∙ mul-div_cancel n l)

pub freed_looks : (n : ℕ) (b : Books) → Ordered b → 0 < b.size → is_free (state_of b n) ≡ true → n < b.tip / b.size → ((lsn : ℤ) → label (state_of b n) ≡ Some lsn → ordered_at b lsn ≡ Some n) → ((u : ℕ) (lsn : ℤ) → holds_back b u lsn ≡ true → ordered_at b lsn ≡ Some n → ⊥) → Looks b → Looks (put_free n b)
freed_looks n b o l f low mine none h =
    freeing h n (ordered_at (put_free n b)) (offers (put_free n b)) f low (λ lsn m e. from (state_of b n) refl lsn m e) (λ lsn m e q. into (state_of b n) refl lsn m e q) none (λ m e. joins m (cases_eq m n) e)
  where
    at : List OrderingRow → ℤ → Option ℕ
    at rows lsn = option_map (λ (row : OrderingRow). segment_of b row.offset) (find ordering_key int_cmp rows lsn)

    from_by : (former : Option ℤ) → label (state_of b n) ≡ former → (lsn : ℤ) (m : ℕ) → at (without_lsn former b.ordering) lsn ≡ Some m → (ordered_at b lsn ≡ Some m) × (m ≡ n → ⊥)
    from_by None e lsn m g = (g, λ q. let z : ◌≡◌ {A = ℕ} 0 1 = cc (h.named lsn m g, ap (λ x. label (state_of b x)) q) in omega arith)
    from_by (Some former) e lsn m g = on (cases_lsn lsn former)
      where
        on : (lsn ≡ former) ⊎ (lsn ≡ former → ⊥) → (ordered_at b lsn ≡ Some m) × (m ≡ n → ⊥)
        on (inl q) =
            let gone : at (remove_row ordering_key int_cmp b.ordering former) lsn ≡ None = ap (at (remove_row ordering_key int_cmp b.ordering former)) q ∙ ap (option_map (λ (row : OrderingRow). segment_of b row.offset)) (find_remove_same ordering_key signed_lawful b.ordering former o.ordering) in
            let z : ◌≡◌ {A = ℕ} 0 1 = cc in absurd (omega arith)
        on (inr q) =
            let stays : at (remove_row ordering_key int_cmp b.ordering former) lsn ≡ ordered_at b lsn = ap (option_map (λ (row : OrderingRow). segment_of b row.offset)) (find_remove_other ordering_key signed_lawful b.ordering former lsn o.ordering (λ r. q (sym r))) in
            (sym stays ∙ g, λ r. q (let p : Some lsn ≡ Some former = sym (h.named lsn m (sym stays ∙ g)) ∙ (ap (λ x. label (state_of b x)) r ∙ e) in cc))

    from : (s : State) → state_of b n ≡ s → (lsn : ℤ) (m : ℕ) → at (unordered s b.ordering) lsn ≡ Some m → (ordered_at b lsn ≡ Some m) × (m ≡ n → ⊥)
    from (is.Free x) e lsn m g = from_by x.previous_lsn (ap label e) lsn m g
    from (is.Active x) e lsn m g = absurd (true≢false (sym f ∙ ap is_free e))
    from (is.Inactive x) e lsn m g = absurd (true≢false (sym f ∙ ap is_free e))
    from (is.Draining x) e lsn m g = absurd (true≢false (sym f ∙ ap is_free e))

    into_by : (former : Option ℤ) → label (state_of b n) ≡ former → (lsn : ℤ) (m : ℕ) → ordered_at b lsn ≡ Some m → (m ≡ n → ⊥) → at (without_lsn former b.ordering) lsn ≡ Some m
    into_by None e lsn m g q = g
    into_by (Some former) e lsn m g q =
        ap (option_map (λ (row : OrderingRow). segment_of b row.offset)) (find_remove_other ordering_key signed_lawful b.ordering former lsn o.ordering (λ r. q (let p : Some m ≡ Some n = sym g ∙ (ap (ordered_at b) (sym r) ∙ mine former e) in cc))) ∙ g

    into : (s : State) → state_of b n ≡ s → (lsn : ℤ) (m : ℕ) → ordered_at b lsn ≡ Some m → (m ≡ n → ⊥) → at (unordered s b.ordering) lsn ≡ Some m
    into (is.Free x) e lsn m g q = into_by x.previous_lsn (ap label e) lsn m g q
    into (is.Active x) e lsn m g q = absurd (true≢false (sym f ∙ ap is_free e))
    into (is.Inactive x) e lsn m g q = absurd (true≢false (sym f ∙ ap is_free e))
    into (is.Draining x) e lsn m g q = absurd (true≢false (sym f ∙ ap is_free e))

    joins : (m : ℕ) → (m ≡ n) ⊎ (m ≡ n → ⊥) → offers (put_free n b) m ≡ true → (m ≡ n) ⊎ (offers b m ≡ true)
    joins m (inl q) e = inl q
    joins m (inr q) e = inr (ap is_some (sym (find_insert_other own_key unsigned_lawful b.free (offset_of b n) (offset_of b m) (λ r. q (sym (same_place b.size n m l r))))) ∙ e)

pub lowered_looks : (b : Books) (a : Answer) → Ordered b → Within b → can_cut b ≡ true → Looks b → Looks (lowered b a)
lowered_looks b a o w c h =
    let t = end_parts b.size (length b.segments) b.tip w.tip in
    let nonzero = eqb-false b.tip 0 (not-true _ (and_parts (not (eqb b.tip 0)) _ c).0) in
    let is_on = (and_parts (ltb 1 (length b.free)) (is_free_offset b (b.tip - b.size)) (and_parts (not (eqb b.tip 0)) _ c).1).1 in
    let k = last_place (b.tip / b.size) b.size b.tip t.0 nonzero in
    let l = size_positive b w in
    let below : (b.tip - b.size) / b.size ≡ k.0 = ap (λ x. x / b.size) k.2 ∙ mul-div_cancel k.0 l in
    subst (λ x. Looking (state_of b) (ordered_at b) (holds_back b) (offers (lowered b a)) x) (sym below)
    (cutting h k.0 (offers (lowered b a)) k.1 (subst (λ x. is_free_offset b x ≡ true) k.2 is_on) (λ m e. left k.0 l k.2 m e (cases_eq m k.0)))
  where
    left : (last : ℕ) → 0 < b.size → b.tip - b.size ≡ last * b.size → (m : ℕ) → offers (lowered b a) m ≡ true → (m ≡ last) ⊎ (m ≡ last → ⊥) → (offers b m ≡ true) × (m ≡ last → ⊥)
    left last l e m g (inl q) =
        let same : b.tip - b.size ≡ offset_of b m = e ∙ ap (λ x. x * b.size) (sym q) in
        absurd (true≢false (sym g ∙ ap is_some (ap (find own_key nat_cmp (remove_row own_key nat_cmp b.free (b.tip - b.size))) (sym same) ∙ find_remove_same own_key unsigned_lawful b.free (b.tip - b.size) o.free)))
    left last l e m g (inr q) =
        (ap is_some (sym (find_remove_other own_key unsigned_lawful b.free (b.tip - b.size) (offset_of b m) o.free (λ r. q (same_place b.size m last l (sym r ∙ e))))) ∙ g, q)

-- ---- emptied segments: held back, or freed
module _ (n : ℕ) (d : Draining) (b : Books) (e : state_of b n ≡ is.Draining d) (h : Looks b) where
  pub emptied_looks : Looks (emptied_at n d b)
  emptied_looks = state_looks n (is.Free (emptied d)) b (sym (ap label e)) (λ f. absurd (true≢false (sym f ∙ ap is_free e))) h

  emptied_state : state_of (emptied_at n d b) n ≡ is.Free (emptied d)
  emptied_state = get_or-set_same b.segments n (is.Free (emptied d)) unused (reached b.segments n (is.Draining d) e (λ q. let z : ◌≡◌ {A = ℕ} 0 1 = cc in omega arith))

  draining_place : ordered_at b d.lsn ≡ Some n
  draining_place = h.entered n d.lsn (ap is_free e) (ap label e)

  draining_free : (u : ℕ) (lsn : ℤ) → holds_back b u lsn ≡ true → ordered_at b lsn ≡ Some n → ⊥
  draining_free u lsn g p =
      let x = h.held u lsn g in
      let m : x.0 ≡ n = let q : Some x.0 ≡ Some n = sym x.1 ∙ p in cc in
      true≢false (sym x.2 ∙ (ap (λ k. is_free (state_of b k)) m ∙ ap is_free e))

  pub settled_looks : Ordered b → Within b → Looks (put_free n (emptied_at n d b))
  settled_looks o w =
      freed_looks n (emptied_at n d b) (states_up (emptied_at n d b).segments b o) (size_positive b w) (ap is_free emptied_state) (h.low d.lsn n draining_place)
      (λ lsn g. ap (ordered_at b) (let q : Some lsn ≡ Some d.lsn = sym g ∙ ap label emptied_state in cc) ∙ draining_place) draining_free emptied_looks

  pub held_looks : (t : ℕ) → Looks (held_by t d.lsn (emptied_at n d b))
  held_looks t = holding emptied_looks t n d.lsn (holds_back (held_by t d.lsn (emptied_at n d b))) draining_place (ap is_free emptied_state) (λ u g. draining_free u d.lsn g draining_place) (λ u l g. from u l g (cases_eq u t) (cases_lsn l d.lsn))
    where
      row : FreeableRow
      row = record { segment = t; lsn = d.lsn }

      other : (u : ℕ) (l : ℤ) → (freeable_key row ≡ (u, l) → ⊥) → holds_back (held_by t d.lsn (emptied_at n d b)) u l ≡ true → holds_back b u l ≡ true
      other u l q g = ap is_some (sym (find_insert_other freeable_key signed_laws b.freeable row (u, l) q)) ∙ g

      from : (u : ℕ) (l : ℤ) → holds_back (held_by t d.lsn (emptied_at n d b)) u l ≡ true → (u ≡ t) ⊎ (u ≡ t → ⊥) → (l ≡ d.lsn) ⊎ (l ≡ d.lsn → ⊥) → ((u ≡ t) × (l ≡ d.lsn)) ⊎ (holds_back b u l ≡ true)
      from u l g (inl p) (inl q) = inl (p, q)
      from u l g (inl p) (inr q) = inr (other u l (λ r. q (sym (ap (λ (k : ℕ × ℤ). k.1) r))) g)
      from u l g (inr p) q = inr (other u l (λ r. p (sym (ap (λ (k : ℕ × ℤ). k.0) r))) g)

-- ---- releasing
pub number_at_is : (b : Books) (lsn : ℤ) (n : ℕ) → ordered_at b lsn ≡ Some n → number_of_lsn b lsn ≡ n
number_at_is b lsn n e = on (find ordering_key int_cmp b.ordering lsn) e
  where
    on : (o : Option OrderingRow) → option_map (λ (row : OrderingRow). segment_of b row.offset) o ≡ Some n → number_at b o ≡ n
    on None g = let z : ◌≡◌ {A = ℕ} 0 1 = cc in absurd (omega arith)
    on (Some row) g = cc

-- the row alone goes
pub releasing_looks : (row : FreeableRow) (b : Books) → Ordered b → Looks b → Looks (with_freeable (remove_row freeable_key by_signed b.freeable (row.segment, row.lsn)) b)
releasing_looks row b o h = releasing h (holds_back (with_freeable (remove_row freeable_key by_signed b.freeable (row.segment, row.lsn)) b)) (λ u l g. on u l g (cases_eq u row.segment) (cases_lsn l row.lsn))
  where
    rows : List FreeableRow
    rows = remove_row freeable_key by_signed b.freeable (row.segment, row.lsn)

    other : (u : ℕ) (l : ℤ) → (freeable_key row ≡ (u, l) → ⊥) → is_some (find freeable_key by_signed rows (u, l)) ≡ true → holds_back b u l ≡ true
    other u l q g = ap is_some (sym (find_remove_other freeable_key signed_laws b.freeable (row.segment, row.lsn) (u, l) o.freeable q)) ∙ g

    on : (u : ℕ) (l : ℤ) → is_some (find freeable_key by_signed rows (u, l)) ≡ true → (u ≡ row.segment) ⊎ (u ≡ row.segment → ⊥) → (l ≡ row.lsn) ⊎ (l ≡ row.lsn → ⊥) → holds_back b u l ≡ true
    on u l g (inl p) (inl q) = absurd (true≢false (sym g ∙ ap is_some ((λ i. find freeable_key by_signed rows (p i, q i)) ∙ find_remove_same freeable_key signed_laws b.freeable (row.segment, row.lsn) o.freeable)))
    on u l g (inl p) (inr q) = other u l (λ r. q (sym (ap (λ (k : ℕ × ℤ). k.1) r))) g
    on u l g (inr p) q = other u l (λ r. p (sym (ap (λ (k : ℕ × ℤ). k.0) r))) g

pub released_looks : (row : FreeableRow) (b : Books) → Has b.freeable row → Ordered b → Within b → Looks b → Looks (put_free (number_of_lsn b row.lsn) (with_freeable (remove_row freeable_key by_signed b.freeable (row.segment, row.lsn)) b))
released_looks row b m o w h =
    let mine : holds_back b row.segment row.lsn ≡ true = ap is_some (has_find freeable_key signed_laws b.freeable row o.freeable m) in
    let x = h.held row.segment row.lsn mine in
    let named = h.named row.lsn x.0 x.1 in
    let only : (lsn : ℤ) → label (state_of b x.0) ≡ Some lsn → lsn ≡ row.lsn = λ lsn g. same_lsn lsn row.lsn (label (state_of b x.0)) g named in
    subst (λ k. Looks (put_free k c)) (sym (number_at_is b row.lsn x.0 x.1))
    (freed_looks x.0 c (freeable_up _ b (ascending_remove freeable_key signed_laws b.freeable (row.segment, row.lsn) o.freeable) o) (size_positive b w) x.2 (h.low row.lsn x.0 x.1)
    (λ lsn g. ap (ordered_at b) (only lsn g) ∙ x.1)
    (λ u lsn g p. gone u (subst (λ l. holds_back c u l ≡ true) (only lsn (h.named lsn x.0 p)) g) (h.once u row.segment row.lsn (before u row.lsn (subst (λ l. holds_back c u l ≡ true) (only lsn (h.named lsn x.0 p)) g)) mine))
    (releasing h (holds_back c) before))
  where
    c : Books
    c = with_freeable (remove_row freeable_key by_signed b.freeable (row.segment, row.lsn)) b

    same_lsn : (x y : ℤ) (s : Option ℤ) → s ≡ Some x → s ≡ Some y → x ≡ y
    same_lsn x y s p q = cc

    gone : (u : ℕ) → holds_back c u row.lsn ≡ true → u ≡ row.segment → ⊥
    gone u g q = true≢false (sym g ∙ ap is_some (ap (λ k. find freeable_key by_signed c.freeable (k, row.lsn)) q ∙ find_remove_same freeable_key signed_laws b.freeable (row.segment, row.lsn) o.freeable))

    before : (u : ℕ) (l : ℤ) → holds_back c u l ≡ true → holds_back b u l ≡ true
    before u l g = on (cases_eq u row.segment) (cases_lsn l row.lsn)
      where
        other : (freeable_key row ≡ (u, l) → ⊥) → holds_back b u l ≡ true
        other q = ap is_some (sym (find_remove_other freeable_key signed_laws b.freeable (row.segment, row.lsn) (u, l) o.freeable q)) ∙ g

        on : (u ≡ row.segment) ⊎ (u ≡ row.segment → ⊥) → (l ≡ row.lsn) ⊎ (l ≡ row.lsn → ⊥) → holds_back b u l ≡ true
        on (inl p) (inl q) = absurd (gone u (subst (λ x. holds_back c u x ≡ true) q g) p)
        on (inl p) (inr q) = other (λ r. q (sym (ap (λ (k : ℕ × ℤ). k.1) r)))
        on (inr p) q = other (λ r. p (sym (ap (λ (k : ℕ × ℤ). k.0) r)))

-- ---- next
pushed_state : (l : List State) (s : State) (m : ℕ) → ((m ≡ length l) × (get_or (l ++ s ∷ []) m unused ≡ s)) ⊎ (get_or (l ++ s ∷ []) m unused ≡ get_or l m unused)
pushed_state [] s zero = inl (refl, refl)
pushed_state [] s (suc m) = inr refl
pushed_state (x ∷ l) s zero = inr refl
pushed_state (x ∷ l) s (suc m) = on (pushed_state l s m)
  where
    on : ((m ≡ length l) × (get_or (l ++ s ∷ []) m unused ≡ s)) ⊎ (get_or (l ++ s ∷ []) m unused ≡ get_or l m unused) → ((suc m ≡ length (x ∷ l)) × (get_or (l ++ s ∷ []) m unused ≡ s)) ⊎ (get_or (l ++ s ∷ []) m unused ≡ get_or l m unused)
    on (inl e) = inl (omega (arith, e.0), e.1)
    on (inr e) = inr e

pushed_last : (l : List State) (s : State) → get_or (l ++ s ∷ []) (length l) unused ≡ s
pushed_last [] s = refl
pushed_last (x ∷ l) s = pushed_last l s

pub entered_state : (n : ℕ) (s : State) (l : List State) → n ≤ length l → (get_or (entered n s l) n unused ≡ s) × ((m : ℕ) → (m ≡ n → ⊥) → get_or (entered n s l) m unused ≡ get_or l m unused)
entered_state n s l k = on (ltb n (length l)) refl
  where
    on : (t : Bool) → ltb n (length l) ≡ t → (get_or (cond t (set l n s) (l ++ s ∷ [])) n unused ≡ s) × ((m : ℕ) → (m ≡ n → ⊥) → get_or (cond t (set l n s) (l ++ s ∷ [])) m unused ≡ get_or l m unused)
    on true e = (get_or-set_same l n s unused (ltb-true n (length l) e), λ m q. get_or-set_other l n m s unused q)
    on false e =
        let r = ltb-false n (length l) e in
        let same : n ≡ length l = omega arith in
        (ap (λ k. get_or (l ++ s ∷ []) k unused) same ∙ pushed_last l s, λ m q. either m q same (pushed_state l s m))
      where
        either : (m : ℕ) → (m ≡ n → ⊥) → n ≡ length l → ((m ≡ length l) × (get_or (l ++ s ∷ []) m unused ≡ s)) ⊎ (get_or (l ++ s ∷ []) m unused ≡ get_or l m unused) → get_or (l ++ s ∷ []) m unused ≡ get_or l m unused
        either m q same (inl g) = absurd (q (g.0 ∙ sym same))
        either m q same (inr g) = g

none_is : {X : Type 0} (o : Option X) → is_some o ≡ false → o ≡ None
none_is None h = refl
none_is (Some x) h = absurd (true≢false h)

handed_looks : (lsn : ℤ) (offset : ℕ) (b : Books) → in_use b lsn ≡ false → offset / b.size ≤ length b.segments → ((l : ℤ) → ordered_at b l ≡ Some (offset / b.size) → ⊥) → ((m : ℕ) → is_some (find own_key nat_cmp (rest_of b.free) (m * b.size)) ≡ true → (offers b m ≡ true) × (m ≡ offset / b.size → ⊥)) → offset / b.size < risen b.free b.tip b.size / b.size → b.tip / b.size ≤ risen b.free b.tip b.size / b.size → Looks b → Looks (handed_out lsn offset b)
handed_looks lsn offset b i k alone fewer l wide h =
    let s = entered_state (offset / b.size) (is.Active (opened lsn)) b.segments k in
    handing h (offset / b.size) lsn (state_of (handed_out lsn offset b)) (ordered_at (handed_out lsn offset b)) (offers (handed_out lsn offset b)) (risen b.free b.tip b.size / b.size) alone
    (ap (option_map (λ (row : OrderingRow). segment_of b row.offset)) (none_is (find ordering_key int_cmp b.ordering lsn) i))
    (ap is_free s.0) (ap label s.0) s.1
    (ap (option_map (λ (row : OrderingRow). segment_of b row.offset)) (find_insert_same ordering_key signed_lawful b.ordering (record { lsn = lsn; offset = offset })))
    (λ x q. ap (option_map (λ (row : OrderingRow). segment_of b row.offset)) (find_insert_other ordering_key signed_lawful b.ordering (record { lsn = lsn; offset = offset }) x (λ r. q (sym r))))
    fewer l wide

pub least_looks : (lsn : ℤ) (offset : ℕ) (rest : List ℕ) (b : Books) → in_use b lsn ≡ false → b.free ≡ offset ∷ rest → Ordered b → Within b → Looks b → Looks (handed_out lsn offset b)
least_looks lsn offset rest b i e o w h =
    let q = place_parts b.size (length b.segments) offset (and_parts (is_place b.size (length b.segments) offset) _ (subst (λ l. every (is_place b.size (length b.segments)) l ≡ true) e w.free)).0 in
    let k = q.1 in
    let on : offers b (offset / b.size) ≡ true = ap is_some (ap (find own_key nat_cmp b.free) q.0 ∙ (ap (λ l. find own_key nat_cmp l offset) e ∙ find_first own_key unsigned_lawful offset rest)) in
    let same : risen b.free b.tip b.size ≡ b.tip = ap (λ l. risen l b.tip b.size) e in
    handed_looks lsn offset b i (omega arith) (λ l. h.apart (offset / b.size) l on) (λ m g. fewer q.0 m (subst (λ l. is_some (find own_key nat_cmp (rest_of l) (m * b.size)) ≡ true) e g))
    (subst (λ x. offset / b.size < x / b.size) (sym same) (h.within (offset / b.size) on)) (subst (λ x. b.tip / b.size ≤ x / b.size) (sym same) (omega arith)) h
  where
    up : ascending own_key nat_cmp (offset ∷ rest) ≡ true
    up = subst (λ l. ascending own_key nat_cmp l ≡ true) e o.free

    fewer : offset / b.size * b.size ≡ offset → (m : ℕ) → is_some (find own_key nat_cmp rest (m * b.size)) ≡ true → (offers b m ≡ true) × (m ≡ offset / b.size → ⊥)
    fewer whole m g =
        let x = some_is (find own_key nat_cmp rest (m * b.size)) g in
        let has = find_has own_key unsigned_lawful rest (m * b.size) x.0 x.1 in
        let key : x.0 ≡ m * b.size = find_key own_key unsigned_lawful rest (m * b.size) x.0 x.1 in (
          ap is_some (ap (λ l. find own_key nat_cmp l (m * b.size)) e ∙ (ap (find own_key nat_cmp (offset ∷ rest)) (sym key) ∙ has_find own_key unsigned_lawful (offset ∷ rest) x.0 up (suc has.0, omega (arith, has.1), has.2))),
          λ r. let gone = find_tail own_key unsigned_lawful offset rest (m * b.size) Equal up (rank_same unsigned_lawful offset (m * b.size) (sym (ap (λ k. k * b.size) r ∙ whole))) equal_is_not in true≢false (sym g ∙ ap is_some gone),
        )
      where
        equal_is_not : Equal ≡ Less → ⊥
        equal_is_not q = true≢false (sym (ap is_lt q))

pub tip_looks : (lsn : ℤ) (b : Books) → in_use b lsn ≡ false → b.free ≡ [] → Within b → Looks b → Looks (handed_out lsn b.tip b)
tip_looks lsn b i e w h =
    let t = end_parts b.size (length b.segments) b.tip w.tip in
    let l = size_positive b w in
    let grown : risen b.free b.tip b.size ≡ suc (b.tip / b.size) * b.size = ap (λ x. risen x b.tip b.size) e ∙ (ap (λ m. m + b.size) (sym t.0) ∙ sym (suc_times (b.tip / b.size) b.size)) in
    let next : risen b.free b.tip b.size / b.size ≡ suc (b.tip / b.size) = ap (λ x. x / b.size) grown ∙ mul-div_cancel (suc (b.tip / b.size)) l in
    handed_looks lsn b.tip b i t.1 (λ x g. let z = h.low x (b.tip / b.size) g in omega arith) (λ m g. absurd (true≢false (sym g ∙ ap (λ x. is_some (find own_key nat_cmp (rest_of x) (m * b.size))) e)))
    (subst (λ x. b.tip / b.size < x) (sym next) (omega arith)) (subst (λ x. b.tip / b.size ≤ x) (sym next) (omega arith)) h
