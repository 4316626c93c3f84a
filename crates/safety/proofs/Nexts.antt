-- Next keeps the invariant: the first free offset, or the tip, is handed out.
use Rattle.std.proofs.Common.{◌≡◌, ℕ, suc, ◌+◌, ◌*◌, ◌/◌, ◌<◌, ◌≤◌, Bool, true, false, cond, not, ◌&&◌, eqb, ltb, ◌⊎◌, List, [], ◌∷◌, ◌++◌, length, get_or, set, ℤ, pos, is_some, None, sym, refl, ap, ◌∙◌, subst, inl, inr, suc-mul, mul-div_cancel, arith}
use mathlib.Core.Path.{fun_ext}
use Rattle.std.specs.Ordering.{is_lt, nat_cmp, int_cmp}
use Rattle.std.proofs.lemmas.Bool.{cases_eq, cases_lt, eqb-true, and_parts, ltb-true, ltb-false}
use Rattle.std.proofs.lemmas.List.{get_or-set_same, get_or-set_other, get_or_push, get_or_append_left, get_or_past, length-set, length_push}
use Rattle.table.specs.Order.{unsigned_lawful, signed_lawful}
use Rattle.table.specs.Rows.{every, find, insert_row, ascending, own_key}
use Rattle.table.proofs.Laws.{ascending_insert, find_first}
use Rattle.segment.specs.Changes.{opened}
use Rattle.segment.specs.Rows.{ordering_key}
use Rattle.segment.specs.declared.state.State.{State}
use Rattle.segment.specs.declared.state.State.TheVariants as is
use Rattle.rules.specs.Books.{Books, books, unused, segment_of}
use Rattle.rules.specs.HandingOut.{entered, rest_of, risen}
use Rattle.rules.specs.Pages.{is_in}
use Rattle.rules.specs.Recount.{upd}
use Rattle.safety.proofs.Plain.{seg_is_free, is_none, Count, told_next, seen, above}
use Rattle.safety.proofs.Views.{view, Holders, Inv, v_next, next_listed, next_tip}
use Rattle.safety.proofs.Looks.{seg_of, on_of, ord_of, row_of, keep_of, seg_set, seg_push, ord_insert, on_rest}
use Rattle.safety.proofs.Counts.{tally, left_in}
use Rattle.safety.proofs.Steps.{Setting, view_of, Positive, Tallied, even, Whole}

-- ---- a segment is entered, in its place or at the end
module _ (segs : List State) (n : ℕ) (z : State) (low : n ≤ length segs) where
  at_end : ltb n (length segs) ≡ false → n ≡ length segs
  at_end e = omega (arith, ltb-false n (length segs) e, low)

  seg_entered_by : (t : Bool) → ltb n (length segs) ≡ t → seg_of (cond t (set segs n z) (segs ++ z ∷ [])) ≡ upd (seg_of segs) n (seen z)
  seg_entered_by true e = seg_set segs n z (ltb-true n (length segs) e)
  seg_entered_by false e = subst (λ k. seg_of (segs ++ z ∷ []) ≡ upd (seg_of segs) k (seen z)) (sym (at_end e)) (seg_push segs z)

  pub seg_entered : seg_of (entered n z segs) ≡ upd (seg_of segs) n (seen z)
  seg_entered = seg_entered_by (ltb n (length segs)) refl

  same_by : (t : Bool) → ltb n (length segs) ≡ t → get_or (cond t (set segs n z) (segs ++ z ∷ [])) n unused ≡ z
  same_by true e = get_or-set_same segs n z unused (ltb-true n (length segs) e)
  same_by false e = get_or_push segs z unused n (sym (at_end e))

  pub entered_same : get_or (entered n z segs) n unused ≡ z
  entered_same = same_by (ltb n (length segs)) refl

  other_by : (t : Bool) → ltb n (length segs) ≡ t → (m : ℕ) → (m ≡ n → ⊥) → get_or (cond t (set segs n z) (segs ++ z ∷ [])) m unused ≡ get_or segs m unused
  other_by true e m ne = get_or-set_other segs n m z unused ne
  other_by false e m ne = on (cases_lt m (length segs))
    where
      on : (m < length segs) ⊎ (length segs ≤ m) → get_or (segs ++ z ∷ []) m unused ≡ get_or segs m unused
      on (inl l) = get_or_append_left segs (z ∷ []) unused m l
      on (inr l) = get_or_past (segs ++ z ∷ []) m unused (far (at_end e)) ∙ sym (get_or_past segs m unused l)
        where
          far : n ≡ length segs → length (segs ++ z ∷ []) ≤ m
          far q = elim (cases_lt (length segs) m) [ inl k ↦ omega (arith, length_push segs z) | inr k ↦ absurd (ne (omega arith)) ]

  pub entered_other : (m : ℕ) → (m ≡ n → ⊥) → get_or (entered n z segs) m unused ≡ get_or segs m unused
  entered_other = other_by (ltb n (length segs)) refl

  more_by : (t : Bool) → ltb n (length segs) ≡ t → (length segs ≤ length (cond t (set segs n z) (segs ++ z ∷ []))) × (n < length (cond t (set segs n z) (segs ++ z ∷ [])))
  more_by true e = let a = length-set segs n z in let b = ltb-true n (length segs) e in (omega arith, omega arith)
  more_by false e = let a = length_push segs z in let b = at_end e in (omega arith, omega arith)

  pub entered_more : (length segs ≤ length (entered n z segs)) × (n < length (entered n z segs))
  entered_more = more_by (ltb n (length segs)) refl

  -- what holds of z and of the others holds of all
  pub entered_all : (P : ℕ → State → Type 0) → P n z → ((m : ℕ) → P m (get_or segs m unused)) → (m : ℕ) → P m (get_or (entered n z segs) m unused)
  entered_all P pz ps m = on (cases_eq m n)
    where
      on : (m ≡ n) ⊎ (m ≡ n → ⊥) → P m (get_or (entered n z segs) m unused)
      on (inl e) = subst (λ k. P k (get_or (entered n z segs) k unused)) (sym e) (subst (P n) (sym entered_same) pz)
      on (inr e) = subst (P m) (sym (entered_other m e)) (ps m)

off_again : (size n : ℕ) → on_of size [] ≡ upd (on_of size []) n false
off_again size n = fun_ext (λ m. on (eqb m n))
  where
    on : (t : Bool) → false ≡ cond t false false
    on true = refl
    on false = refl

-- the books after the offset is handed out, by the free list
abbrev pub handed_as : ℤ → ℕ → Books → List ℕ → Books
handed_as lsn o b free =
    books b.size (entered (segment_of b o) (is.Active (opened lsn)) b.segments) (risen free b.tip b.size) b.stabilized (rest_of free)
    (insert_row ordering_key int_cmp b.ordering (record { lsn = lsn; offset = o })) b.pages b.blobs b.freeable b.listed b.faults

module _ (set_up : Setting) (b : Books) (r : Count) (h : Holders) (l : ℕ) (w : Whole b) (i : Inv (view_of set_up b) r h) (new : ord_of b.size b.ordering l ≡ None) where
  handed_whole : (o : ℕ) (free : List ℕ) (tip : ℕ) → tip ≡ risen free b.tip b.size → o / b.size ≤ length b.segments → tip / b.size ≤ length (entered (o / b.size) (is.Active (opened (pos l))) b.segments) → tip ≡ tip / b.size * b.size → ascending own_key nat_cmp (rest_of free) ≡ true → every (even b.size) (rest_of free) ≡ true → Whole (handed_as (pos l) o b free)
  handed_whole o free tip et low room te up ev = record {
    some = w.some;
    free_up = up;
    ord_up = ascending_insert ordering_key signed_lawful b.ordering (record { lsn = pos l; offset = o }) w.ord_up;
    pages_up = w.pages_up;
    keep_up = w.keep_up;
    room = subst (λ k. k / b.size ≤ length (entered (o / b.size) (is.Active (opened (pos l))) b.segments)) et room;
    tip_even = subst (λ k. k ≡ k / b.size * b.size) et te;
    free_even = ev;
    counts = entered_all b.segments (o / b.size) (is.Active (opened (pos l))) low (λ m s. Tallied s (tally (is_in m) b.pages) (tally (left_in m) b.pages)) tt w.counts;
    signs = entered_all b.segments (o / b.size) (is.Active (opened (pos l))) low (λ m s. Positive s) (refl, refl) w.signs;
    keep_signs = w.keep_signs;
    stored_sign = w.stored_sign;
  }

  pub hand_tip : b.free ≡ [] → Whole (handed_as (pos l) b.tip b []) × Inv (view_of set_up (handed_as (pos l) b.tip b [])) (told_next r l (b.tip / b.size)) h
  hand_tip e =
      let k : ℕ = b.tip / b.size in
      let low : k ≤ length b.segments = w.room in
      let up : b.tip + b.size ≡ suc k * b.size = omega (arith, w.tip_even, suc-mul k b.size) in
      let tips : (b.tip + b.size) / b.size ≡ k + 1 = ap (λ o. o / b.size) up ∙ mul-div_cancel (suc k) w.some ∙ omega arith in
      let more : _ = entered_more b.segments k (is.Active (opened (pos l))) low in
      let same : view_of set_up (handed_as (pos l) b.tip b []) ≡ v_next (view_of set_up b) (k + 1) l k = λ j. view (tips j) (seg_entered b.segments k (is.Active (opened (pos l))) low j) ((off_again b.size k ∙ ap (λ f. upd (on_of b.size f) k false) (sym e)) j) (ord_insert b.size b.ordering l b.tip j) (row_of b.pages) (keep_of b.freeable) (above b.stabilized) set_up.waiting in (
        handed_whole b.tip [] (b.tip + b.size) refl low (omega (arith, tips, more)) (up ∙ ap (λ z. z * b.size) (omega (arith, tips))) refl refl,
        subst (λ v. Inv v (told_next r l k) h) (sym same) (next_tip (view_of set_up b) r h l i new),
      )

  pub hand_first : (x : ℕ) (xs : List ℕ) → b.free ≡ x ∷ xs → Whole (handed_as (pos l) x b (x ∷ xs)) × Inv (view_of set_up (handed_as (pos l) x b (x ∷ xs))) (told_next r l (x / b.size)) h
  hand_first x xs e =
      let n : ℕ = x / b.size in
      let fu : ascending own_key nat_cmp (x ∷ xs) ≡ true = subst (λ f. ascending own_key nat_cmp f ≡ true) e w.free_up in
      let fe : _ = and_parts (even b.size x) (every (even b.size) xs) (subst (λ f. every (even b.size) f ≡ true) e w.free_even) in
      let ex : x ≡ n * b.size = eqb-true x (n * b.size) fe.0 in
      let on : on_of b.size b.free n ≡ true = ap (λ f. on_of b.size f n) e ∙ ap (λ o. is_some (find own_key nat_cmp (x ∷ xs) o)) (sym ex) ∙ ap is_some (find_first own_key unsigned_lawful x xs) in
      let under : n < b.tip / b.size = ltb-true n (b.tip / b.size) (and_parts (ltb n (b.tip / b.size)) (seg_is_free (seg_of b.segments n) && (is_none (h n) && not (set_up.waiting n))) (sym (i.exact n) ∙ on)).0 in
      let low : n ≤ length b.segments = omega (arith, w.room) in
      let more : _ = entered_more b.segments n (is.Active (opened (pos l))) low in
      let rest : on_of b.size xs ≡ upd (on_of b.size b.free) n false = on_rest b.size n xs w.some (subst (λ k. ascending own_key nat_cmp (k ∷ xs) ≡ true) ex fu) ∙ ap (λ f. upd (on_of b.size f) n false) (ap (λ k. k ∷ xs) (sym ex) ∙ sym e) in
      let same : view_of set_up (handed_as (pos l) x b (x ∷ xs)) ≡ v_next (view_of set_up b) (b.tip / b.size) l n = λ j. view (b.tip / b.size) (seg_entered b.segments n (is.Active (opened (pos l))) low j) (rest j) (ord_insert b.size b.ordering l x j) (row_of b.pages) (keep_of b.freeable) (above b.stabilized) set_up.waiting in (
        handed_whole x (x ∷ xs) b.tip refl low (omega (arith, more, w.room)) w.tip_even (and_parts (every (λ (y : ℕ). is_lt (nat_cmp x y)) xs) (ascending own_key nat_cmp xs) fu).1 fe.1,
        subst (λ v. Inv v (told_next r l n) h) (sym same) (next_listed (view_of set_up b) r h l n i on new),
      )
