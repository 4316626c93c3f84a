-- Start is made of steps: rows in turn, then the ordering, then the Free segments in turn.
use Rattle.std.proofs.Common.{◌≡◌, ℕ, zero, suc, ◌+◌, ◌<◌, Bool, true, false, cond, not, leb, List, [], ◌∷◌, length, get_or, take, drop, pos, Some, None, Ok, Err, Option, Result, unwrap_or, sym, refl, ap, ◌∙◌, subst, arith}
use Rattle.std.proofs.lemmas.Bool.{and_parts, and_from, or_parts, not-true, not-false}
use Rattle.table.specs.Rows.{every}
use Rattle.host.specs.Meaning.{Answer, asked_fill}
use Rattle.host.specs.declared.request.Request.{Request}
use Rattle.segment.specs.declared.rows.FaultRow.{FaultRow}
use Rattle.segment.specs.declared.rows.OrderingRow.{OrderingRow}
use Rattle.segment.specs.declared.snapshot.PageEntry.{PageEntry}
use Rattle.segment.specs.declared.snapshot.SnapshotRow.{SnapshotRow}
use Rattle.segment.specs.declared.state.State.{State}
use Rattle.rules.specs.declared.refusal.Refusal.{Refusal}
use Rattle.rules.specs.Books.{Books, World, world, unused, state_of, offset_of}
use Rattle.rules.specs.Freeing.{put_free, freed}
use Rattle.rules.specs.Links.{out_of_range, linked_at}
use Rattle.rules.specs.Stabilizing.{is_free}
use Rattle.rules.specs.Starting.{Plan, plan_refusal, segment_count, blank, with_active, stable_out_of_range, lsns_out_of_range, row_refusal, row_segment, row_size, opened_for, recovered_by, recover_row, and_then, recover_rows, recover_pages, order_all, ordered_by, ordered, recovered, fill_by, filled, free_state, then_free, free_all, kept_if, started_by, freed_after, start_by, started}
use Rattle.orders.specs.Always.{IfAny}
use Rattle.orders.proofs.Steps.{Beginning}
use Rattle.orders.proofs.Cleans.{cut_tail_keeps, freed_segments}
use Rattle.orders.proofs.Replaces.{passed}

abbrev in_range : SnapshotRow → Bool
in_range row = not (out_of_range row.lsn)

every_take : (n : ℕ) (rows : List SnapshotRow) → every in_range rows ≡ true → every in_range (take n rows) ≡ true
every_take zero [] h = refl
every_take zero (row ∷ rows) h = refl
every_take (suc n) [] h = refl
every_take (suc n) (row ∷ rows) h = let hs = and_parts (in_range row) (every in_range rows) h in and_from _ _ hs.0 (every_take n rows hs.1)

every_drop : (n : ℕ) (rows : List SnapshotRow) → every in_range rows ≡ true → every in_range (drop n rows) ≡ true
every_drop zero [] h = h
every_drop zero (row ∷ rows) h = h
every_drop (suc n) [] h = refl
every_drop (suc n) (row ∷ rows) h = every_drop n rows (and_parts (in_range row) (every in_range rows) h).1

-- of the books that a check lets pass
abbrev pub IfPassed : (Books → Type 0) → Result Books Refusal → Type 0
IfPassed R (Ok b) = R b
IfPassed R (Err e) = Unit {0}

then_passed : (R S : Books → Type 0) (f : Books → Result Books Refusal) (o : Result Books Refusal) → IfPassed R o → ((b : Books) → R b → IfPassed S (f b)) → IfPassed S (and_then o f)
then_passed R S f (Ok b) h g = g b h
then_passed R S f (Err e) h g = tt

module _ {R : Books → Type 0} {Q : ℕ → Books → Type 0} {P : Books → Type 0} (k : Beginning R Q P) where
  row_keeps : (header p : ℕ) (row : SnapshotRow) (b : Books) → in_range row ≡ true → R b → IfPassed R (recover_row header p row b)
  row_keeps header p row b r h = on (row_refusal header p row b) refl
    where
      on : (o : Option Refusal) → row_refusal header p row b ≡ o → IfPassed R (recovered_by o (linked_at (row_segment b row) p (row_size header row) (opened_for row b)))
      on (Some e) f = tt
      on None f = k.recovers header p row b (not-true _ r) f h

  rows_keep : (header p : ℕ) (rows : List SnapshotRow) (b : Books) → every in_range rows ≡ true → R b → IfPassed R (recover_rows header p rows b)
  rows_keep header p [] b r h = h
  rows_keep header p (row ∷ rows) b r h =
      let rs = and_parts (in_range row) (every in_range rows) r in
      then_passed R R (recover_rows header p rows) (recover_row header p row b) (row_keeps header p row b rs.0 h) (λ c g. rows_keep header p rows c rs.1 g)

  pages_keep : (header p : ℕ) (entries : List PageEntry) (rows : List SnapshotRow) (b : Books) → every in_range rows ≡ true → R b → IfPassed R (recover_pages header p entries rows b)
  pages_keep header p [] rows b r h = h
  pages_keep header p (entry ∷ entries) rows b r h =
      then_passed R R (recover_pages header (suc p) entries rows) (recover_rows header p (take entry.count (drop entry.first rows)) b)
      (rows_keep header p _ b (every_take entry.count _ (every_drop entry.first rows r)) h) (λ c g. pages_keep header (suc p) entries rows c r g)

  ordered_keeps : (b : Books) → R b → IfPassed (Q 0) (ordered b)
  ordered_keeps b h = on (order_all b.size 0 b.segments b.ordering) refl
    where
      on : (o : Result (List OrderingRow) Refusal) → order_all b.size 0 b.segments b.ordering ≡ o → IfPassed (Q 0) (ordered_by b o)
      on (Ok rows) e = k.orders rows b e h
      on (Err f) e = tt

  pub recovered_keeps : (s : Plan) (slot extent : ℕ) → plan_refusal s slot extent ≡ None → IfPassed (Q 0) (recovered s extent)
  recovered_keeps s slot extent e =
      let r = not-false _ (or_parts (stable_out_of_range s.stable) _ (passed (lsns_out_of_range s) _ _ e).0).1 in
      then_passed R (Q 0) ordered (recover_pages s.header 0 s.directory s.rows (with_active s.active (unwrap_or s.stable (pos 0)) (blank s (segment_count s extent))))
      (pages_keep s.header 0 s.directory s.rows _ r (k.begins s slot extent e)) ordered_keeps

  module _ {M : Type 0} (respond : M → Request → Answer × M) where
    filled_books : (n : ℕ) (w : World M) → (filled respond n w).1.books ≡ w.books
    filled_books n w = on (leb w.books.tip (offset_of w.books n))
      where
        on : (t : Bool) → (cond t (Ok tt, w) (fill_by respond w.books (respond w.host (asked_fill (offset_of w.books n))))).1.books ≡ w.books
        on true = refl
        on false = refl

    -- the books after the segments below n, with the states that they had
    abbrev pub At : List State → ℕ → Books → Type 0
    At states n b = Q n b × (b.segments ≡ states)

    pub state_keeps : (states : List State) (n : ℕ) (s : State) (w : World M) → n < length states → state_of w.books n ≡ s → At states n w.books → At states (suc n) (free_state respond n s w).1.books
    state_keeps states n s w l e h = on (is_free s) refl
      where
        in_reach : n < length w.books.segments
        in_reach = subst (λ x. n < length x) (sym h.1) l

        q : is_free s ≡ true → Q (suc n) (freed respond n w).books
        q f = cut_tail_keeps respond (Q (suc n)) (k.cuts (suc n)) (length (put_free n w.books).free) (world (put_free n w.books) w.host) (k.frees n w.books in_reach (ap is_free e ∙ f) h.0)

        on : (t : Bool) → is_free s ≡ t → At states (suc n) (cond t (filled respond n (freed respond n w)) (Ok tt, w)).1.books
        on true f = subst (At states (suc n)) (sym (filled_books n (freed respond n w))) (q f, freed_segments respond n w ∙ h.1)
        on false f = (k.passes n w.books in_reach (ap is_free e ∙ f) h.0, h.1)

    abbrev Ended : List State → ℕ → Answer × World M → Type 0
    Ended states n (Ok u, w) = At states n w.books
    Ended states n (Err e, w) = Unit {0}

    all_keep : (states : List State) (n : ℕ) (rest : List State) (w : World M) → ((j : ℕ) → get_or rest j unused ≡ get_or states (n + j) unused) → n + length rest ≡ length states → At states n w.books → Ended states (length states) (free_all respond n rest w)
    unfolding free_all
    all_keep states n [] w at e h = let z : n ≡ length states = omega arith in subst (λ m. At states m w.books) z h
    all_keep states n (s ∷ rest) w at e h =
        let z : n + 0 ≡ n = omega arith in
        let here : state_of w.books n ≡ s = ap (λ l. get_or l n unused) h.1 ∙ (ap (λ m. get_or states m unused) (sym z) ∙ sym (at 0)) in
        on (free_state respond n s w) (state_keeps states n s w (omega arith) here h)
        (λ v g. all_keep states (suc n) rest v (λ j. at (suc j) ∙ ap (λ m. get_or states m unused) (shift j)) (omega arith) g)
      where
        shift : (j : ℕ) → n + suc j ≡ suc n + j
        shift j = omega arith

        on : (o : Answer × World M) → At states (suc n) o.1.books → ((v : World M) → At states (suc n) v.books → Ended states (length states) (free_all respond (suc n) rest v)) → Ended states (length states) (then_free respond (free_all respond (suc n) rest) o)
        on (Ok u, v) g ih = ih v g
        on (Err f, v) g ih = tt

    ends_keep : (states : List State) (o : Answer × World M) → Ended states (length states) o → IfAny P (started_by respond o).1
    ends_keep states (Err e, w) h = tt
    ends_keep states (Ok u, w) h = on w.books.faults refl
      where
        on : (rows : List FaultRow) → w.books.faults ≡ rows → IfAny P (kept_if respond rows w).1
        on [] e = k.ends w.books e (subst (λ l. Q (length l) w.books) (sym h.1) h.0)
        on (row ∷ rows) e = tt

    after_keeps : (o : Result Books Refusal) (m : M) → IfPassed (Q 0) o → IfAny P (freed_after respond o m).1
    after_keeps (Ok b) m h = ends_keep b.segments _ (all_keep b.segments 0 b.segments (world b m) (λ j. ap (λ i. get_or b.segments i unused) (front j)) (omega arith) (h, refl))
      where
        front : (j : ℕ) → j ≡ 0 + j
        front j = omega arith
    after_keeps (Err e) m h = tt

    pub started_keeps : (s : Plan) (slot extent : ℕ) (m : M) → IfAny P (started respond s slot extent m).1
    started_keeps s slot extent m = on (plan_refusal s slot extent) refl
      where
        on : (o : Option Refusal) → plan_refusal s slot extent ≡ o → IfAny P (start_by respond o s extent m).1
        on (Some e) f = tt
        on None f = after_keeps (recovered s extent) m (recovered_keeps s slot extent f)
