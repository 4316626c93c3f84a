-- Start: the Free segments are listed one after the other, with the cuts and fills that follow.
use Rattle.std.proofs.Common.{◌≡◌, ℕ, suc, ◌+◌, ◌/◌, ◌<◌, ◌≤◌, Bool, true, false, cond, ◌&&◌, ltb, leb, ◌⊎◌, List, [], ◌∷◌, length, get_or, ℤ, None, Ok, Err, sym, refl, ap, ◌∙◌, subst, inl, inr, arith}
use mathlib.Core.Path.{fun_ext}
use Rattle.std.proofs.lemmas.Bool.{cases_eq, cases_lt, eq-eqb, ne_eqb, and_from, lt-ltb, le-ltb, le-leb, leb-true}
use Rattle.table.specs.Rows.{every}
use Rattle.table.proofs.Laws.{every_mono}
use Rattle.host.specs.Meaning.{Answer, asked_fill}
use Rattle.host.specs.declared.request.Request.{Request}
use Rattle.segment.specs.declared.state.State.{State}
use Rattle.segment.specs.declared.state.State.TheVariants as is
use Rattle.segment.specs.declared.state.Free as free-record
use Rattle.rules.specs.Books.{Books, World, world, unused, state_of, offset_of}
use Rattle.rules.specs.Freeing.{put_free, unordered, without_lsn, freed}
use Rattle.rules.specs.Recount.{upd}
use Rattle.rules.specs.Runs.{Log, recorded}
use Rattle.rules.specs.Starting.{fill_by, filled, free_state, then_free, free_all}
use Rattle.safety.proofs.Plain.{seg_is_free, Count, seen, above}
use Rattle.safety.proofs.Views.{View, view, Holders, Inv, v_list, list_keeps}
use Rattle.safety.proofs.Looks.{seg_of, ord_of, row_of, keep_of, on_insert, row_drop}
use Rattle.safety.proofs.Steps.{Setting, view_of, clear, Good, put_whole}
use Rattle.safety.proofs.Cleans.{Trimmed, cut_trims, cut_tail_good, every_append, clear_lower, upd_id}

abbrev pub nobody : Holders
nobody = λ n. None

-- the Free segments from n on
abbrev pub wait_at : List State → ℕ → ℕ → Bool
wait_at segs n m = (seg_is_free (seg_of segs m) && ltb m (length segs)) && leb n m

abbrev pub setting_at : (ℤ → Bool) → List State → ℕ → Setting
setting_at fine segs n = record { waiting = wait_at segs n; fine = fine }

and_false : (a : Bool) → (a && false) ≡ false
and_false true = refl
and_false false = refl

le_more : (n m : ℕ) → (m ≡ n → ⊥) → leb n m ≡ leb (suc n) m
le_more n m ne = on (cases_lt n m)
  where
    on : (n < m) ⊎ (m ≤ n) → leb n m ≡ leb (suc n) m
    on (inl l) = le-leb n m (omega arith) ∙ sym (le-leb (suc n) m (omega arith))
    on (inr l) = off n m (λ q. ne (omega arith)) ∙ sym (off (suc n) m (λ q. omega arith))
      where
        off : (x y : ℕ) → (x ≤ y → ⊥) → leb x y ≡ false
        off x y f = bool (leb x y) (λ e. f (leb-true x y e))
          where
            bool : (t : Bool) → (t ≡ true → ⊥) → t ≡ false
            bool true f = absurd (f refl)
            bool false f = refl

le_not : (n : ℕ) → leb (suc n) n ≡ false
le_not n = bool (leb (suc n) n) (λ e. omega (arith, leb-true (suc n) n e))
  where
    bool : (t : Bool) → (t ≡ true → ⊥) → t ≡ false
    bool true f = absurd (f refl)
    bool false f = refl

pub wait_listed : (segs : List State) (n : ℕ) → upd (wait_at segs n) n false ≡ wait_at segs (suc n)
wait_listed segs n = fun_ext (λ m. on m (cases_eq m n))
  where
    on : (m : ℕ) → (m ≡ n) ⊎ (m ≡ n → ⊥) → upd (wait_at segs n) n false m ≡ wait_at segs (suc n) m
    on m (inl e) = rw (eq-eqb m n e) (subst (λ k. false ≡ wait_at segs (suc n) k) (sym e) (sym (ap (λ t. (seg_is_free (seg_of segs n) && ltb n (length segs)) && t) (le_not n) ∙ and_false (seg_is_free (seg_of segs n) && ltb n (length segs)))))
    on m (inr e) = rw (ne_eqb m n e) (ap (λ t. (seg_is_free (seg_of segs m) && ltb m (length segs)) && t) (le_more n m e))

pub wait_passed : (segs : List State) (n : ℕ) → seg_is_free (seg_of segs n) ≡ false → wait_at segs n ≡ wait_at segs (suc n)
wait_passed segs n f = fun_ext (λ m. on m (cases_eq m n))
  where
    on : (m : ℕ) → (m ≡ n) ⊎ (m ≡ n → ⊥) → wait_at segs n m ≡ wait_at segs (suc n) m
    on m (inl e) = subst (λ k. wait_at segs n k ≡ wait_at segs (suc n) k) (sym e) (ap (λ t. (t && ltb n (length segs)) && leb n n) f ∙ sym (ap (λ t. (t && ltb n (length segs)) && leb (suc n) n) f))
    on m (inr e) = ap (λ t. (seg_is_free (seg_of segs m) && ltb m (length segs)) && t) (le_more n m e)

pub wait_done : (segs : List State) (n : ℕ) → n ≡ length segs → wait_at segs n ≡ (λ m. false)
wait_done segs n e = fun_ext (λ m. on m (cases_lt m (length segs)))
  where
    bool : (t : Bool) → (t ≡ true → ⊥) → t ≡ false
    bool true f = absurd (f refl)
    bool false f = refl

    on : (m : ℕ) → (m < length segs) ⊎ (length segs ≤ m) → wait_at segs n m ≡ false
    on m (inl l) = ap (λ t. (seg_is_free (seg_of segs m) && ltb m (length segs)) && t) (bool (leb n m) (λ q. omega (arith, leb-true n m q, e))) ∙ and_false (seg_is_free (seg_of segs m) && ltb m (length segs))
    on m (inr l) = ap (λ t. (seg_is_free (seg_of segs m) && t) && leb n m) (le-ltb m (length segs) l) ∙ ap (λ t. t && leb n m) (and_false (seg_is_free (seg_of segs m)))

pub wait_first : (segs : List State) → wait_at segs 0 ≡ (λ m. seg_is_free (seg_of segs m) && ltb m (length segs))
wait_first segs = fun_ext (λ m. ap (λ t. (seg_is_free (seg_of segs m) && ltb m (length segs)) && t) (le-leb 0 m (omega arith)) ∙ and_true (seg_is_free (seg_of segs m) && ltb m (length segs)))
  where
    and_true : (a : Bool) → (a && true) ≡ a
    and_true true = refl
    and_true false = refl

module _ {M : Type 0} (respond : M → Request → Answer × M) (fine : ℤ → Bool) (c : Count) (segs : List State) (size : ℕ) (level : ℤ)
    (fresh : (n : ℕ) (f : free-record.Free) → get_or segs n unused ≡ is.Free f → f.previous_lsn ≡ None) where
  -- the books while segments are listed
  pub record Going (n : ℕ) (w : World (M × Log)) : Type 0 where
    pub good : Good (setting_at fine segs n) w c nobody
    pub segments : w.books.segments ≡ segs
    pub size_is : w.books.size ≡ size
    pub level_is : w.books.stabilized ≡ level
    pub blobs : w.books.blobs ≡ []

  list_one : (n : ℕ) (w : World (M × Log)) (f : free-record.Free) → get_or segs n unused ≡ is.Free f → n < length segs → Going n w → Going (suc n) (freed (recorded respond) n w)
  list_one n w f e low g =
      let b : Books = w.books in
      let v : View = view_of (setting_at fine segs n) b in
      let st : state_of b n ≡ is.Free f = ap (λ (s : List State). get_or s n unused) g.segments ∙ e in
      let fr : seg_is_free (seg_of b.segments n) ≡ true = ap (λ s. seg_is_free (seen s)) st in
      let wait : wait_at segs n n ≡ true = and_from (seg_is_free (seg_of segs n) && ltb n (length segs)) (leb n n) (and_from (seg_is_free (seg_of segs n)) (ltb n (length segs)) (ap (λ s. seg_is_free (seen s)) e) (lt-ltb n (length segs) low)) (le-leb n n (omega arith)) in
      let i : Inv v c nobody = g.good.inv in
      let under : n < v.tip = i.todo_low n wait in
      let un : unordered (state_of b n) b.ordering ≡ b.ordering = ap (λ s. unordered s b.ordering) st ∙ ap (λ o. without_lsn o b.ordering) (fresh n f e) in
      let rows : row_of (Rattle.rules.specs.Pages.rows_off n b.pages) ≡ row_of b.pages = row_drop b.pages n g.good.whole.pages_up ∙ upd_id (row_of b.pages) n (λ q. None) (fun_ext (λ q. i.bare n q fr refl)) in
      let vc : view_of (setting_at fine segs (suc n)) (put_free n b) ≡ v_list v n = λ j. view (b.tip / b.size) (seg_of b.segments) (on_insert b.size b.free n g.good.whole.some j) (ord_of b.size (un j)) (rows j) (keep_of b.freeable) (above b.stabilized) (sym (wait_listed segs n) j) in
      let y : World (M × Log) = world (put_free n b) w.host in
      let k : ℕ = length (put_free n b).free in
      let t : Trimmed (put_free n b) (freed (recorded respond) n w).books = cut_trims (recorded respond) k y in
      record {
        good = cut_tail_good respond (setting_at fine segs (suc n)) c nobody k y (record { whole = put_whole b n g.good.whole fr; inv = subst (λ q. Inv q c nobody) (sym vc) (list_keeps v c nobody n i wait under); asked = g.good.asked });
        segments = t.segments ∙ g.segments;
        size_is = t.size ∙ g.size_is;
        level_is = t.level ∙ g.level_is;
        blobs = t.blobs ∙ g.blobs;
      }

  -- what a fill leaves
  fill_one : (n k : ℕ) (w : World (M × Log)) → Going k w → Going k (filled (recorded respond) n w).1
  fill_one n k w g = on (leb w.books.tip (offset_of w.books n))
    where
      on : (t : Bool) → Going k (cond {A = Answer × World (M × Log)} t (Ok tt, w) (fill_by (recorded respond) w.books (recorded respond w.host (asked_fill (offset_of w.books n))))).1
      on true = g
      on false = record {
        good = record { whole = g.good.whole; inv = g.good.inv; asked = every_append (clear fine w.books.tip) w.host.1 _ g.good.asked refl };
        segments = g.segments;
        size_is = g.size_is;
        level_is = g.level_is;
        blobs = g.blobs;
      }

  pub record Listed (x : Answer × World (M × Log)) : Type 0 where
    pub clean : every (clear fine 0) x.1.host.1 ≡ true
    pub whole : x.0 ≡ Ok tt → Going (length segs) x.1

  going_clean : (n : ℕ) (w : World (M × Log)) → Going n w → every (clear fine 0) w.host.1 ≡ true
  going_clean n w g = every_mono (clear fine w.books.tip) (clear fine 0) w.host.1 (clear_lower fine w.books.tip 0 (omega arith)) g.good.asked

  state_one : (n : ℕ) (w : World (M × Log)) (s : State) → get_or segs n unused ≡ s → n < length segs → Going n w → Going (suc n) (free_state (recorded respond) n s w).1
  state_one n w (is.Free f) e low g = fill_one n (suc n) (freed (recorded respond) n w) (list_one n w f e low g)
  state_one n w (is.Active a) e low g = passed n w (ap (λ s. seg_is_free (seen s)) e) g
    where
      passed : (n : ℕ) (w : World (M × Log)) → seg_is_free (seg_of segs n) ≡ false → Going n w → Going (suc n) w
      passed n w e g = record { good = record { whole = g.good.whole; inv = subst (λ (f : ℕ → Bool). Inv (view_of (record { waiting = f; fine = fine }) w.books) c nobody) (wait_passed segs n e) g.good.inv; asked = g.good.asked }; segments = g.segments; size_is = g.size_is; level_is = g.level_is; blobs = g.blobs }
  state_one n w (is.Inactive i) e low g = passed n w (ap (λ s. seg_is_free (seen s)) e) g
    where
      passed : (n : ℕ) (w : World (M × Log)) → seg_is_free (seg_of segs n) ≡ false → Going n w → Going (suc n) w
      passed n w e g = record { good = record { whole = g.good.whole; inv = subst (λ (f : ℕ → Bool). Inv (view_of (record { waiting = f; fine = fine }) w.books) c nobody) (wait_passed segs n e) g.good.inv; asked = g.good.asked }; segments = g.segments; size_is = g.size_is; level_is = g.level_is; blobs = g.blobs }
  state_one n w (is.Draining d) e low g = passed n w (ap (λ s. seg_is_free (seen s)) e) g
    where
      passed : (n : ℕ) (w : World (M × Log)) → seg_is_free (seg_of segs n) ≡ false → Going n w → Going (suc n) w
      passed n w e g = record { good = record { whole = g.good.whole; inv = subst (λ (f : ℕ → Bool). Inv (view_of (record { waiting = f; fine = fine }) w.books) c nobody) (wait_passed segs n e) g.good.inv; asked = g.good.asked }; segments = g.segments; size_is = g.size_is; level_is = g.level_is; blobs = g.blobs }

  pub all_listed : (rest : List State) (n : ℕ) (w : World (M × Log)) → ((j : ℕ) → get_or rest j unused ≡ get_or segs (n + j) unused) → n + length rest ≡ length segs → Going n w → Listed (free_all (recorded respond) n rest w)
  unfolding free_all
  all_listed [] n w same long g = record { clean = going_clean n w g; whole = λ e. subst (λ k. Going k w) (omega (arith, long)) g }
  all_listed (s ∷ rest) n w same long g = on (free_state (recorded respond) n s w) (state_one n w s (ap (λ k. get_or segs k unused) (omega arith) ∙ sym (same 0)) (omega (arith, long)) g) (λ y q. all_listed rest (suc n) y (λ j. same (suc j) ∙ ap (λ k. get_or segs k unused) (omega arith)) (omega (arith, long)) q)
    where
      on : (x : Answer × World (M × Log)) → Going (suc n) x.1 → ((y : World (M × Log)) → Going (suc n) y → Listed (free_all (recorded respond) (suc n) rest y)) → Listed (then_free (recorded respond) (free_all (recorded respond) (suc n) rest) x)
      on (Ok u, y) q ih = ih y q
      on (Err e, y) q ih = record { clean = going_clean (suc n) y q; whole = λ z. absurd (let o : ◌≡◌ {A = ℕ} 0 1 = cc in omega arith) }
