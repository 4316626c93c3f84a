-- A segment is deactivated: its blobs are removed, what it holds back is freed, it is closed and cleaned, and the share is looked at; then the fold over the ripe rows.
use Rattle.std.proofs.Common.{◌≡◌, ℕ, suc, ◌+◌, ◌/◌, ◌<◌, Bool, true, false, cond, not, ◌⊎◌, List, [], ◌∷◌, length, get_or, set, ℤ, pos, negsuc, nat_abs, Some, None, Ok, Err, Option, Ordering, Less, Equal, Greater, sym, refl, ap, ◌∙◌, subst, inl, inr, arith}
use lib.Signed.{le_z}
use Rattle.std.specs.Ordering.{is_eq, nat_cmp}
use Rattle.std.specs.List.{ContainsAt as Has}
use Rattle.std.proofs.lemmas.Bool.{cases_eq, and_from, true≢false, le-leb, not-true}
use Rattle.std.proofs.lemmas.List.{get_or-set_same, get_or-set_other}
use Rattle.table.specs.Order.{unsigned_lawful}
use Rattle.table.specs.Rows.{every}
use Rattle.table.proofs.Filters.{has_from_kept}
use Rattle.table.proofs.Orders.{rank_refl}
use Rattle.host.specs.Meaning.{Answer, asked_remove}
use Rattle.host.specs.declared.request.Request.{Request}
use Rattle.segment.specs.Changes.{closed}
use Rattle.segment.specs.declared.state.State.{State}
use Rattle.segment.specs.declared.state.State.TheVariants as is
use Rattle.segment.specs.declared.state.Active as active-state
use Rattle.segment.specs.declared.state.Inactive.{Inactive}
use Rattle.segment.specs.declared.rows.BlobRow.{BlobRow}
use Rattle.rules.specs.Books.{Books, World, world, unused, state_of, with_blobs}
use Rattle.rules.specs.Pages.{page_count, left_count}
use Rattle.rules.specs.Cleaning.{cleaned, start_draining}
use Rattle.rules.specs.Stabilizing.{much_is_free, free_below_tip, inactive_count, inactive_at, first_some, last_inactive, drain_found, drained_by_share, blobs_of, blobs_off, closed_at, removed_by, remove_blobs, opened_up, shut, shared, deactivated_by, deactivate_state, deactivated}
use Rattle.rules.specs.Recount.{upd}
use Rattle.rules.specs.Runs.{Log, recorded}
use Rattle.safety.proofs.Plain.{Seg, Shut, seg_is_free, active, the, Count, seen, above}
use Rattle.safety.proofs.Views.{view, Holders, Inv, v_close, close_keeps}
use Rattle.safety.proofs.Looks.{seg_of, on_of, ord_of, row_of, keep_of, seg_set}
use Rattle.safety.proofs.Counts.{pages_tally, left_tally}
use Rattle.safety.proofs.Moves.{Moved, moved_close}
use Rattle.safety.proofs.Steps.{Setting, view_of, Plus, Positive, Whole, granted, clear, Good, Went, stayed, then_went, reach, changed_whole}
use Rattle.safety.proofs.Cleans.{every_append, start_draining_good, cleaned_good}
use Rattle.safety.proofs.Frames.{Weighs, Lighter, Alone, cleaned_alone, start_draining_alone}
use Rattle.safety.proofs.Stable.{number_the, LetGo, AllReleased, every_released}

pub has_first : {X : Type 0} (x : X) (xs : List X) → Has (x ∷ xs) x
has_first x xs = (0, omega arith, λ d. refl)

pub has_later : {X : Type 0} (y : X) (xs : List X) (x : X) → Has xs x → Has (y ∷ xs) x
has_later y xs x h = let l = h.1 in (suc h.0, omega arith, h.2)

-- every blob row is of an Active segment, and its blob was given up with that segment's LSN as base
abbrev pub Blobs : List (ℤ × ℤ) → Books → Type 0
Blobs given b = (row : BlobRow) → Has b.blobs row → (a : active-state.Active) × (state_of b row.segment ≡ is.Active a) × Has given (row.blob, a.lsn)

pub blobs_whole : (b : Books) (rows : List BlobRow) → Whole b → Whole (with_blobs rows b)
blobs_whole b rows w = record {
  some = w.some;
  free_up = w.free_up;
  ord_up = w.ord_up;
  pages_up = w.pages_up;
  keep_up = w.keep_up;
  room = w.room;
  tip_even = w.tip_even;
  free_even = w.free_even;
  counts = w.counts;
  signs = w.signs;
  keep_signs = w.keep_signs;
  stored_sign = w.stored_sign;
}

-- ---- closing
module _ {M : Type 0} (respond : M → Request → Answer × M) (set_up : Setting) (r : Count) where
  pub closed_good : (t : ℕ) (a : active-state.Active) (w : World (M × Log)) (h : Holders) (c : World (M × Log)) (g : Holders) → Good set_up c r g → LetGo t w.books h c.books g → state_of w.books t ≡ is.Active a → ((k : ℕ) → keep_of c.books.freeable t k ≡ false) → nat_abs a.lsn < above c.books.stabilized → Went set_up r w h (world (closed_at t a c.books) c.host)
  closed_good t a w h c g gc p at none low =
      let b : Books = c.books in
      let l : ℕ = nat_abs a.lsn in
      let m : ℕ = nat_abs a.latest_replacement_lsn in
      let sc : state_of b t ≡ is.Active a = ap (λ (s : List State). get_or s t unused) p.segments ∙ at in
      let z : State = is.Inactive (closed (page_count t b.pages) (left_count t b.pages) a) in
      let under : t < length b.segments = reach b.segments t (ap (λ s. seg_is_free (seen s)) sc) in
      let ps : Plus a.lsn × Plus a.latest_replacement_lsn = subst Positive sc (gc.whole.signs t) in
      let sg : seg_of (set b.segments t z) ≡ upd (seg_of b.segments) t (Shut l m) = seg_set b.segments t z under in
      let i : Inv (v_close (view_of set_up b) t (Shut l m)) r g = close_keeps (view_of set_up b) r g t l m gc.inv (ap seen sc) none low in
      let vc : view_of set_up (closed_at t a b) ≡ v_close (view_of set_up b) t (Shut l m) = λ j. view (b.tip / b.size) (sg j) (on_of b.size b.free) (ord_of b.size b.ordering) (row_of b.pages) (keep_of b.freeable) (above b.stabilized) set_up.waiting in
      record {
        now = g;
        good = record { whole = changed_whole b t z gc.whole under (pages_tally t b.pages, left_tally t b.pages) ps; inv = subst (λ v. Inv v r g) (sym vc) i; asked = gc.asked };
        moved = subst (λ (s : ℕ → Seg). Moved r.noted (seg_of w.books.segments) h s g) (sym (sg ∙ ap (λ (s : List State). upd (seg_of s) t (Shut l m)) p.segments)) (moved_close r.noted (seg_of w.books.segments) h g t (Shut l m) (ap (λ s. seg_is_free (seen s)) at) refl refl p.less p.more);
        level = p.level;
        size = p.size;
      }

-- ---- the share
inactive_found : (k n : ℕ) (s : State) (x : ℕ × Inactive) → inactive_at k s ≡ Some x → (x.0 ≡ k) × (s ≡ is.Inactive x.1)
inactive_found k n (is.Free f) x e = absurd (let z : ◌≡◌ {A = ℕ} 0 1 = cc in omega arith)
inactive_found k n (is.Active a) x e = absurd (let z : ◌≡◌ {A = ℕ} 0 1 = cc in omega arith)
inactive_found k n (is.Inactive i) x e = let q : (k, i) ≡ x = cc in (ap (λ (z : ℕ × Inactive). z.0) (sym q), ap (λ (z : ℕ × Inactive). is.Inactive z.1) q)
inactive_found k n (is.Draining d) x e = absurd (let z : ◌≡◌ {A = ℕ} 0 1 = cc in omega arith)

last_found : (k : ℕ) (xs : List State) (x : ℕ × Inactive) → last_inactive k xs ≡ Some x → (j : ℕ) × (x.0 ≡ k + j) × (get_or xs j unused ≡ is.Inactive x.1)
last_found k [] x e = absurd (let z : ◌≡◌ {A = ℕ} 0 1 = cc in omega arith)
last_found k (s ∷ xs) x e = on (last_inactive (suc k) xs) (last_found (suc k) xs x) e
  where
    on : (o : Option (ℕ × Inactive)) → (o ≡ Some x → (j : ℕ) × (x.0 ≡ suc k + j) × (get_or xs j unused ≡ is.Inactive x.1)) → first_some o (inactive_at k s) ≡ Some x → (j : ℕ) × (x.0 ≡ k + j) × (get_or (s ∷ xs) j unused ≡ is.Inactive x.1)
    on None ih e = let f : _ = inactive_found k 0 s x e in (0, f.0 ∙ omega arith, f.1)
    on (Some y) ih e = let f : _ = ih e in (suc f.0, omega (arith, f.1), f.2)

-- what a deactivation of t leaves as it is
pub record Spared (t : ℕ) (b c : Books) : Type 0 where
  pub others : (m : ℕ) (a : active-state.Active) → (m ≡ t → ⊥) → state_of b m ≡ is.Active a → state_of c m ≡ is.Active a
  pub light : (m : ℕ) → Lighter (state_of b m) (state_of c m)

pub alone_spares : (n t : ℕ) (b c : Books) → Alone n b c → Spared t b c
alone_spares n t b c al = record {
  others = λ m a ne e. on m a e (cases_eq m n);
  light = λ m. light m (cases_eq m n);
}
  where
    on : (m : ℕ) (a : active-state.Active) → state_of b m ≡ is.Active a → (m ≡ n) ⊎ (m ≡ n → ⊥) → state_of c m ≡ is.Active a
    on m a e (inl q) = ap (state_of c) q ∙ al.opens a (ap (state_of b) (sym q) ∙ e)
    on m a e (inr q) = al.states m q ∙ e

    light : (m : ℕ) → (m ≡ n) ⊎ (m ≡ n → ⊥) → Lighter (state_of b m) (state_of c m)
    light m (inl q) = subst (λ k. Lighter (state_of b k) (state_of c k)) (sym q) al.light
    light m (inr q) = λ l x. subst (Weighs l) (sym (al.states m q)) x

pub spared_then : (t : ℕ) (b c d : Books) → Spared t b c → Spared t c d → Spared t b d
spared_then t b c d p q = record { others = λ m a ne e. q.others m a ne (p.others m a ne e); light = λ m l x. q.light m l (p.light m l x) }

pub spared_same : (t : ℕ) (b : Books) → Spared t b b
spared_same t b = record { others = λ m a ne e. e; light = λ m l x. x }

module _ {M : Type 0} (set_up : Setting) (r : Count) where
  pub record Shared (w : World (M × Log)) (h : Holders) (z : World (M × Log)) : Type 0 where
    pub went : Went set_up r w h z
    pub spared : (t : ℕ) → Spared t w.books z.books
    pub blobs : z.books.blobs ≡ w.books.blobs

  pub shared_good : (w : World (M × Log)) (h : Holders) → Good set_up w r h → Shared w h (world (drained_by_share w.books) w.host)
  shared_good w h g = on (much_is_free (free_below_tip w.books) (inactive_count w.books))
    where
      b : Books
      b = w.books

      same : Shared w h w
      same = record { went = stayed set_up r w h g; spared = λ t. spared_same t w.books; blobs = refl }

      found : (o : Option (ℕ × Inactive)) → last_inactive 0 w.books.segments ≡ o → Shared w h (world (drain_found o w.books) w.host)
      found None e = same
      found (Some x) e =
          let f : _ = last_found 0 w.books.segments x e in
          let q : x.0 ≡ f.0 = omega (arith, f.1) in
          let st : state_of w.books x.0 ≡ is.Inactive x.1 = ap (λ k. get_or w.books.segments k unused) q ∙ f.2 in
          record {
            went = start_draining_good set_up r w h x.0 x.1 g st;
            spared = λ t. alone_spares x.0 t w.books (start_draining x.0 x.1 w.books) (start_draining_alone w.books x.0 x.1 st);
            blobs = refl;
          }

      on : (t : Bool) → Shared w h (world (cond t (drain_found (last_inactive 0 w.books.segments) w.books) w.books) w.host)
      on true = found (last_inactive 0 w.books.segments) refl
      on false = same

-- ---- removing blobs
module _ {M : Type 0} (respond : M → Request → Answer × M) (fine : ℤ → Bool) (tip : ℕ) where
  granted_fine : (a : Answer) (t : Bool) → t ≡ true → granted a t ≡ true
  granted_fine (Ok u) t e = e
  granted_fine (Err e) t f = refl

  pub removes_clear : (rows : List BlobRow) (m : M × Log) → ((row : BlobRow) → Has rows row → fine row.blob ≡ true) → every (clear fine tip) m.1 ≡ true → every (clear fine tip) (remove_blobs (recorded respond) rows m).1.1 ≡ true
  removes_clear [] m ok e = e
  removes_clear (row ∷ rows) m ok e = on (respond m.0 (asked_remove row.blob)).0 _
      (every_append (clear fine tip) m.1 _ e (and_from (granted (respond m.0 (asked_remove row.blob)).0 (fine row.blob)) true (granted_fine (respond m.0 (asked_remove row.blob)).0 (fine row.blob) (ok row (has_first row rows))) refl))
      (removes_clear rows)
    where
      on : (a : Answer) (n : M × Log) → every (clear fine tip) n.1 ≡ true → ((m : M × Log) → ((row : BlobRow) → Has rows row → fine row.blob ≡ true) → every (clear fine tip) m.1 ≡ true → every (clear fine tip) (remove_blobs (recorded respond) rows m).1.1 ≡ true) → every (clear fine tip) (removed_by (recorded respond) (remove_blobs (recorded respond) rows) (a, n)).1.1 ≡ true
      on (Ok u) n f ih = ih n (λ x h. ok x (has_later row rows x h)) f
      on (Err e) n f ih = f

pub low_le : (l : ℕ) (s : ℤ) → l < above s → le_z (pos l) s ≡ true
low_le l (pos k) e = le-leb l k (omega arith)
low_le l (negsuc k) e = absurd (omega arith)

rank_eq : (m n : ℕ) → is_eq (nat_cmp m n) ≡ true → m ≡ n
rank_eq m n e = on (nat_cmp m n) refl e
  where
    on : (o : Ordering) → nat_cmp m n ≡ o → is_eq o ≡ true → m ≡ n
    on Less q e = absurd (true≢false (sym e))
    on Equal q e = unsigned_lawful.same m n q
    on Greater q e = absurd (true≢false (sym e))

same_active_state : (s : State) (a c : active-state.Active) → s ≡ is.Active a → s ≡ is.Active c → a.lsn ≡ c.lsn
same_active_state s a c e f = ap lsn_in (sym e ∙ f)
  where
    lsn_in : State → ℤ
    lsn_in (is.Free x) = pos 0
    lsn_in (is.Active x) = x.lsn
    lsn_in (is.Inactive x) = pos 0
    lsn_in (is.Draining x) = pos 0

-- ---- one segment
module _ {M : Type 0} (respond : M → Request → Answer × M) (set_up : Setting) (r : Count) (given : List (ℤ × ℤ)) (stored : ℤ)
    (ok : (blob base : ℤ) → Has given (blob, base) → le_z base stored ≡ true → set_up.fine blob ≡ true) where
  pub record Deacted (t : ℕ) (w : World (M × Log)) (h : Holders) (z : World (M × Log)) : Type 0 where
    pub went : Went set_up r w h z
    pub spared : Spared t w.books z.books
    pub blobs : Blobs given z.books

  pub deact_open : (w : World (M × Log)) (h : Holders) (t : ℕ) (a : active-state.Active) (m : M × Log) → Good set_up w r h → Blobs given w.books → state_of w.books t ≡ is.Active a → nat_abs a.lsn < above w.books.stabilized → every (clear set_up.fine w.books.tip) m.1 ≡ true
      → Deacted t w h (shared (recorded respond) (shut (recorded respond) t a (opened_up (recorded respond) t w.books m)))
  deact_open w h t a m g bl st low cl =
      let b : Books = w.books in
      let w1 : World (M × Log) = world (with_blobs (blobs_off t b.blobs) b) m in
      let g1 : Good set_up w1 r h = record { whole = blobs_whole b (blobs_off t b.blobs) g.whole; inv = g.inv; asked = cl } in
      let p : AllReleased respond set_up r t (nat_abs a.lsn) w1 h (opened_up (recorded respond) t b m) = every_released respond set_up r t (nat_abs a.lsn) w1 h g1 (ap (λ s. active (seen s)) st) low in
      let c : World (M × Log) = opened_up (recorded respond) t b m in
      let sc : state_of c.books t ≡ is.Active a = ap (λ (s : List State). get_or s t unused) p.went.segments ∙ st in
      let q : Went set_up r w1 h (world (closed_at t a c.books) c.host) = closed_good respond set_up r t a w1 h c p.now p.good p.went st p.none (subst (λ k. nat_abs a.lsn < above k) (sym p.went.level) low) in
      let d : World (M × Log) = world (closed_at t a c.books) c.host in
      let under : t < length c.books.segments = reach c.books.segments t (ap (λ s. seg_is_free (seen s)) sc) in
      let z : State = is.Inactive (closed (page_count t c.books.pages) (left_count t c.books.pages) a) in
      let dt : state_of d.books t ≡ z = get_or-set_same c.books.segments t z unused under in
      let dm : (n : ℕ) → (n ≡ t → ⊥) → state_of d.books n ≡ state_of b n = λ n ne. get_or-set_other c.books.segments t n z unused ne ∙ ap (λ (s : List State). get_or s n unused) p.went.segments in
      let s1 : Spared t b d.books = record { others = λ n x ne e. dm n ne ∙ e; light = λ n. closes b d.books t a (page_count t c.books.pages) (left_count t c.books.pages) st dt dm n (cases_eq n t) } in
      let y : Went set_up r d q.now (cleaned (recorded respond) t d) = cleaned_good respond set_up r d q.now t q.good in
      let ya : Alone t d.books (cleaned (recorded respond) t d).books = cleaned_alone (recorded respond) d t q.good.whole.pages_up in
      let e : World (M × Log) = cleaned (recorded respond) t d in
      let x : Shared set_up r e y.now (world (drained_by_share e.books) e.host) = shared_good set_up r e y.now y.good in
      let f : World (M × Log) = world (drained_by_share e.books) e.host in
      let all : Went set_up r w1 h f = then_went set_up r w1 h d f q (then_went set_up r d q.now e f y x.went) in
      let sp : Spared t b f.books = spared_then t b e.books f.books (spared_then t b d.books e.books s1 (alone_spares t t d.books e.books ya)) (x.spared t) in
      let bs : f.books.blobs ≡ blobs_off t b.blobs = x.blobs ∙ ya.blobs ∙ p.went.blobs in
      record {
        went = record { now = all.now; good = all.good; moved = all.moved; level = all.level; size = all.size };
        spared = sp;
        blobs = λ row hr.
            let kept : _ = has_from_kept (λ (o : BlobRow). not (is_eq (nat_cmp o.segment t))) b.blobs row (subst (λ l. Has l row) bs hr) in
            let old : _ = bl row kept.0 in
            (old.0, sp.others row.segment old.0 (λ n. true≢false (sym (ap is_eq (ap (λ k. nat_cmp k t) n ∙ rank_refl unsigned_lawful t)) ∙ not-true (is_eq (nat_cmp row.segment t)) kept.1)) old.1, old.2);
      }
    where
      closes : (b c : Books) (t : ℕ) (a : active-state.Active) (x y : ℕ) → state_of b t ≡ is.Active a → state_of c t ≡ is.Inactive (closed x y a) → ((n : ℕ) → (n ≡ t → ⊥) → state_of c n ≡ state_of b n) → (n : ℕ) → (n ≡ t) ⊎ (n ≡ t → ⊥) → Lighter (state_of b n) (state_of c n)
      closes b c t a x y e f oth n (inl q) = subst (λ k. Lighter (state_of b k) (state_of c k)) (sym q) (λ l u. let v : Weighs l (is.Active a) = subst (Weighs l) e u in subst (Weighs l) (sym f) v.1)
      closes b c t a x y e f oth n (inr q) = λ l u. subst (Weighs l) (sym (oth n q)) u

  pub deact_good : (w : World (M × Log)) (h : Holders) (l : ℕ) → Good set_up w r h → Blobs given w.books → w.books.stabilized ≡ stored → l < above stored → active (seg_of w.books.segments (the (ord_of w.books.size w.books.ordering l))) ≡ Some l → Deacted (the (ord_of w.books.size w.books.ordering l)) w h (deactivated (recorded respond) (pos l) w).1
  unfolding deactivated
  deact_good w h l g bl lev low at = subst (λ n. Deacted t w h (deactivate_state (recorded respond) n (state_of w.books n) w).1) (sym (number_the w.books l)) (on (state_of w.books t) refl)
    where
      t : ℕ
      t = the (ord_of w.books.size w.books.ordering l)

      same : (x : World (M × Log)) → Good set_up x r h → x.books ≡ w.books → Deacted t w h x
      same x gx e = record {
        went = record { now = h; good = gx; moved = subst (λ (q : Books). Moved r.noted (seg_of w.books.segments) h (seg_of q.segments) h) (sym e) (Rattle.safety.proofs.Moves.moved_refl r.noted (seg_of w.books.segments) h); level = ap (λ (q : Books). q.stabilized) e; size = ap (λ (q : Books). q.size) e };
        spared = subst (λ q. Spared t w.books q) (sym e) (spared_same t w.books);
        blobs = subst (Blobs given) (sym e) bl;
      }

      by_answer : (a : active-state.Active) → state_of w.books t ≡ is.Active a → (x : Answer × (M × Log)) → every (clear set_up.fine w.books.tip) x.1.1 ≡ true → Deacted t w h (deactivated_by (recorded respond) t a w.books x).1
      by_answer a e (Ok u, m) cl = deact_open w h t a m g bl e (subst (λ k. k < above w.books.stabilized) (sym (lsn_is a e)) (subst (λ s. l < above s) (sym lev) low)) cl
        where
          lsn_is : (a : active-state.Active) → state_of w.books t ≡ is.Active a → nat_abs a.lsn ≡ l
          lsn_is a e = let q : Some (nat_abs a.lsn) ≡ Some l = sym (ap (λ s. active (seen s)) e) ∙ at in ap the q
      by_answer a e (Err x, m) cl = same (world w.books m) (record { whole = g.whole; inv = g.inv; asked = cl }) refl

      on : (s : State) → state_of w.books t ≡ s → Deacted t w h (deactivate_state (recorded respond) t s w).1
      on (is.Free f) e = same w g refl
      on (is.Active a) e = by_answer a e (remove_blobs (recorded respond) (blobs_of t w.books.blobs) w.host)
          (removes_clear respond set_up.fine w.books.tip (blobs_of t w.books.blobs) w.host (λ row hr.
          let kept : _ = has_from_kept (λ (o : BlobRow). is_eq (nat_cmp o.segment t)) w.books.blobs row hr in
          let sg : row.segment ≡ t = rank_eq row.segment t kept.1 in
          let old : _ = bl row kept.0 in
          let ls : old.0.lsn ≡ a.lsn = same_active_state (state_of w.books t) old.0 a (ap (state_of w.books) (sym sg) ∙ old.1) e in
          let la : nat_abs a.lsn ≡ l = (let q : Some (nat_abs a.lsn) ≡ Some l = sym (ap (λ s. active (seen s)) e) ∙ at in ap the q) in
          let ps : Plus a.lsn × Plus a.latest_replacement_lsn = subst Positive e (g.whole.signs t) in
          ok row.blob a.lsn (subst (λ z. Has given (row.blob, z)) ls old.2) (ap (λ z. le_z z stored) (ps.0 ∙ ap pos la) ∙ low_le l stored low))
          g.asked)
      on (is.Inactive i) e = same w g refl
      on (is.Draining d) e = same w g refl
