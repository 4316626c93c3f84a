-- A replacement visits the old segments in turn: each is taken away from and cleaned, and the others are left alone.
use Rattle.std.proofs.Common.{◌≡◌, ℕ, ◌+◌, ◌-◌, ◌<◌, ◌≤◌, Bool, true, false, cond, not, ◌&&◌, ltb, ◌⊎◌, List, [], ◌∷◌, length, ℤ, pos, ◌-ℤ◌, nat_abs, Some, None, Option, sym, refl, ap, ◌∙◌, subst, inl, inr, arith}
use Rattle.std.proofs.lemmas.Int.{ints}
use Rattle.std.proofs.lemmas.Bool.{cases_eq, eq-eqb, ne_eqb, and_parts, true≢false, not-true, ltb-true, ltb-false}
use Rattle.std.proofs.lemmas.List.{get_or-set_same, get_or-set_other}
use Rattle.table.specs.Rows.{every}
use Rattle.host.specs.Meaning.{Answer}
use Rattle.host.specs.declared.request.Request.{Request}
use Rattle.segment.specs.Updates.{taken, leaves, deferred}
use Rattle.segment.specs.declared.state.State.{State}
use Rattle.segment.specs.declared.state.State.TheVariants as is
use Rattle.segment.specs.declared.state.Active as active-state
use Rattle.segment.specs.declared.rows.PageRow.{PageRow}
use Rattle.rules.specs.Books.{Books, World, world, unused, state_of}
use Rattle.rules.specs.Pages.{page_row, is_lying, marked}
use Rattle.rules.specs.Cleaning.{cleaned}
use Rattle.rules.specs.Replacing.{taken_at, visited}
use Rattle.rules.specs.Recount.{upd}
use Rattle.rules.specs.Runs.{Log, recorded}
use Rattle.safety.proofs.Plain.{seg_is_free, active, here, mapped, upd2, mem, Count, told_away, seen}
use Rattle.safety.proofs.Views.{Holders}
use Rattle.safety.proofs.Looks.{seg_of, row_of, mark}
use Rattle.safety.proofs.Moves.{moved_trans, moved_renote}
use Rattle.safety.proofs.Steps.{Setting, Good, Went, stayed, then_went, reach}
use Rattle.safety.proofs.Cleans.{cleaned_good}
use Rattle.safety.proofs.Frames.{Weighs, Alone, cleaned_alone}
use Rattle.safety.proofs.Takes.{taken_good, row_marked}

pub lying_here : (o : Option PageRow) → is_lying o ≡ here (mapped mark o)
lying_here None = refl
lying_here (Some x) = refl

-- what an old segment is accepted for
abbrev pub enough : ℕ → State → Bool
enough size (is.Free f) = true
enough size (is.Active a) = not (ltb (a.rss - a.deferred_replaced_rss) size)
enough size (is.Inactive i) = not (ltb i.rss size)
enough size (is.Draining d) = true

pub record Fits (b : Books) (p : ℕ) (sum : ℕ × ℕ) : Type 0 where
  pub used : seg_is_free (seg_of b.segments sum.0) ≡ false
  pub lies : here (row_of b.pages sum.0 p) ≡ true
  pub room : enough sum.1 (state_of b sum.0) ≡ true

abbrev pub FitAll : Books → ℕ → List (ℕ × ℕ) → Type 0
FitAll b p [] = Unit {0}
FitAll b p (sum ∷ sums) = Fits b p sum × FitAll b p sums

abbrev pub past : ℕ → List (ℕ × ℕ) → Bool
past n sums = every (λ (s : ℕ × ℕ). ltb n s.0) sums

abbrev pub rising : List (ℕ × ℕ) → Bool
rising [] = true
rising (sum ∷ sums) = past sum.0 sums && rising sums

abbrev pub keys : List (ℕ × ℕ) → List ℕ
keys [] = []
keys (sum ∷ sums) = sum.0 ∷ keys sums

abbrev pub told_aways : ℕ → ℕ → List ℕ → Count → Count
told_aways p base [] r = r
told_aways p base (n ∷ ns) r = told_aways p base ns (told_away r n p base)

abbrev pub less_sums : List (ℕ × ℕ) → (ℕ → ℤ) → ℕ → ℤ
less_sums [] live = live
less_sums (sum ∷ sums) live = less_sums sums (upd live sum.0 (live sum.0 -ℤ pos sum.1))

abbrev pub Bytes : (ℕ → ℤ) → Books → Type 0
Bytes live b = (m : ℕ) → Weighs (live m) (state_of b m)

-- Active segments stay Active with their LSN
abbrev pub Opens : Books → Books → Type 0
Opens b c = (m : ℕ) (a : active-state.Active) → state_of b m ≡ is.Active a → (x : active-state.Active) × (state_of c m ≡ is.Active x) × (x.lsn ≡ a.lsn)

-- ---- bytes
pub sub_pos : (a s : ℕ) → s ≤ a → pos a -ℤ pos s ≡ pos (a - s)
sub_pos a s l = omega (arith, ints)

pub taken_weighs : (k size : ℕ) (live : ℤ) (s : State) → enough size s ≡ true → Weighs live s → Weighs (live -ℤ pos size) (taken (pos k) size s)
taken_weighs k size live (is.Free f) e w = tt
taken_weighs k size live (is.Active a) e w =
    let l : size ≤ a.rss - a.deferred_replaced_rss = omega (arith, ltb-false (a.rss - a.deferred_replaced_rss) size (not-true (ltb (a.rss - a.deferred_replaced_rss) size) e)) in
    let d : a.deferred_replaced_rss ≤ a.rss = w.0 in
    (omega arith, ap pos (less a.rss a.deferred_replaced_rss size) ∙ sym (sub_pos (a.rss - a.deferred_replaced_rss) size l) ∙ ap (λ z. z -ℤ pos size) w.1)
  where
    less : (x y z : ℕ) → x - (y + z) ≡ x - y - z
    less x y z = omega arith
taken_weighs k size live (is.Inactive i) e w =
    let l : size ≤ i.rss = omega (arith, ltb-false i.rss size (not-true (ltb i.rss size) e)) in
    sym (sub_pos i.rss size l) ∙ ap (λ z. z -ℤ pos size) w
taken_weighs k size live (is.Draining d) e w = tt

-- ---- one visit
module _ {M : Type 0} (respond : M → Request → Answer × M) (set_up : Setting) (p k : ℕ) where
  abbrev one_visit : ℕ → ℕ → World (M × Log) → World (M × Log)
  one_visit n size w = cleaned (recorded respond) n (world (taken_at n p (pos k) size w.books) w.host)

  pub visit_good : (r : Count) (h : Holders) (w : World (M × Log)) (n size new : ℕ) → Good set_up w r h → Fits w.books p (n, size) → active (seg_of w.books.segments new) ≡ Some k → Went set_up (told_away r n p k) w h (one_visit n size w)
  visit_good r h w n size new g f at =
      let t : Went set_up (told_away r n p k) w h (world (taken_at n p (pos k) size w.books) w.host) = taken_good set_up r h w n p k size new g f.used at (lying_here (page_row w.books.pages n p) ∙ f.lies) in
      then_went set_up (told_away r n p k) w h (world (taken_at n p (pos k) size w.books) w.host) (one_visit n size w) t (cleaned_good respond set_up (told_away r n p k) (world (taken_at n p (pos k) size w.books) w.host) t.now n t.good)

  upd2_apart : (f : ℕ → ℕ → Option Bool) (n p m q : ℕ) (v : Option Bool) → (m ≡ n → ⊥) → upd2 f n p v m q ≡ f m q
  upd2_apart f n p m q v e = rw (ne_eqb m n e)

  -- what a visit of n leaves as it is
  pub record Visit (n size : ℕ) (b c : Books) : Type 0 where
    pub states : (m : ℕ) → (m ≡ n → ⊥) → state_of c m ≡ state_of b m
    pub rows : (m q : ℕ) → (m ≡ n → ⊥) → row_of c.pages m q ≡ row_of b.pages m q
    pub opens : Opens b c
    pub weighs : (live : ℤ) → Weighs live (state_of b n) → Weighs (live -ℤ pos size) (state_of c n)
    pub blobs : c.blobs ≡ b.blobs

  pub visit_leaves : (r : Count) (h : Holders) (w : World (M × Log)) (n size new : ℕ) → Good set_up w r h → Fits w.books p (n, size) → active (seg_of w.books.segments new) ≡ Some k → Visit n size w.books (one_visit n size w).books
  visit_leaves r h w n size new g f at =
      let b : Books = w.books in
      let c : Books = taken_at n p (pos k) size b in
      let t : Went set_up (told_away r n p k) w h (world c w.host) = taken_good set_up r h w n p k size new g f.used at (lying_here (page_row b.pages n p) ∙ f.lies) in
      let al : Alone n c (one_visit n size w).books = cleaned_alone (recorded respond) (world c w.host) n t.good.whole.pages_up in
      let low : n < length b.segments = reach b.segments n f.used in
      let z : State = taken (pos k) size (state_of b n) in
      let cn : state_of c n ≡ z = get_or-set_same b.segments n z unused low in
      let co : (m : ℕ) → (m ≡ n → ⊥) → state_of c m ≡ state_of b m = λ m ne. get_or-set_other b.segments n m z unused ne in
      record {
        states = λ m ne. al.states m ne ∙ co m ne;
        rows = λ m q ne. al.rows m q ne ∙ rows_apart b (leaves (pos k) (state_of b n)) m q ne f.lies n;
        opens = λ m a e. on b c (one_visit n size w).books n al cn co m a e (cases_eq m n);
        weighs = λ live x. al.light (live -ℤ pos size) (subst (Weighs (live -ℤ pos size)) (sym cn) (taken_weighs k size live (state_of b n) f.room x));
        blobs = al.blobs;
      }
    where
      lying_some : (o : Option PageRow) → here (mapped mark o) ≡ true → (x : PageRow) × (o ≡ Some x) × (x.left ≡ false)
      lying_some None e = absurd (true≢false (sym e))
      lying_some (Some x) e = (x, refl, not-true x.left e)

      rows_apart : (b : Books) (t : Bool) (m q : ℕ) → (m ≡ n → ⊥) → here (row_of b.pages n p) ≡ true → (j : ℕ) → row_of (cond t (marked b.pages (page_row b.pages n p)) b.pages) m q ≡ row_of b.pages m q
      rows_apart b t m q ne e j = let x : _ = lying_some (page_row b.pages n p) e in ap (λ (f : ℕ → ℕ → Option Bool). f m q) (row_marked b.pages n p x.0 x.1 x.2 t) ∙ upd2_apart (row_of b.pages) n p m q (Some t) ne

      on : (b c d : Books) (n : ℕ) → Alone n c d → state_of c n ≡ taken (pos k) size (state_of b n) → ((m : ℕ) → (m ≡ n → ⊥) → state_of c m ≡ state_of b m) → (m : ℕ) (a : active-state.Active) → state_of b m ≡ is.Active a → (m ≡ n) ⊎ (m ≡ n → ⊥) → (x : active-state.Active) × (state_of d m ≡ is.Active x) × (x.lsn ≡ a.lsn)
      on b c d n al cn co m a e (inl q) = (deferred (pos k) size a, ap (state_of d) q ∙ al.opens (deferred (pos k) size a) (cn ∙ ap (taken (pos k) size) (ap (state_of b) (sym q) ∙ e)), refl)
      on b c d n al cn co m a e (inr q) = (a, al.states m q ∙ co m q ∙ e, refl)

-- ---- all visits
past_apart : (n m : ℕ) (sums : List (ℕ × ℕ)) → past n sums ≡ true → m ≤ n → mem m (keys sums) ≡ true → ⊥
past_apart n m [] a l e = true≢false (sym e)
past_apart n m (s ∷ ss) a l e =
    let q : _ = and_parts (ltb n s.0) (past n ss) a in
    let b : n < s.0 = ltb-true n s.0 q.0 in
    past_apart n m ss q.1 l (later m s.0 (keys ss) e (omega arith))
  where
    later : (m k : ℕ) (ks : List ℕ) → mem m (k ∷ ks) ≡ true → m < k → mem m ks ≡ true
    later m k ks e l = grind arith

aways_noted : (p base : ℕ) (ns : List ℕ) (r : Count) (m : ℕ) → (mem m ns ≡ true → ⊥) → (told_aways p base ns r).noted m ≡ r.noted m
aways_noted p base [] r m ne = refl
aways_noted p base (n ∷ ns) r m ne = aways_noted p base ns (told_away r n p base) m (λ e. ne (tail n ns e)) ∙ upd_apart r.noted n m (base ∷ r.noted n) (λ e. ne (head n ns e))
  where
    tail : (n : ℕ) (ns : List ℕ) → mem m ns ≡ true → mem m (n ∷ ns) ≡ true
    tail n ns e = grind arith

    head : (n : ℕ) (ns : List ℕ) → m ≡ n → mem m (n ∷ ns) ≡ true
    head n ns e = grind arith

    upd_apart : (f : ℕ → List ℕ) (n m : ℕ) (v : List ℕ) → (m ≡ n → ⊥) → upd f n v m ≡ f m
    upd_apart f n m v e = rw (ne_eqb m n e)

pub fit_later : (b c : Books) (n p : ℕ) (sums : List (ℕ × ℕ)) → ((m : ℕ) → (m ≡ n → ⊥) → state_of c m ≡ state_of b m) → ((m q : ℕ) → (m ≡ n → ⊥) → row_of c.pages m q ≡ row_of b.pages m q) → past n sums ≡ true → FitAll b p sums → FitAll c p sums
fit_later b c n p [] ss rs a f = tt
fit_later b c n p (s ∷ rest) ss rs a f =
    let q : _ = and_parts (ltb n s.0) (past n rest) a in
    let ne : s.0 ≡ n → ⊥ = λ z. let l : n < s.0 = ltb-true n s.0 q.0 in omega arith in (
      record {
        used = ap (λ x. seg_is_free (seen x)) (ss s.0 ne) ∙ f.0.used;
        lies = ap here (rs s.0 p ne) ∙ f.0.lies;
        room = ap (enough s.1) (ss s.0 ne) ∙ f.0.room;
      },
      fit_later b c n p rest ss rs q.1 f.1,
    )

module _ {M : Type 0} (respond : M → Request → Answer × M) (set_up : Setting) (p k new : ℕ) where
  pub record Visited (sums : List (ℕ × ℕ)) (r : Count) (live : ℕ → ℤ) (w : World (M × Log)) (h : Holders) (z : World (M × Log)) : Type 0 where
    pub went : Went set_up (told_aways p k (keys sums) r) w h z
    pub bytes : Bytes (less_sums sums live) z.books
    pub opens : Opens w.books z.books
    pub blobs : z.books.blobs ≡ w.books.blobs

  open_lsn : (b c : Books) → Opens b c → (s : State) → state_of b new ≡ s → active (seen s) ≡ Some k → active (seg_of c.segments new) ≡ Some k
  open_lsn b c o (is.Free f) e at = absurd (let z : ◌≡◌ {A = ℕ} 0 1 = cc in omega arith)
  open_lsn b c o (is.Active a) e at = let x : _ = o new a e in ap (λ s. active (seen s)) x.1 ∙ ap (λ z. Some (nat_abs z)) x.2 ∙ at
  open_lsn b c o (is.Inactive i) e at = absurd (let z : ◌≡◌ {A = ℕ} 0 1 = cc in omega arith)
  open_lsn b c o (is.Draining d) e at = absurd (let z : ◌≡◌ {A = ℕ} 0 1 = cc in omega arith)

  pub visited_good : (sums : List (ℕ × ℕ)) (r : Count) (live : ℕ → ℤ) (w : World (M × Log)) (h : Holders) → Good set_up w r h → active (seg_of w.books.segments new) ≡ Some k → rising sums ≡ true → FitAll w.books p sums → Bytes live w.books → Visited sums r live w h (visited (recorded respond) p (pos k) sums w)
  unfolding visited
  visited_good [] r live w h g at up f bs = record { went = stayed set_up r w h g; bytes = bs; opens = λ m a e. (a, e, refl); blobs = refl }
  visited_good (s ∷ sums) r live w h g at up f bs =
      let n : ℕ = s.0 in
      let b : Books = w.books in
      let c : World (M × Log) = cleaned (recorded respond) n (world (taken_at n p (pos k) s.1 b) w.host) in
      let u : _ = and_parts (past n sums) (rising sums) up in
      let t : Went set_up (told_away r n p k) w h c = visit_good respond set_up p k r h w n s.1 new g f.0 at in
      let l : Visit respond set_up p k n s.1 b c.books = visit_leaves respond set_up p k r h w n s.1 new g f.0 at in
      let bc : Bytes (upd live n (live n -ℤ pos s.1)) c.books = λ m. weigh b c.books n s.1 bs l m (cases_eq m n) in
      let v : Visited sums (told_away r n p k) (upd live n (live n -ℤ pos s.1)) c t.now (visited (recorded respond) p (pos k) sums c) = visited_good sums (told_away r n p k) (upd live n (live n -ℤ pos s.1)) c t.now t.good (open_lsn b c.books l.opens (state_of b new) refl at) u.1 (fit_later b c.books n p sums l.states l.rows u.0 f.1) bc in
      let same : (m : ℕ) → seg_is_free (seg_of b.segments m) ≡ false → seg_is_free (seg_of c.books.segments m) ≡ true → (told_aways p k (keys sums) (told_away r n p k)).noted m ≡ (told_away r n p k).noted m = λ m x y. aways_noted p k (keys sums) (told_away r n p k) m (λ e. past_apart n m sums u.0 (at_n b c.books n m l.states x y (cases_eq m n)) e) in
      record {
        went = record {
          now = v.went.now;
          good = v.went.good;
          moved = moved_trans (told_aways p k (keys sums) (told_away r n p k)).noted (seg_of b.segments) h (seg_of c.books.segments) t.now (seg_of (visited (recorded respond) p (pos k) sums c).books.segments) v.went.now (moved_renote (told_away r n p k).noted (told_aways p k (keys sums) (told_away r n p k)).noted (seg_of b.segments) h (seg_of c.books.segments) t.now same t.moved) v.went.moved;
          level = v.went.level ∙ t.level;
          size = v.went.size ∙ t.size;
        };
        bytes = v.bytes;
        opens = λ m a e. let x : _ = l.opens m a e in let y : _ = v.opens m x.0 x.1 in (y.0, y.1, y.2 ∙ x.2);
        blobs = v.blobs ∙ l.blobs;
      }
    where
      weigh : (b c : Books) (n size : ℕ) → Bytes live b → Visit respond set_up p k n size b c → (m : ℕ) → (m ≡ n) ⊎ (m ≡ n → ⊥) → Weighs (upd live n (live n -ℤ pos size) m) (state_of c m)
      weigh b c n size old l m (inl e) = subst (λ q. Weighs (upd live n (live n -ℤ pos size) q) (state_of c q)) (sym e) (rw (eq-eqb n n refl) (l.weighs (live n) (old n)))
      weigh b c n size old l m (inr e) = rw (ne_eqb m n e) (subst (Weighs (live m)) (sym (l.states m e)) (old m))

      at_n : (b c : Books) (n m : ℕ) → ((m : ℕ) → (m ≡ n → ⊥) → state_of c m ≡ state_of b m) → seg_is_free (seg_of b.segments m) ≡ false → seg_is_free (seg_of c.segments m) ≡ true → (m ≡ n) ⊎ (m ≡ n → ⊥) → m ≤ n
      at_n b c n m ss x y (inl e) = omega arith
      at_n b c n m ss x y (inr e) = absurd (true≢false (sym y ∙ ap (λ q. seg_is_free (seen q)) (ss m e) ∙ x))
