-- Stabilize goes well: what a segment holds back is freed row by row, then it is closed, cleaned and the share is looked at; segment after segment.
use Rattle.std.proofs.Common.{◌≡◌, ℕ, ◌/◌, ◌<◌, Bool, true, false, cond, eqb, ◌⊎◌, List, [], ◌∷◌, length, ℤ, pos, negsuc, nat_abs, is_some, Some, None, filter, Option, Ordering, Less, Equal, Greater, sym, refl, ap, ◌∙◌, subst, inl, inr, arith}
use lib.Signed.{non_neg}
use Rattle.std.specs.Ordering.{is_lt, is_eq, nat_cmp, int_cmp}
use Rattle.std.proofs.lemmas.Bool.{cases_eq, eq-eqb, ne_eqb, and_parts, and_from, true≢false, cond-true}
use Rattle.table.specs.Order.{unsigned_lawful}
use Rattle.table.specs.Rows.{every, find, remove_row, ascending, towards}
use Rattle.table.proofs.Laws.{ascending_remove, every_cut, find_first, find_above}
use Rattle.table.proofs.Filters.{find_kept, ascending_kept, every_kept}
use Rattle.table.proofs.Orders.{rank_refl}
use Rattle.host.specs.Meaning.{Answer}
use Rattle.host.specs.declared.request.Request.{Request}
use Rattle.segment.specs.Rows.{ordering_key, freeable_key, by_signed}
use Rattle.segment.specs.declared.state.State.{State}
use Rattle.segment.specs.declared.state.State.TheVariants as is
use Rattle.segment.specs.declared.rows.OrderingRow.{OrderingRow}
use Rattle.segment.specs.declared.rows.FreeableRow.{FreeableRow}
use Rattle.rules.specs.Books.{Books, World, world, state_of, with_freeable}
use Rattle.rules.specs.Freeing.{put_free, unordered, without_lsn, freed}
use Rattle.rules.specs.Stabilizing.{held_back_by, number_at, number_of_lsn, release, release_all}
use Rattle.rules.specs.Recount.{upd}
use Rattle.rules.specs.Runs.{Log, recorded}
use Rattle.safety.proofs.Plain.{seg_is_free, active, lsn_of, the, mapped, upd2, Count, seen, above}
use Rattle.safety.proofs.Views.{View, view, Holders, Inv, v_release, release_keeps}
use Rattle.safety.proofs.Looks.{signed_law, number_in, seg_of, on_of, ord_of, row_of, keep_of, keep_remove, find_skip}
use Rattle.safety.proofs.Steps.{Setting, view_of, PlusOpt, Positive, Whole, Good, put_whole, put_view}
use Rattle.safety.proofs.Cleans.{Trimmed, cut_trims, cut_tail_good}

-- ---- a number by its LSN
number_is : (b : Books) (o : Option OrderingRow) → number_at b o ≡ the (mapped (number_in b.size) o)
number_is b None = refl
number_is b (Some row) = refl

pub number_the : (b : Books) (l : ℕ) → number_of_lsn b (pos l) ≡ the (ord_of b.size b.ordering l)
number_the b l = number_is b (find ordering_key int_cmp b.ordering (pos l))

-- a former LSN leads to its ordering row
former : (s : State) (l : ℕ) (rows : List OrderingRow) → seg_is_free (seen s) ≡ true → lsn_of (seen s) ≡ Some l → Positive s → unordered s rows ≡ remove_row ordering_key int_cmp rows (pos l)
former (is.Free f) l rows e h p = on f.previous_lsn h p
  where
    on : (o : Option ℤ) → mapped nat_abs o ≡ Some l → PlusOpt o → without_lsn o rows ≡ remove_row ordering_key int_cmp rows (pos l)
    on None h p = absurd (let z : ◌≡◌ {A = ℕ} 0 1 = cc in omega arith)
    on (Some z) h p = let q : nat_abs z ≡ l = cc in ap (remove_row ordering_key int_cmp rows) (p ∙ ap pos q)
former (is.Active a) l rows e h p = absurd (true≢false (sym e))
former (is.Inactive i) l rows e h p = absurd (true≢false (sym e))
former (is.Draining d) l rows e h p = absurd (true≢false (sym e))

-- ---- one row of t
pub record LetGo (t : ℕ) (b : Books) (h : Holders) (c : Books) (g : Holders) : Type 0 where
  pub segments : c.segments ≡ b.segments
  pub less : (n u : ℕ) → g n ≡ Some u → h n ≡ Some u
  pub more : (n u : ℕ) → (u ≡ t → ⊥) → h n ≡ Some u → g n ≡ Some u
  pub level : c.stabilized ≡ b.stabilized
  pub size : c.size ≡ b.size
  pub blobs : c.blobs ≡ b.blobs

let_go_then : (t : ℕ) (b : Books) (h : Holders) (c : Books) (g : Holders) (d : Books) (f : Holders) → LetGo t b h c g → LetGo t c g d f → LetGo t b h d f
let_go_then t b h c g d f p q = record {
  segments = q.segments ∙ p.segments;
  less = λ n u e. p.less n u (q.less n u e);
  more = λ n u k e. q.more n u k (p.more n u k e);
  level = q.level ∙ p.level;
  size = q.size ∙ p.size;
  blobs = q.blobs ∙ p.blobs;
}

upd_less : (h : Holders) (n m u : ℕ) → upd h n None m ≡ Some u → h m ≡ Some u
upd_less h n m u e = grind arith

upd_more : (h : Holders) (n m u t : ℕ) → h n ≡ Some t → (u ≡ t → ⊥) → h m ≡ Some u → upd h n None m ≡ Some u
upd_more h n m u t e d f = grind arith

abbrev unkept : Books → ℕ → ℕ → Books
unkept b t l = with_freeable (remove_row freeable_key by_signed b.freeable (t, pos l)) b

abbrev pub held_row : ℕ → ℕ → FreeableRow
held_row t l = record { segment = t; lsn = pos l }

module _ {M : Type 0} (respond : M → Request → Answer × M) (set_up : Setting) (r : Count) where
  pub record Released (t l : ℕ) (w : World (M × Log)) (h : Holders) (z : World (M × Log)) : Type 0 where
    pub now : Holders
    pub good : Good set_up z r now
    pub went : LetGo t w.books h z.books now
    pub rows : keep_of z.books.freeable ≡ upd2 (keep_of w.books.freeable) t l false

  pub release_good : (w : World (M × Log)) (h : Holders) (t l x : ℕ) → Good set_up w r h → keep_of w.books.freeable t l ≡ true → active (seg_of w.books.segments t) ≡ Some x → x < above w.books.stabilized → Released t l w h (release (recorded respond) (held_row t l) w)
  release_good w h t l x g kept at low =
      let b : Books = w.books in
      let n : ℕ = the (ord_of b.size b.ordering l) in
      let v : View = view_of set_up b in
      let i : Inv v r h = g.inv in
      let wh : Whole b = g.whole in
      let on : v.ord l ≡ Some n = i.keep_ord t l kept in
      let hn : h n ≡ Some t = i.keep_held t l kept in
      let fr : seg_is_free (v.seg n) ≡ true = i.held_free n t hn in
      let c : Books = unkept b t l in
      let wc : Whole c = record {
        some = wh.some;
        free_up = wh.free_up;
        ord_up = wh.ord_up;
        pages_up = wh.pages_up;
        keep_up = ascending_remove freeable_key signed_law b.freeable (t, pos l) wh.keep_up;
        room = wh.room;
        tip_even = wh.tip_even;
        free_even = wh.free_even;
        counts = wh.counts;
        signs = wh.signs;
        keep_signs = every_cut (λ (row : FreeableRow). non_neg row.lsn) (towards freeable_key by_signed (t, pos l)) b.freeable wh.keep_signs;
        stored_sign = wh.stored_sign;
      } in
      let un : unordered (state_of b n) b.ordering ≡ remove_row ordering_key int_cmp b.ordering (pos l) = former (state_of b n) l b.ordering fr (i.ord_seg l n on) (wh.signs n) in
      let vc : view_of set_up (put_free n c) ≡ v_release v t l = put_view set_up c n l wc un ∙ (λ j. view (b.tip / b.size) (seg_of b.segments) (upd (on_of b.size b.free) n true) (upd (ord_of b.size b.ordering) l None) (upd (row_of b.pages) n (λ q. None)) (keep_remove b.freeable t l wh.keep_up j) (above b.stabilized) set_up.waiting) in
      let y : World (M × Log) = world (put_free n c) w.host in
      let gy : Good set_up y r (upd h n None) = record { whole = put_whole c n wc fr; inv = subst (λ q. Inv q r (upd h n None)) (sym vc) (release_keeps v r h t l x i kept at low); asked = g.asked } in
      let k : ℕ = length (put_free n c).free in
      let tr : Trimmed (put_free n c) (freed (recorded respond) n (world c w.host)).books = cut_trims (recorded respond) k y in
      let rel : Released t l w h (freed (recorded respond) n (world c w.host)) = record {
        now = upd h n None;
        good = cut_tail_good respond set_up r (upd h n None) k y gy;
        went = record { segments = tr.segments; less = λ m u e. upd_less h n m u e; more = λ m u d e. upd_more h n m u t hn d e; level = tr.level; size = tr.size; blobs = tr.blobs };
        rows = ap keep_of tr.freeable ∙ keep_remove b.freeable t l wh.keep_up;
      } in
      subst (λ m. Released t l w h (freed (recorded respond) m (world c w.host))) (sym (number_the b l)) rel

-- ---- all rows of t
bool_false : (s : Bool) → (s ≡ true → ⊥) → s ≡ false
bool_false true f = absurd (f refl)
bool_false false f = refl

some_not : (o : Option FreeableRow) → o ≡ None → is_some o ≡ false
some_not o e = ap is_some e

upd2_here : (f : ℕ → ℕ → Bool) (t l k : ℕ) → k ≡ l → upd2 f t l false t k ≡ false
upd2_here f t l k e = rw (eq-eqb t t refl) (rw (eq-eqb k l e) refl)

upd2_there : (f : ℕ → ℕ → Bool) (t l k : ℕ) → (k ≡ l → ⊥) → upd2 f t l false t k ≡ f t k
upd2_there f t l k e = rw (eq-eqb t t refl) (rw (ne_eqb k l e) refl)

-- the rows after the first
keep_rest : (t l : ℕ) (ys : List FreeableRow) → ascending freeable_key by_signed (held_row t l ∷ ys) ≡ true → (k : ℕ) → keep_of ys t k ≡ upd2 (keep_of (held_row t l ∷ ys)) t l false t k
keep_rest t l ys up k = on (cases_eq k l)
  where
    gone : find freeable_key by_signed ys (t, pos l) ≡ None
    gone = find_above freeable_key signed_law ys (t, pos l) (and_parts (every (λ (y : FreeableRow). is_lt (by_signed (t, pos l) (freeable_key y))) ys) (ascending freeable_key by_signed ys) up).0

    on : (k ≡ l) ⊎ (k ≡ l → ⊥) → keep_of ys t k ≡ upd2 (keep_of (held_row t l ∷ ys)) t l false t k
    on (inl e) = ap (keep_of ys t) e ∙ ap is_some gone ∙ sym (upd2_here (keep_of (held_row t l ∷ ys)) t l k e)
    on (inr e) = ap is_some (find_skip freeable_key signed_law (held_row t l) ys (t, pos k) up (λ z. e (sym (ap (λ (q : ℕ × ℤ). nat_abs q.1) z)))) ∙ sym (upd2_there (keep_of (held_row t l ∷ ys)) t l k e)

row_is : (t : ℕ) (y : FreeableRow) → is_eq (nat_cmp y.segment t) ≡ true → non_neg y.lsn ≡ true → y ≡ held_row t (nat_abs y.lsn)
row_is t y e f = λ i. record { segment = same (nat_cmp y.segment t) refl e i; lsn = plus y.lsn f i }
  where
    same : (o : Ordering) → nat_cmp y.segment t ≡ o → is_eq o ≡ true → y.segment ≡ t
    same Less q e = absurd (true≢false (sym e))
    same Equal q e = unsigned_lawful.same y.segment t q
    same Greater q e = absurd (true≢false (sym e))

    plus : (z : ℤ) → non_neg z ≡ true → z ≡ pos (nat_abs z)
    plus (pos k) e = refl
    plus (negsuc k) e = absurd (true≢false (sym e))

module _ {M : Type 0} (respond : M → Request → Answer × M) (set_up : Setting) (r : Count) (t x : ℕ) where
  pub record AllReleased (w : World (M × Log)) (h : Holders) (z : World (M × Log)) : Type 0 where
    pub now : Holders
    pub good : Good set_up z r now
    pub went : LetGo t w.books h z.books now
    pub none : (k : ℕ) → keep_of z.books.freeable t k ≡ false

  pub all_released : (xs : List FreeableRow) (w : World (M × Log)) (h : Holders) → Good set_up w r h → active (seg_of w.books.segments t) ≡ Some x → x < above w.books.stabilized → ascending freeable_key by_signed xs ≡ true
      → every (λ (y : FreeableRow). is_eq (nat_cmp y.segment t)) xs ≡ true → every (λ (y : FreeableRow). non_neg y.lsn) xs ≡ true → ((k : ℕ) → keep_of xs t k ≡ keep_of w.books.freeable t k) → AllReleased w h (release_all (recorded respond) xs w)
  unfolding release_all
  all_released [] w h g at low up mine plus link = record {
    now = h;
    good = g;
    went = record { segments = refl; less = λ n u e. e; more = λ n u d e. e; level = refl; size = refl; blobs = refl };
    none = λ k. sym (link k);
  }
  all_released (y ∷ ys) w h g at low up mine plus link =
      on (all_released ys) (nat_abs y.lsn) (row_is t y pm.0 pp.0)
    where
      pm : (is_eq (nat_cmp y.segment t) ≡ true) × (every (λ (q : FreeableRow). is_eq (nat_cmp q.segment t)) ys ≡ true)
      pm = and_parts (is_eq (nat_cmp y.segment t)) (every (λ (q : FreeableRow). is_eq (nat_cmp q.segment t)) ys) mine

      pp : (non_neg y.lsn ≡ true) × (every (λ (q : FreeableRow). non_neg q.lsn) ys ≡ true)
      pp = and_parts (non_neg y.lsn) (every (λ (q : FreeableRow). non_neg q.lsn) ys) plus

      tail_up : ascending freeable_key by_signed ys ≡ true
      tail_up = (and_parts (every (λ (q : FreeableRow). is_lt (by_signed (freeable_key y) (freeable_key q))) ys) (ascending freeable_key by_signed ys) up).1

      on : ((c : World (M × Log)) (f : Holders) → Good set_up c r f → active (seg_of c.books.segments t) ≡ Some x → x < above c.books.stabilized → ascending freeable_key by_signed ys ≡ true
          → every (λ (q : FreeableRow). is_eq (nat_cmp q.segment t)) ys ≡ true → every (λ (q : FreeableRow). non_neg q.lsn) ys ≡ true → ((k : ℕ) → keep_of ys t k ≡ keep_of c.books.freeable t k) → AllReleased c f (release_all (recorded respond) ys c))
          → (l : ℕ) → y ≡ held_row t l → AllReleased w h (release_all (recorded respond) ys (release (recorded respond) y w))
      on ih l e =
          let upl : ascending freeable_key by_signed (held_row t l ∷ ys) ≡ true = subst (λ q. ascending freeable_key by_signed (q ∷ ys) ≡ true) e up in
          let lk : (k : ℕ) → keep_of (held_row t l ∷ ys) t k ≡ keep_of w.books.freeable t k = subst (λ q. (k : ℕ) → keep_of (q ∷ ys) t k ≡ keep_of w.books.freeable t k) e link in
          let kept : keep_of w.books.freeable t l ≡ true = sym (lk l) ∙ ap is_some (find_first freeable_key signed_law (held_row t l) ys) in
          let p : Released respond set_up r t l w h (release (recorded respond) (held_row t l) w) = release_good respond set_up r w h t l x g kept at low in
          let c : World (M × Log) = release (recorded respond) (held_row t l) w in
          let q : AllReleased c p.now (release_all (recorded respond) ys c) = ih c p.now p.good
          (ap (λ (s : List State). active (seg_of s t)) p.went.segments ∙ at) (subst (λ k. x < above k) (sym p.went.level) low) tail_up pm.1 pp.1
          (λ k. keep_rest t l ys upl k ∙ same2 (keep_of (held_row t l ∷ ys)) (keep_of w.books.freeable) l k (lk k) ∙ sym (ap (λ (f : ℕ → ℕ → Bool). f t k) p.rows)) in
          subst (λ z. AllReleased w h (release_all (recorded respond) ys (release (recorded respond) z w))) (sym e)
          (record { now = q.now; good = q.good; went = let_go_then t w.books h c.books p.now (release_all (recorded respond) ys c).books q.now p.went q.went; none = q.none })
        where
          same2 : (f g : ℕ → ℕ → Bool) (l k : ℕ) → f t k ≡ g t k → upd2 f t l false t k ≡ upd2 g t l false t k
          same2 f g l k e = λ i. cond (eqb t t) (cond (eqb k l) false (e i)) (e i)

-- the rows of t are those that it holds back
every_own : {X : Type 0} (p : X → Bool) (xs : List X) → every p (filter p xs) ≡ true
every_own p [] = refl
every_own p (x ∷ xs) = on (every_own p xs) (p x) refl
  where
    on : every p (filter p xs) ≡ true → (t : Bool) → p x ≡ t → every p (cond t (x ∷ filter p xs) (filter p xs)) ≡ true
    on ih true e = and_from (p x) (every p (filter p xs)) e ih
    on ih false e = ih

pub held_back_same : (t k : ℕ) (rows : List FreeableRow) → ascending freeable_key by_signed rows ≡ true → keep_of (held_back_by t rows) t k ≡ keep_of rows t k
held_back_same t k rows up = ap is_some (find_kept freeable_key signed_law (λ q. is_eq (nat_cmp q.0 t)) rows (t, pos k) up ∙ cond-true (is_eq (nat_cmp t t)) (find freeable_key by_signed rows (t, pos k)) None (ap is_eq (rank_refl unsigned_lawful t)))

module _ {M : Type 0} (respond : M → Request → Answer × M) (set_up : Setting) (r : Count) where
  pub every_released : (t x : ℕ) (w : World (M × Log)) (h : Holders) → Good set_up w r h → active (seg_of w.books.segments t) ≡ Some x → x < above w.books.stabilized → AllReleased respond set_up r t x w h (release_all (recorded respond) (held_back_by t w.books.freeable) w)
  every_released t x w h g at low = all_released respond set_up r t x (held_back_by t w.books.freeable) w h g at low
      (ascending_kept freeable_key signed_law (λ (y : FreeableRow). is_eq (nat_cmp y.segment t)) w.books.freeable g.whole.keep_up)
      (every_own (λ (y : FreeableRow). is_eq (nat_cmp y.segment t)) w.books.freeable)
      (every_kept (λ (y : FreeableRow). is_eq (nat_cmp y.segment t)) (λ (y : FreeableRow). non_neg y.lsn) w.books.freeable g.whole.keep_signs)
      (λ k. held_back_same t k w.books.freeable g.whole.keep_up)
