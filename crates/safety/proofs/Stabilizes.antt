-- Stabilize as a whole: L is stored, then every Active segment in its range is deactivated, until the host refuses.
use Rattle.std.proofs.Common.{◌≡◌, ℕ, ◌<◌, ◌≤◌, Bool, true, false, cond, not, ◌&&◌, ◌||◌, ltb, leb, ◌⊎◌, List, [], ◌∷◌, ℤ, pos, negsuc, nat_abs, Some, None, Ok, Err, Option, sym, refl, ap, ◌∙◌, subst, inl, inr, arith}
use lib.Signed.{le_z, lt_z}
use Rattle.std.specs.Ordering.{is_lt, int_cmp}
use Rattle.std.specs.List.{ContainsAt as Has}
use Rattle.std.proofs.lemmas.Bool.{cases_lt, and_parts, true≢false, ltb-true, leb-true, lt-ltb, le-ltb, le-leb}
use Rattle.table.specs.Order.{signed_lawful}
use Rattle.table.specs.Rows.{every, find, ascending}
use Rattle.table.proofs.Laws.{has_find}
use Rattle.table.proofs.Filters.{has_from_kept, ascending_kept}
use Rattle.table.proofs.Orders.{rank_refl, every_has}
use Rattle.host.specs.Meaning.{Answer}
use Rattle.host.specs.declared.request.Request.{Request}
use Rattle.segment.specs.Rows.{ordering_key}
use Rattle.segment.specs.declared.state.State.{State}
use Rattle.segment.specs.declared.state.State.TheVariants as is
use Rattle.segment.specs.declared.state.Active as active-state
use Rattle.segment.specs.declared.rows.OrderingRow.{OrderingRow}
use Rattle.rules.specs.Books.{Books, World, world, state_of, with_stabilized}
use Rattle.rules.specs.Stabilizing.{deactivated, then_deactivated, deactivate_all, level, ripe, stabilized_to, stabilized_at}
use Rattle.rules.specs.Recount.{Recount, told_stable}
use Rattle.rules.specs.Runs.{Log, recorded}
use Rattle.safety.proofs.Plain.{Seg, active, is_none, the, mapped, Count, told_stored, seen, above, counted}
use Rattle.safety.proofs.Views.{Holders, store_keeps, active_ord}
use Rattle.safety.proofs.Looks.{number_in, seg_of, ord_of}
use Rattle.safety.proofs.Moves.{Moved, moved_refl}
use Rattle.safety.proofs.Steps.{Setting, view_of, Whole, Good, Went, stayed, then_went}
use Rattle.safety.proofs.Cleans.{active_is}
use Rattle.safety.proofs.Frames.{Lighter}
use Rattle.safety.proofs.Deacts.{has_first, has_later, Blobs, Deacted, deact_good}

-- an Active segment has this LSN, which is stable
abbrev pub Ripe : ℤ → Books → OrderingRow → Type 0
Ripe stored b row = (row.lsn ≡ pos (nat_abs row.lsn)) × (nat_abs row.lsn < above stored) × (active (seg_of b.segments (the (ord_of b.size b.ordering (nat_abs row.lsn)))) ≡ Some (nat_abs row.lsn))

the_some : (o : Option ℕ) (n : ℕ) → o ≡ Some n → the o ≡ n
the_some o n e = ap the e

is_open : (s : State) (k : ℕ) → active (seen s) ≡ Some k → (a : active-state.Active) × (s ≡ is.Active a)
is_open (is.Free f) k e = absurd (let z : ◌≡◌ {A = ℕ} 0 1 = cc in omega arith)
is_open (is.Active a) k e = (a, refl)
is_open (is.Inactive i) k e = absurd (let z : ◌≡◌ {A = ℕ} 0 1 = cc in omega arith)
is_open (is.Draining d) k e = absurd (let z : ◌≡◌ {A = ℕ} 0 1 = cc in omega arith)

module _ {M : Type 0} (respond : M → Request → Answer × M) (set_up : Setting) (r : Count) (given : List (ℤ × ℤ)) (stored : ℤ)
    (ok : (blob base : ℤ) → Has given (blob, base) → le_z base stored ≡ true → set_up.fine blob ≡ true) where
  pub record Folded (w : World (M × Log)) (h : Holders) (z : World (M × Log)) : Type 0 where
    pub went : Went set_up r w h z
    pub light : (m : ℕ) → Lighter (state_of w.books m) (state_of z.books m)
    pub blobs : Blobs given z.books

  -- a later row stays ripe
  still_ripe : (w : World (M × Log)) (h : Holders) (z : World (M × Log)) (l : ℕ) → active (seg_of w.books.segments (the (ord_of w.books.size w.books.ordering l))) ≡ Some l → Deacted respond set_up r given stored ok (the (ord_of w.books.size w.books.ordering l)) w h z → (row : OrderingRow) → Ripe stored w.books row → (nat_abs row.lsn ≡ l → ⊥) → Ripe stored z.books row
  still_ripe w h z l at d row rp ne =
      let k : ℕ = nat_abs row.lsn in
      let t : ℕ = the (ord_of w.books.size w.books.ordering l) in
      let u : ℕ = the (ord_of w.books.size w.books.ordering k) in
      let ak : active (seg_of w.books.segments u) ≡ Some k = rp.2 in
      let apart : u ≡ t → ⊥ = λ e. ne (the_same (seg_of w.books.segments) u t k l e ak at) in
      let op : _ = is_open (state_of w.books u) k ak in
      let st : state_of z.books u ≡ is.Active op.0 = d.spared.others u op.0 apart op.1 in
      let az : active (seg_of z.books.segments u) ≡ Some k = ap (λ s. active (seen s)) (st ∙ sym op.1) ∙ ak in
      let oz : ord_of z.books.size z.books.ordering k ≡ Some u = active_ord (view_of set_up z.books) r d.went.now d.went.good.inv u k az in
      (rp.0, rp.1, ap (λ n. active (seg_of z.books.segments n)) (the_some (ord_of z.books.size z.books.ordering k) u oz) ∙ az)
    where
      the_same : (s : ℕ → Seg) (u t k l : ℕ) → u ≡ t → active (s u) ≡ Some k → active (s t) ≡ Some l → k ≡ l
      the_same s u t k l e p q = ap the (sym p ∙ ap (λ n. active (s n)) e ∙ q)

  pub all_deacted : (rows : List OrderingRow) (w : World (M × Log)) (h : Holders) → Good set_up w r h → Blobs given w.books → w.books.stabilized ≡ stored → ascending ordering_key int_cmp rows ≡ true → ((row : OrderingRow) → Has rows row → Ripe stored w.books row) → Folded w h (deactivate_all (recorded respond) rows w).1
  unfolding deactivate_all
  all_deacted [] w h g bl lev up rp = record { went = stayed set_up r w h g; light = λ m l x. x; blobs = bl }
  all_deacted (row ∷ rows) w h g bl lev up rp = on (all_deacted rows) (nat_abs row.lsn) (rp row (has_first row rows)).0 refl
    where
      parts : (every (λ (y : OrderingRow). is_lt (int_cmp row.lsn y.lsn)) rows ≡ true) × (ascending ordering_key int_cmp rows ≡ true)
      parts = and_parts (every (λ (y : OrderingRow). is_lt (int_cmp row.lsn y.lsn)) rows) (ascending ordering_key int_cmp rows) up

      apart : (y : OrderingRow) → Has rows y → nat_abs y.lsn ≡ nat_abs row.lsn → ⊥
      apart y hy e =
          let a : is_lt (int_cmp row.lsn y.lsn) ≡ true = every_has (λ (q : OrderingRow). is_lt (int_cmp row.lsn q.lsn)) rows y parts.0 hy in
          let s : y.lsn ≡ row.lsn = (rp y (has_later row rows y hy)).0 ∙ ap pos e ∙ sym (rp row (has_first row rows)).0 in
          true≢false (sym a ∙ ap is_lt (ap (int_cmp row.lsn) s ∙ rank_refl signed_lawful row.lsn))

      then : ((c : World (M × Log)) (f : Holders) → Good set_up c r f → Blobs given c.books → c.books.stabilized ≡ stored → ascending ordering_key int_cmp rows ≡ true → ((y : OrderingRow) → Has rows y → Ripe stored c.books y) → Folded c f (deactivate_all (recorded respond) rows c).1)
          → (x : Answer × World (M × Log)) → Deacted respond set_up r given stored ok (the (ord_of w.books.size w.books.ordering (nat_abs row.lsn))) w h x.1 → Folded w h (then_deactivated (recorded respond) (deactivate_all (recorded respond) rows) x).1
      then ih (Ok u, c) d =
          let q : Folded c d.went.now (deactivate_all (recorded respond) rows c).1 = ih c d.went.now d.went.good d.blobs (d.went.level ∙ lev) parts.1 (λ y hy. still_ripe w h c (nat_abs row.lsn) (rp row (has_first row rows)).2 d y (rp y (has_later row rows y hy)) (apart y hy)) in
          record { went = then_went set_up r w h c _ d.went q.went; light = λ m l x. q.light m l (d.spared.light m l x); blobs = q.blobs }
      then ih (Err e, c) d = record { went = d.went; light = d.spared.light; blobs = d.blobs }

      on : ((c : World (M × Log)) (f : Holders) → Good set_up c r f → Blobs given c.books → c.books.stabilized ≡ stored → ascending ordering_key int_cmp rows ≡ true → ((y : OrderingRow) → Has rows y → Ripe stored c.books y) → Folded c f (deactivate_all (recorded respond) rows c).1)
          → (l : ℕ) → row.lsn ≡ pos l → l ≡ nat_abs row.lsn → Folded w h (then_deactivated (recorded respond) (deactivate_all (recorded respond) rows) (deactivated (recorded respond) row.lsn w)).1
      on ih l e f = then ih (deactivated (recorded respond) row.lsn w)
          (subst (λ z. Deacted respond set_up r given stored ok (the (ord_of w.books.size w.books.ordering (nat_abs row.lsn))) w h (deactivated (recorded respond) z w).1) (sym (rp row (has_first row rows)).0)
          (deact_good respond set_up r given stored ok w h (nat_abs row.lsn) g bl lev (rp row (has_first row rows)).1 (rp row (has_first row rows)).2))

-- ---- the range
sign_above : (old z : ℤ) → le_z (negsuc 0) old ≡ true → lt_z old z ≡ true → z ≡ pos (nat_abs z)
sign_above old (pos k) e f = refl
sign_above (pos j) (negsuc k) e f = absurd (true≢false (sym f))
sign_above (negsuc j) (negsuc k) e f = absurd (omega (arith, leb-true j 0 e, ltb-true k j f))

above_low : (old : ℤ) (l : ℕ) → lt_z old (pos l) ≡ true → above old ≤ l
above_low (pos k) l e = omega (arith, ltb-true k l e)
above_low (negsuc k) l e = omega arith

low_above : (l : ℕ) (new : ℤ) → le_z (pos l) new ≡ true → l < above new
low_above l (pos k) e = omega (arith, leb-true l k e)
low_above l (negsuc k) e = absurd (true≢false (sym e))

above_up : (old new : ℤ) → lt_z old new ≡ true → above old ≤ above new
above_up (pos a) (pos b) e = omega (arith, ltb-true a b e)
above_up (pos a) (negsuc b) e = absurd (true≢false (sym e))
above_up (negsuc a) new e = omega arith

sign_up : (old new : ℤ) → le_z (negsuc 0) old ≡ true → lt_z old new ≡ true → le_z (negsuc 0) new ≡ true
sign_up old (pos b) e f = refl
sign_up (pos a) (negsuc b) e f = absurd (true≢false (sym f))
sign_up (negsuc a) (negsuc b) e f = absurd (omega (arith, leb-true a 0 e, ltb-true b a f))

none_false : (o : Option ℕ) → (is_none o ≡ true → ⊥) → is_none o ≡ false
none_false None f = absurd (f refl)
none_false (Some x) f = refl

pub le_not : (a b : ℤ) → le_z a b ≡ not (lt_z b a)
le_not (pos a) (pos b) = on (cases_lt b a)
  where
    on : (b < a) ⊎ (a ≤ b) → leb a b ≡ not (ltb b a)
    on (inl l) = bool (leb a b) (ltb b a) (λ e. omega (arith, leb-true a b e, l)) (lt-ltb b a l)
      where
        bool : (s t : Bool) → (s ≡ true → ⊥) → t ≡ true → s ≡ not t
        bool true t f e = absurd (f refl)
        bool false t f e = sym (ap not e)
    on (inr l) = le-leb a b l ∙ sym (ap not (le-ltb b a l))
le_not (pos a) (negsuc b) = refl
le_not (negsuc a) (pos b) = refl
le_not (negsuc a) (negsuc b) = on (cases_lt a b)
  where
    on : (a < b) ⊎ (b ≤ a) → leb b a ≡ not (ltb a b)
    on (inl l) = bool (leb b a) (ltb a b) (λ e. omega (arith, leb-true b a e, l)) (lt-ltb a b l)
      where
        bool : (s t : Bool) → (s ≡ true → ⊥) → t ≡ true → s ≡ not t
        bool true t f e = absurd (f refl)
        bool false t f e = sym (ap not e)
    on (inr l) = le-leb b a l ∙ sym (ap not (le-ltb a b l))

module _ {M : Type 0} (respond : M → Request → Answer × M) (set_up : Setting) where
  pub ripe_rows : (r : Count) (h : Holders) (w : World (M × Log)) (new : ℤ) → Good set_up w r h → (row : OrderingRow) → Has (ripe w.books.stabilized new w.books.ordering) row → Ripe new w.books row
  ripe_rows r h w new g row hr =
      let b : Books = w.books in
      let old : ℤ = b.stabilized in
      let k : _ = has_from_kept (λ (q : OrderingRow). lt_z old q.lsn && le_z q.lsn new) b.ordering row hr in
      let p : _ = and_parts (lt_z old row.lsn) (le_z row.lsn new) k.1 in
      let l : ℕ = nat_abs row.lsn in
      let sg : row.lsn ≡ pos l = sign_above old row.lsn g.whole.stored_sign p.0 in
      let fd : ord_of b.size b.ordering l ≡ Some (number_in b.size row) = ap (λ z. mapped (number_in b.size) (find ordering_key int_cmp b.ordering z)) (sym sg) ∙ ap (mapped (number_in b.size)) (has_find ordering_key signed_lawful b.ordering row g.whole.ord_up k.0) in
      let n : ℕ = number_in b.size row in
      let up : above old ≤ l = above_low old l (ap (lt_z old) (sym sg) ∙ p.0) in
      let nn : is_none (active (seg_of b.segments n)) ≡ false = none_false (active (seg_of b.segments n)) (λ e. let q : l < above old = g.inv.shut_low l n fd e in omega arith) in
      let at : active (seg_of b.segments n) ≡ Some l = active_is (seg_of b.segments n) l nn (g.inv.ord_seg l n fd) in
      (sg, low_above l new (ap (λ z. le_z z new) (sym sg) ∙ p.1), ap (λ m. active (seg_of b.segments m)) (the_some (ord_of b.size b.ordering l) n fd) ∙ at)

-- ---- the call
module _ {M : Type 0} (respond : M → Request → Answer × M) (set_up : Setting) (r : Recount) where
  pub record Stabilized (now_told : Recount) (w : World (M × Log)) (h : Holders) (z : World (M × Log)) : Type 0 where
    pub now : Holders
    pub good : Good set_up z (counted now_told) now
    pub moved : Moved (counted now_told).noted (seg_of w.books.segments) h (seg_of z.books.segments) now
    pub level : z.books.stabilized ≡ now_told.stored
    pub size : z.books.size ≡ w.books.size
    pub light : (m : ℕ) → Lighter (state_of w.books m) (state_of z.books m)
    pub blobs : Blobs now_told.given z.books

  abbrev stored_to : ℤ → Recount
  stored_to new = Rattle.rules.specs.Recount.recount r.size r.lsn r.live r.lies r.noted new r.given

  to_good : (w : World (M × Log)) (h : Holders) (new : ℤ) → Good set_up w (counted r) h → Blobs r.given w.books → lt_z w.books.stabilized new ≡ true → ((blob base : ℤ) → Has r.given (blob, base) → le_z base new ≡ true → set_up.fine blob ≡ true) → Stabilized (stored_to new) w h (stabilized_to (recorded respond) new w).1
  to_good w h new g bl up ok =
      let b : Books = w.books in
      let wh : Whole b = g.whole in
      let w1 : World (M × Log) = world (with_stabilized new b) w.host in
      let g1 : Good set_up w1 (told_stored (counted r) (above new)) h = record {
        whole = record {
          some = wh.some;
          free_up = wh.free_up;
          ord_up = wh.ord_up;
          pages_up = wh.pages_up;
          keep_up = wh.keep_up;
          room = wh.room;
          tip_even = wh.tip_even;
          free_even = wh.free_even;
          counts = wh.counts;
          signs = wh.signs;
          keep_signs = wh.keep_signs;
          stored_sign = sign_up b.stabilized new wh.stored_sign up;
        };
        inv = store_keeps (view_of set_up b) (counted r) h (above new) g.inv (above_up b.stabilized new up);
        asked = g.asked;
      } in
      let f : Folded respond set_up (counted (stored_to new)) r.given new ok w1 h (stabilized_to (recorded respond) new w).1 =
      all_deacted respond set_up (counted (stored_to new)) r.given new ok (ripe b.stabilized new b.ordering) w1 h g1 bl refl (ascending_kept ordering_key signed_lawful (λ (q : OrderingRow). lt_z b.stabilized q.lsn && le_z q.lsn new) b.ordering wh.ord_up)
      (λ row hr. let q : _ = ripe_rows respond set_up (counted r) h w new g row hr in (q.0, q.1, q.2)) in
      record { now = f.went.now; good = f.went.good; moved = f.went.moved; level = f.went.level; size = f.went.size; light = f.light; blobs = f.blobs }

  pub stabilized_good : (w : World (M × Log)) (h : Holders) (lsn : ℤ) → Good set_up w (counted r) h → Blobs r.given w.books → r.stored ≡ w.books.stabilized → r.size ≡ w.books.size → ((blob base : ℤ) → Has r.given (blob, base) → le_z base (told_stable lsn r).stored ≡ true → set_up.fine blob ≡ true) → Stabilized (told_stable lsn r) w h (stabilized_at (recorded respond) lsn w).1
  stabilized_good w h lsn g bl es ez ok = on (lt_z lsn (pos 0)) (lt_z w.books.stabilized lev) tests refl ok
    where
      lev : ℤ
      lev = level w.books.size lsn

      same_level : lt_z r.stored (level r.size lsn) ≡ lt_z w.books.stabilized lev
      same_level = λ i. lt_z (es i) (level (ez i) lsn)

      tests : le_z lev w.books.stabilized ≡ not (lt_z w.books.stabilized lev)
      tests = le_not lev w.books.stabilized

      on : (s t : Bool) → le_z lev w.books.stabilized ≡ not t → lt_z w.books.stabilized lev ≡ t → ((blob base : ℤ) → Has r.given (blob, base) → le_z base (cond (not s && lt_z r.stored (level r.size lsn)) (stored_to (level r.size lsn)) r).stored ≡ true → set_up.fine blob ≡ true)
          → Stabilized (cond (not s && lt_z r.stored (level r.size lsn)) (stored_to (level r.size lsn)) r) w h (cond (s || le_z lev w.books.stabilized) (Ok tt, w) (stabilized_to (recorded respond) lev w)).1
      on true t e f k = record { now = h; good = g; moved = moved_refl (counted r).noted (seg_of w.books.segments) h; level = sym es; size = refl; light = λ m l x. x; blobs = bl }
      on false true e f k =
          rw (same_level ∙ f) (rw e (subst (λ z. Stabilized (stored_to z) w h (stabilized_to (recorded respond) lev w).1) (sym (ap (λ z. level z lsn) ez))
          (to_good w h lev g bl f (λ blob base hg q. k blob base hg (rw (same_level ∙ f) (ap (λ z. le_z base (level z lsn)) ez ∙ q))))))
      on false false e f k = rw (same_level ∙ f) (rw e (record { now = h; good = g; moved = moved_refl (counted r).noted (seg_of w.books.segments) h; level = sym es; size = refl; light = λ m l x. x; blobs = bl }))
