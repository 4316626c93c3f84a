-- Each call on sound books leaves sound books, and a log whose cuts lie at or above the tip and whose removed blobs were given up.
use Rattle.std.proofs.Common.{◌≡◌, ℕ, zero, suc, ◌/◌, Bool, true, false, cond, not, ◌&&◌, ◌||◌, List, [], ◌∷◌, get_or, ℤ, pos, negsuc, Some, None, Option, sym, refl, ap, ◌∙◌, subst, arith}
use lib.Signed.{le_z, lt_z, non_neg}
use Rattle.std.specs.List.{ContainsAt as Has}
use Rattle.std.proofs.lemmas.Bool.{cases_eq, cases_lt, eq-eqb, ne_eqb, eqb-true, and_parts, and_from, true≢false, not-true, ltb-true}
use Rattle.table.specs.Rows.{every, find, insert_row, remove_row, own_key, towards}
use Rattle.table.proofs.Laws.{ascending_insert, has_find}
use Rattle.table.proofs.Filters.{has_from_kept}
use Rattle.host.specs.Meaning.{Answer}
use Rattle.host.specs.declared.request.Request.{Request}
use Rattle.segment.specs.Rows.{page_key, by_page}
use Rattle.segment.specs.Signs.{same_z}
use Rattle.segment.specs.declared.rows.PageRow.{PageRow}
use Rattle.segment.specs.declared.rows.FaultRow.{FaultRow}
use Rattle.segment.specs.declared.state.State.{State}
use Rattle.rules.specs.Books.{Books, World, world, unused, state_of, segment_of, with_listed, with_faults}
use Rattle.rules.specs.HandingOut.{popped_from, popped_at}
use Rattle.rules.specs.Pages.{is_in, queue_of, queued_row, rows_of}
use Rattle.rules.specs.Recount.{Recount, recount, told_stable}
use Rattle.rules.specs.Runs.{Log, recorded}
use Rattle.rules.specs.Safety.{holds_after}
use Rattle.rules.specs.Stabilizing.{level, stabilized_at}
use Rattle.safety.proofs.Plain.{Seg, Free, Active, seg_is_free, active, is_none, mapped, greatest, plain, Count, counted, seen, told_next}
use Rattle.safety.proofs.Views.{view, Holders, Inv}
use Rattle.safety.proofs.Looks.{page_law, seg_of, on_of, ord_of, row_of, keep_of, mark, row_insert}
use Rattle.safety.proofs.Counts.{tally, left_in, tally_put}
use Rattle.safety.proofs.Moves.{Moved, moved_refl}
use Rattle.safety.proofs.Steps.{view_of, Plus, Whole, clear, Good}
use Rattle.safety.proofs.Frames.{Weighs}
use Rattle.safety.proofs.Deacts.{has_first}
use Rattle.safety.proofs.Stabilizes.{Stabilized, stabilized_good}
use Rattle.safety.proofs.Takes.{upd2_id}
use Rattle.safety.proofs.Accepts.{calm, Sound, Accepted, blobs_opens}
use Rattle.safety.proofs.Holding.{is_at, words, moved_link}
use Rattle.std.specs.Ordering.{nat_cmp}

-- ---- blobs that may be removed
abbrev pub fine_in : ℤ → List (ℤ × ℤ) → ℤ → Bool
fine_in stored [] blob = false
fine_in stored (x ∷ xs) blob = (same_z x.0 blob && le_z x.1 stored) || fine_in stored xs blob

abbrev pub fine_of : Recount → ℤ → Bool
fine_of r = fine_in r.stored r.given

same_self : (z : ℤ) → same_z z z ≡ true
same_self (pos a) = eq-eqb a a refl
same_self (negsuc a) = eq-eqb a a refl

pub fine_has : (stored : ℤ) (given : List (ℤ × ℤ)) (blob base : ℤ) → Has given (blob, base) → le_z base stored ≡ true → fine_in stored given blob ≡ true
fine_has stored [] blob base (k, l, at) e = absurd (omega arith)
fine_has stored (x ∷ xs) blob base (zero, l, at) e = Rattle.std.proofs.lemmas.Bool.or_left (same_z x.0 blob && le_z x.1 stored) (fine_in stored xs blob) (subst (λ (y : ℤ × ℤ). (same_z y.0 blob && le_z y.1 stored) ≡ true) (sym (at x)) (and_from (same_z blob blob) (le_z base stored) (same_self blob) e))
fine_has stored (x ∷ xs) blob base (suc k, l, at) e = Rattle.std.proofs.lemmas.Bool.or_right (same_z x.0 blob && le_z x.1 stored) (fine_in stored xs blob) (fine_has stored xs blob base (k, omega arith, at) e)

-- ---- what holds between calls
pub record Kept (b : Books) (r : Recount) (holds : ℕ → ℕ → Bool) : Type 0 where
  pub now : Holders
  pub sound : Sound b r now
  pub linked : (n t : ℕ) → holds n t ≡ is_at (now n) t

pub record Quiet (r : Recount) (holds : ℕ → ℕ → Bool) : Type 0 where
  pub lies : (n p : ℕ) → r.lies n p ≡ false
  pub noted : (n : ℕ) → r.noted n ≡ []
  pub held : (n t : ℕ) → holds n t ≡ false

abbrev pub Along : Option Books → Recount → (ℕ → ℕ → Bool) → Type 0
Along None r holds = Quiet r holds
Along (Some b) r holds = Kept b r holds

abbrev pub Cleared : Option Books → Recount → Log → Type 0
Cleared None r log = every (clear (fine_of r) 0) log ≡ true
Cleared (Some b) r log = every (clear (fine_of r) b.tip) log ≡ true

-- an accepted call
pub accepted_kept : {M : Type 0} (fine : ℤ → Bool) (b : Books) (r r2 : Recount) (holds : ℕ → ℕ → Bool) (k : Kept b r holds) (z : World (M × Log)) → Accepted fine r2 b k.now z → Kept z.books r2 (holds_after (Some b) (Some z.books) r2.noted holds)
accepted_kept fine b r r2 holds k z a = record {
  now = a.now;
  sound = a.sound;
  linked = λ n t. words b z.books r2.noted holds a.sound.noted_signs a.sound.whole.signs n t
      ∙ moved_link (counted r2).noted (seg_of b.segments) k.now (seg_of z.books.segments) a.now a.moved a.sound.inv.held_free a.sound.inv.held_by holds k.linked n t;
}

-- a call that changes nothing
pub same_kept : (b : Books) (r : Recount) (holds : ℕ → ℕ → Bool) → Kept b r holds → Kept b r (holds_after (Some b) (Some b) r.noted holds)
same_kept b r holds k = accepted_kept {M = Unit {0}} (λ z. false) b r r holds k (world b (tt, [])) (record { now = k.now; sound = k.sound; moved = moved_refl (counted r).noted (seg_of b.segments) k.now; asked = refl })

-- books that differ in nothing that is looked at
pub record AlikeBooks (b c : Books) : Type 0 where
  pub whole : Whole c
  pub view : view_of (calm (λ z. false)) c ≡ view_of (calm (λ z. false)) b
  pub segments : c.segments ≡ b.segments
  pub blobs : c.blobs ≡ b.blobs
  pub size : c.size ≡ b.size
  pub level : c.stabilized ≡ b.stabilized

pub alike_kept : (b c : Books) (r : Recount) (holds : ℕ → ℕ → Bool) → Kept b r holds → AlikeBooks b c → Kept c r (holds_after (Some b) (Some c) r.noted holds)
alike_kept b c r holds k a = accepted_kept {M = Unit {0}} (λ z. false) b r r holds k (world c (tt, [])) (record {
  now = k.now;
  sound = record {
    whole = a.whole;
    inv = subst (λ v. Inv v (counted r) k.now) (sym a.view) k.sound.inv;
    size = k.sound.size ∙ sym a.size;
    stored = k.sound.stored ∙ sym a.level;
    lsn_signs = k.sound.lsn_signs;
    noted_signs = k.sound.noted_signs;
    bytes = λ m. subst (λ (s : List State). Weighs (r.live m) (get_or s m unused)) (sym a.segments) (k.sound.bytes m);
    blobs = blobs_opens r.given r.given b c (λ x y. y) k.sound.blobs (λ m x e. (x, ap (λ (s : List State). get_or s m unused) a.segments ∙ e, refl)) a.blobs;
  };
  moved = subst (λ (s : List State). Moved (counted r).noted (seg_of b.segments) k.now (seg_of s) k.now) (sym a.segments) (moved_refl (counted r).noted (seg_of b.segments) k.now);
  asked = refl;
})

-- ---- pop
whole_listed : (b : Books) (l : List ℕ) → Whole b → Whole (with_listed l b)
whole_listed b l w = record { some = w.some; free_up = w.free_up; ord_up = w.ord_up; pages_up = w.pages_up; keep_up = w.keep_up; room = w.room; tip_even = w.tip_even; free_even = w.free_even; counts = w.counts; signs = w.signs; keep_signs = w.keep_signs; stored_sign = w.stored_sign }

whole_faults : (b : Books) (l : List FaultRow) → Whole b → Whole (with_faults l b)
whole_faults b l w = record { some = w.some; free_up = w.free_up; ord_up = w.ord_up; pages_up = w.pages_up; keep_up = w.keep_up; room = w.room; tip_even = w.tip_even; free_even = w.free_even; counts = w.counts; signs = w.signs; keep_signs = w.keep_signs; stored_sign = w.stored_sign }

pub faults_alike : (b : Books) (l : List FaultRow) → Whole b → AlikeBooks b (with_faults l b)
faults_alike b l w = record { whole = whole_faults b l w; view = refl; segments = refl; blobs = refl; size = refl; level = refl }

tally_same : (p : PageRow → Bool) (row : PageRow) (pages : List PageRow) → find page_key by_page pages (page_key row) ≡ Some row → p (queued_row false row) ≡ p row → tally p (insert_row page_key by_page pages (queued_row false row)) ≡ tally p pages
tally_same p row pages e f =
    let a = (tally_put p (towards page_key by_page (page_key row)) (queued_row false row) pages).1 row e in
    let c : Rattle.safety.proofs.Counts.one (p (queued_row false row)) ≡ Rattle.safety.proofs.Counts.one (p row) = ap Rattle.safety.proofs.Counts.one f in
    omega arith

popped_alike : (b : Books) (offset : ℕ) (rows : List PageRow) → queue_of (segment_of b offset) b.pages ≡ rows → Whole b → AlikeBooks b (popped_from offset rows b).1
popped_alike b offset [] e w = record { whole = whole_listed b (remove_row own_key nat_cmp b.listed offset) w; view = refl; segments = refl; blobs = refl; size = refl; level = refl }
popped_alike b offset (row ∷ rows) e w =
    let n : ℕ = segment_of b offset in
    let hq : Has (queue_of n b.pages) row = subst (λ l. Has l row) (sym e) (has_first row rows) in
    let hr : Has (rows_of n b.pages) row = (has_from_kept (λ (x : PageRow). x.queued) (rows_of n b.pages) row hq).0 in
    let hp : Has b.pages row = (has_from_kept (is_in n) b.pages row hr).0 in
    let fd : find page_key by_page b.pages (page_key row) ≡ Some row = has_find page_key page_law b.pages row w.pages_up hp in
    let rs : row_of (insert_row page_key by_page b.pages (queued_row false row)) ≡ row_of b.pages = row_insert b.pages (queued_row false row) ∙ upd2_id (row_of b.pages) row.segment row.page (Some row.left) (ap (mapped mark) fd) in
    record {
      whole = record {
        some = w.some;
        free_up = w.free_up;
        ord_up = w.ord_up;
        pages_up = ascending_insert page_key page_law b.pages (queued_row false row) w.pages_up;
        keep_up = w.keep_up;
        room = w.room;
        tip_even = w.tip_even;
        free_even = w.free_even;
        counts = λ m. rw (tally_same (is_in m) row b.pages fd refl) (rw (tally_same (left_in m) row b.pages fd refl) (w.counts m));
        signs = w.signs;
        keep_signs = w.keep_signs;
        stored_sign = w.stored_sign;
      };
      view = λ i. view (b.tip / b.size) (seg_of b.segments) (on_of b.size b.free) (ord_of b.size b.ordering) (rs i) (keep_of b.freeable) (Rattle.safety.proofs.Plain.above b.stabilized) (λ n. false);
      segments = refl;
      blobs = refl;
      size = refl;
      level = refl;
    }

pub pop_alike : (b : Books) (o : Option ℕ) → Whole b → AlikeBooks b (popped_at o b).1
pop_alike b None w = record { whole = w; view = refl; segments = refl; blobs = refl; size = refl; level = refl }
pop_alike b (Some offset) w = popped_alike b offset (queue_of (segment_of b offset) b.pages) refl w

-- ---- stabilize
module _ (lsn : ℤ) (r : Recount) where
  stable_by : (P : Recount → Type 0) → P r → P (recount r.size r.lsn r.live r.lies r.noted (level r.size lsn) r.given) → P (told_stable lsn r)
  stable_by P x y = on (not (lt_z lsn (pos 0)) && lt_z r.stored (level r.size lsn))
    where
      on : (t : Bool) → P (cond t (recount r.size r.lsn r.live r.lies r.noted (level r.size lsn) r.given) r)
      on true = y
      on false = x

pub stabilize_accepted : {M : Type 0} (respond : M → Request → Answer × M) (b : Books) (m : M) (r : Recount) (h : Holders) (lsn : ℤ) → Sound b r h → Accepted (fine_of (told_stable lsn r)) (told_stable lsn r) b h (stabilized_at (recorded respond) lsn (world b (m, []))).1
stabilize_accepted {M} respond b m r h lsn s =
    let t : Recount = told_stable lsn r in
    let g : Good {M = M} (calm (fine_of t)) (world b (m, [])) (counted r) h = record { whole = s.whole; inv = s.inv; asked = refl } in
    let gv : t.given ≡ r.given = stable_by lsn r (λ x. x.given ≡ r.given) refl refl in
    let st : Stabilized respond (calm (fine_of t)) r t (world b (m, [])) h (stabilized_at (recorded respond) lsn (world b (m, []))).1 =
    stabilized_good respond (calm (fine_of t)) r (world b (m, [])) h lsn g s.blobs s.stored s.size (λ blob base hg le. fine_has t.stored t.given blob base (subst (λ l. Has l (blob, base)) (sym gv) hg) le) in
    record {
      now = st.now;
      sound = record {
        whole = st.good.whole;
        inv = st.good.inv;
        size = stable_by lsn r (λ x. x.size ≡ r.size) refl refl ∙ s.size ∙ sym st.size;
        stored = sym st.level;
        lsn_signs = λ n. stable_by lsn r (λ x. Plus (x.lsn n)) (s.lsn_signs n) (s.lsn_signs n);
        noted_signs = λ n. stable_by lsn r (λ x. every non_neg (x.noted n) ≡ true) (s.noted_signs n) (s.noted_signs n);
        bytes = λ n. st.light n (t.live n) (subst (λ z. Weighs z (state_of b n)) (sym (stable_by lsn r (λ x. x.live n ≡ r.live n) refl refl)) (s.bytes n));
        blobs = st.blobs;
      };
      moved = st.moved;
      asked = st.good.asked;
    }
