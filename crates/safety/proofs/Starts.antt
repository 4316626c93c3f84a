-- Start as a whole, and every run: what holds between calls holds after any calls, and each call is safe.
use Rattle.std.proofs.Common.{◌≡◌, ℕ, zero, suc, ◌*◌, ◌/◌, ◌<◌, ◌≤◌, Bool, true, false, not, ◌&&◌, eqb, ltb, leb, List, [], ◌∷◌, length, get_or, set, replicate, ℤ, pos, nat_abs, Some, None, Ok, Err, Option, Result, unwrap_or, sym, refl, ap, ◌∙◌, subst, mul-div_cancel, arith}
use lib.Signed.{non_neg}
use Rattle.std.specs.List.{ContainsAt as Has}
use Rattle.std.proofs.lemmas.Bool.{eq-eqb, and_parts, true≢false, leb-true, leb-false}
use Rattle.std.proofs.lemmas.List.{length-replicate}
use Rattle.table.specs.Rows.{every}
use Rattle.host.specs.Meaning.{Answer}
use Rattle.host.specs.declared.request.Request.{Request}
use Rattle.segment.specs.Bases.{base_of}
use Rattle.segment.specs.Changes.{opened}
use Rattle.segment.specs.declared.rows.FaultRow.{FaultRow}
use Rattle.segment.specs.declared.rows.BlobRow.{BlobRow}
use Rattle.segment.specs.declared.rows.OrderingRow.{OrderingRow}
use Rattle.segment.specs.declared.state.State.{State}
use Rattle.segment.specs.declared.state.State.TheVariants as is
use Rattle.segment.specs.declared.state.Free as free-record
use Rattle.rules.specs.declared.refusal.Refusal.{Refusal}
use Rattle.rules.specs.Books.{Books, World, world, unused, state_of, with_segments, with_ordering}
use Rattle.rules.specs.Recount.{Recount, told_active, told_size, told_start, told_lsn}
use Rattle.rules.specs.Runs.{Start, Done, replied, Log, recorded}
use Rattle.rules.specs.Safety.{holds_after}
use Rattle.rules.specs.Starting.{Plan, plan_refusal, lsns_out_of_range, is_segment_size, is_header, segment_count, covers, forms_page, active_past, blank, with_active, opened_at, has_base, and_then, recover_pages, order_all, ordered_by, ordered, recovered, free_all, kept_if, started_by, freed_after, start_by}
use Rattle.safety.proofs.Plain.{seg_is_free, counted}
use Rattle.safety.proofs.Views.{Inv}
use Rattle.safety.proofs.Looks.{seg_of}
use Rattle.safety.proofs.Steps.{Setting, view_of, Plus, Whole, Good}
use Rattle.safety.proofs.Frames.{Weighs}
use Rattle.safety.proofs.Accepts.{first_none}
use Rattle.safety.proofs.Calls.{fine_of, Kept, Quiet}
use Rattle.safety.proofs.Ever.{Called, ran}
use Rattle.safety.proofs.Recovers.{Fresh, Raw, raw_open, Got, got_pages}
use Rattle.safety.proofs.Orderings.{waiting_from, ordered_good}
use Rattle.safety.proofs.Listings.{nobody, wait_at, wait_first, wait_done, Going, Listed, all_listed}

-- ---- before any row
all_unused : (k m : ℕ) → get_or (replicate k unused) m unused ≡ unused
all_unused zero m = refl
all_unused (suc k) zero = refl
all_unused (suc k) (suc m) = all_unused k m

pub raw_blank : (s : Plan) (count : ℕ) → 0 < s.size → Raw (blank s count) (told_size s.size)
raw_blank s count some = record {
  some = some;
  size = refl;
  free = refl;
  ordering = refl;
  freeable = refl;
  blobs = refl;
  level = refl;
  stored = refl;
  tip = ap (λ k. k * s.size) (sym (length-replicate count unused));
  pages_up = refl;
  fresh = λ n. subst (Fresh (pos 0)) (sym (all_unused count n)) refl;
  signs = λ n. refl;
  noted = λ n. refl;
  rows = λ n p. refl;
  unleft = λ n p. refl;
  bare = λ n p e. refl;
  bytes = λ n. subst (Weighs (pos 0)) (sym (all_unused count n)) tt;
  idle = λ n e. refl;
}

pub raw_active : (s : Plan) (count : ℕ) (active : Option ℕ) (lsn : ℤ) → 0 < s.size → active_past s count active ≡ false → Raw (with_active active lsn (blank s count)) (told_active active lsn (told_size s.size))
raw_active s count None lsn some e = raw_blank s count some
raw_active s count (Some active) lsn some e =
    let n : ℕ = active / s.size in
    let base : ℤ = base_of s.size lsn in
    let b : Books = blank s count in
    let low : n < length b.segments = omega (arith, leb-false count n e, length-replicate count unused) in
    let un : state_of b n ≡ unused = all_unused count n in
    let op : opened_at base (state_of b n) ≡ is.Active (opened base) = ap (opened_at base) un in
    let hb : has_base base (opened_at base (state_of b n)) ≡ true = ap (has_base base) op ∙ eq-eqb (nat_abs lsn / s.size * s.size) (nat_abs lsn / s.size * s.size) refl in
    subst (λ z. Raw (with_segments (set b.segments n z) b) (told_lsn n base (told_size s.size))) op (raw_open b (told_size s.size) n base refl (raw_blank s count some) low hb)

-- ---- the checks
pub plan_parts : (s : Plan) (slot extent : ℕ) → plan_refusal s slot extent ≡ None → (0 < s.size) × (active_past s (segment_count s extent) s.active ≡ false)
plan_parts s slot extent e =
    let a : _ = first_none (lsns_out_of_range s) _ _ e in
    let b : _ = first_none (not (is_segment_size s.size && (is_header s.header && eqb slot s.size))) _ _ a.1 in
    let c : _ = first_none (ltb 256 (segment_count s extent)) _ _ b.1 in
    let d : _ = first_none (not (covers 0 s.directory (length s.rows))) _ _ c.1 in
    let f : _ = first_none (not (every (forms_page s.rows) s.directory)) _ _ d.1 in
    let g : _ = first_none (active_past s (segment_count s extent) s.active) _ _ f.1 in
    let h : is_segment_size s.size ≡ true = (and_parts (is_segment_size s.size) (is_header s.header && eqb slot s.size) (yes (is_segment_size s.size && (is_header s.header && eqb slot s.size)) b.0)).0 in
    let i : 256 ≤ s.size = leb-true 256 s.size (and_parts (leb 256 s.size) _ h).0 in
    (omega arith, g.0)
  where
    yes : (t : Bool) → not t ≡ false → t ≡ true
    yes true e = refl
    yes false e = absurd (true≢false e)

-- ---- what is recovered
pub record Recovered (x : Result Books Refusal) (r : Recount) : Type 0 where
  pub parts : (b : Books) → x ≡ Ok b → (c : Books) × (out : List OrderingRow) × Raw c r × (order_all c.size 0 c.segments c.ordering ≡ Ok out) × (b ≡ with_ordering out c)

ok_same : (b c : Books) → ◌≡◌ {A = Result Books Refusal} (Ok b) (Ok c) → b ≡ c
ok_same b c e = cc

never_ok : {P : Type 0} (x : Refusal) (b : Books) → ◌≡◌ {A = Result Books Refusal} (Err x) (Ok b) → P
never_ok x b e = absurd (let z : ◌≡◌ {A = ℕ} 0 1 = cc in omega arith)

ordered_parts : (c : Books) (r : Recount) (y : Result (List OrderingRow) Refusal) → Raw c r → order_all c.size 0 c.segments c.ordering ≡ y → Recovered (ordered_by c y) r
ordered_parts c r (Ok out) w e = record { parts = λ b q. (c, out, w, e, sym (ok_same (with_ordering out c) b q)) }
ordered_parts c r (Err x) w e = record { parts = λ b q. never_ok x b q }

then_ordered : (x : Result Books Refusal) (r : Recount) → Got x r → Recovered (and_then x ordered) r
then_ordered (Ok c) r g = ordered_parts c r (order_all c.size 0 c.segments c.ordering) (g.raw c refl) refl
then_ordered (Err x) r g = record { parts = λ b q. never_ok x b q }

module _ {M : Type 0} (respond : M → Request → Answer × M) (slot extent : M → ℕ) (m : M) (r : Recount) (holds : ℕ → ℕ → Bool) (q : Quiet r holds) (s : Plan) where
  none_held : (n t : ℕ) → holds_after None None r.noted holds n t ≡ false
  none_held n t = ap (λ x. x && false) (q.held n t)

  still_quiet : Quiet r (holds_after None None r.noted holds)
  still_quiet = record { lies = q.lies; noted = q.noted; held = none_held }

  t : Recount
  t = told_start s

  fine : ℤ → Bool
  fine = fine_of (told_start s)

  free_and : (a : Bool) (x y : Bool) → x ≡ false → (a && (x && y)) ≡ false
  free_and true true y e = absurd (true≢false e)
  free_and true false y e = refl
  free_and false x y e = refl

  fresh_none : (c : Books) → Raw c (told_start s) → (n : ℕ) (f : free-record.Free) → get_or c.segments n unused ≡ is.Free f → f.previous_lsn ≡ None
  fresh_none c raw n f e = subst (Fresh ((told_start s).lsn n)) e (raw.fresh n)

  -- the books after start
  started_kept : (c : Books) (w : World (M × Log)) (raw : Raw c (told_start s)) → Going respond (fine_of (told_start s)) (counted (told_start s)) c.segments c.size c.stabilized (fresh_none c raw) (length c.segments) w → Kept w.books (told_start s) (holds_after None (Some w.books) (told_start s).noted holds)
  started_kept c w raw g = record {
    now = nobody;
    sound = record {
      whole = g.good.whole;
      inv = subst (λ (f : ℕ → Bool). Inv (view_of (record { waiting = f; fine = fine_of (told_start s) }) w.books) (counted (told_start s)) nobody) (wait_done c.segments (length c.segments) refl) g.good.inv;
      size = raw.size ∙ sym g.size_is;
      stored = raw.stored ∙ sym raw.level ∙ sym g.level_is;
      lsn_signs = raw.signs;
      noted_signs = λ n. ap (every non_neg) (raw.noted n);
      bytes = λ n. subst (λ (z : List State). Weighs ((told_start s).live n) (get_or z n unused)) (sym g.segments) (raw.bytes n);
      blobs = λ row h. absurd (no_has row (subst (λ l. Has l row) g.blobs h));
    };
    linked = λ n t. free_and _ (holds n t) _ (q.held n t);
  }
    where
      no_has : (row : BlobRow) → Has [] row → ⊥
      no_has row (i, l, at) = omega arith

  faults_called : (c : Books) (raw : Raw c (told_start s)) (w : World (M × Log)) (faults : List FaultRow) → every (Rattle.safety.proofs.Steps.clear (fine_of r) 0) w.host.1 ≡ true → Going respond (fine_of (told_start s)) (counted (told_start s)) c.segments c.size c.stabilized (fresh_none c raw) (length c.segments) w → Called respond slot extent None r holds (Start s) (replied (λ u. Done) (kept_if (recorded respond) faults w))
  faults_called c raw w [] cl g = (started_kept c w raw g, g.good.asked)
  faults_called c raw w (row ∷ rows) cl g = (still_quiet, cl)

  by_called : (c : Books) (raw : Raw c (told_start s)) (x : Answer × World (M × Log)) → every (Rattle.safety.proofs.Steps.clear (fine_of r) 0) x.1.host.1 ≡ true → (x.0 ≡ Ok tt → Going respond (fine_of (told_start s)) (counted (told_start s)) c.segments c.size c.stabilized (fresh_none c raw) (length c.segments) x.1) → Called respond slot extent None r holds (Start s) (replied (λ u. Done) (started_by (recorded respond) x))
  by_called c raw (Ok u, w) cl g = faults_called c raw w w.books.faults cl (g refl)
  by_called c raw (Err e, w) cl g = (still_quiet, cl)

  going_first : (c : Books) (out : List OrderingRow) (raw : Raw c (told_start s)) (any : ℤ → Bool) → order_all c.size 0 c.segments c.ordering ≡ Ok out → Going respond any (counted (told_start s)) c.segments c.size c.stabilized (fresh_none c raw) 0 (world (with_ordering out c) (m, []))
  going_first c out raw any e =
      let g : _ = ordered_good c (told_start s) out any raw e in
      let tips : c.tip / c.size ≡ length c.segments = ap (λ z. z / c.size) raw.tip ∙ mul-div_cancel (length c.segments) raw.some in
      let same : waiting_from (with_ordering out c) ≡ wait_at c.segments 0 = (λ i n. seg_is_free (seg_of c.segments n) && ltb n (tips i)) ∙ sym (wait_first c.segments) in
      record {
        good = record { whole = g.0; inv = subst (λ (f : ℕ → Bool). Inv (view_of (record { waiting = f; fine = any }) (with_ordering out c)) (counted (told_start s)) nobody) same g.1; asked = refl };
        segments = refl;
        size_is = refl;
        level_is = refl;
        blobs = raw.blobs;
      }

  recovered_called : (x : Result Books Refusal) → Recovered x (told_start s) → Called respond slot extent None r holds (Start s) (replied (λ u. Done) (freed_after (recorded respond) x (m, [])))
  recovered_called (Err e) g = (still_quiet, refl)
  recovered_called (Ok b) g =
      let p : _ = g.parts b refl in
      let c : Books = p.0 in
      let out : List OrderingRow = p.1 in
      let raw : Raw c (told_start s) = p.2 in
      let e : order_all c.size 0 c.segments c.ordering ≡ Ok out = p.3 in
      let l1 : Listed respond (fine_of (told_start s)) (counted (told_start s)) c.segments c.size c.stabilized (fresh_none c raw) (free_all (recorded respond) 0 c.segments (world (with_ordering out c) (m, []))) = all_listed respond (fine_of (told_start s)) (counted (told_start s)) c.segments c.size c.stabilized (fresh_none c raw) c.segments 0 (world (with_ordering out c) (m, [])) (λ j. ap (λ k. get_or c.segments k unused) (omega arith)) (omega arith) (going_first c out raw (fine_of (told_start s)) e) in
      let l2 : Listed respond (fine_of r) (counted (told_start s)) c.segments c.size c.stabilized (fresh_none c raw) (free_all (recorded respond) 0 c.segments (world (with_ordering out c) (m, []))) = all_listed respond (fine_of r) (counted (told_start s)) c.segments c.size c.stabilized (fresh_none c raw) c.segments 0 (world (with_ordering out c) (m, [])) (λ j. ap (λ k. get_or c.segments k unused) (omega arith)) (omega arith) (going_first c out raw (fine_of r) e) in
      subst (λ z. Called respond slot extent None r holds (Start s) (replied (λ u. Done) (freed_after (recorded respond) (Ok z) (m, [])))) (sym p.4)
      (by_called c raw (free_all (recorded respond) 0 c.segments (world (with_ordering out c) (m, []))) l2.clean l1.whole)

  start_called : (o : Option Refusal) → plan_refusal s (slot m) (extent m) ≡ o → Called respond slot extent None r holds (Start s) (replied (λ u. Done) (start_by (recorded respond) o s (extent m) (m, [])))
  start_called (Some x) e = (still_quiet, refl)
  start_called None e =
      let p : _ = plan_parts s (slot m) (extent m) e in
      let lsn : ℤ = unwrap_or s.stable (pos 0) in
      let count : ℕ = segment_count s (extent m) in
      recovered_called (recovered s (extent m)) (then_ordered (recover_pages s.header 0 s.directory s.rows (with_active s.active lsn (blank s count))) (told_start s) (got_pages s.header 0 s.directory s.rows (with_active s.active lsn (blank s count)) (told_active s.active lsn (told_size s.size)) (raw_active s count s.active lsn p.0 p.1)))

  pub begun : Called respond slot extent None r holds (Start s) (ran respond slot extent None m (Start s))
  begun = start_called (plan_refusal s (slot m) (extent m)) refl
