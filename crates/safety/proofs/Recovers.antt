-- Start, up to the ordering: the books recovered from a snapshot fit the recount that is told of it.
use Rattle.std.proofs.Common.{◌≡◌, ℕ, suc, ◌+◌, ◌-◌, ◌*◌, ◌/◌, ◌<◌, ◌≤◌, Bool, true, false, cond, not, eqb, leb, ◌⊎◌, List, [], ◌∷◌, length, get_or, take, drop, set, ℤ, pos, negsuc, ◌+ℤ◌, Some, None, Ok, Err, Option, Result, sym, refl, ap, ◌∙◌, subst, inl, inr, arith}
use Rattle.std.proofs.lemmas.Bool.{cases_eq, eq-eqb, ne_eqb, true≢false, leb-false}
use Rattle.std.proofs.lemmas.List.{get_or-set_same, get_or-set_other, length-set}
use Rattle.table.specs.Rows.{ascending}
use Rattle.table.proofs.Laws.{ascending_insert}
use Rattle.segment.specs.Bases.{base_of}
use Rattle.segment.specs.Pointers.{lid_of}
use Rattle.segment.specs.Rows.{page_key, by_page}
use Rattle.segment.specs.declared.rows.PageRow.{PageRow}
use Rattle.segment.specs.declared.snapshot.PageEntry.{PageEntry}
use Rattle.segment.specs.declared.snapshot.SnapshotRow.{SnapshotRow}
use Rattle.segment.specs.declared.state.State.{State}
use Rattle.segment.specs.declared.state.State.TheVariants as is
use Rattle.rules.specs.declared.refusal.Refusal.{Refusal}
use Rattle.rules.specs.Books.{Books, unused, state_of, with_segments}
use Rattle.rules.specs.Links.{linked_state, linked_at}
use Rattle.rules.specs.Pages.{page_row, is_left, written, new_row}
use Rattle.rules.specs.Recount.{Recount, upd, told_lsn, told_bytes, told_row, told_rows, told_pages}
use Rattle.rules.specs.Starting.{opened_at, has_base, row_size, row_segment, opened_for, placed_refusal, row_refusal, recovered_by, recover_row, and_then, recover_rows, recover_pages}
use Rattle.safety.proofs.Plain.{seg_is_free, here, mapped, upd2, seen}
use Rattle.safety.proofs.Looks.{page_law, seg_of, row_of, mark}
use Rattle.safety.proofs.Steps.{Plus}
use Rattle.safety.proofs.Frames.{Weighs}
use Rattle.safety.proofs.Takes.{row_written}
use Rattle.safety.proofs.Visits.{Bytes}
use Rattle.safety.proofs.Told.{upd_upd2}
use Rattle.safety.proofs.Accepts.{first_none, same_true}

-- a state during start: never used, or Active with the LSN told and nothing replaced
abbrev pub Fresh : ℤ → State → Type 0
Fresh lsn (is.Free f) = f.previous_lsn ≡ None
Fresh lsn (is.Active a) = (a.lsn ≡ lsn) × (a.latest_replacement_lsn ≡ pos 0)
Fresh lsn (is.Inactive i) = ⊥
Fresh lsn (is.Draining d) = ⊥

pub record Raw (b : Books) (r : Recount) : Type 0 where
  pub some : 0 < b.size
  pub size : r.size ≡ b.size
  pub free : b.free ≡ []
  pub ordering : b.ordering ≡ []
  pub freeable : b.freeable ≡ []
  pub blobs : b.blobs ≡ []
  pub level : b.stabilized ≡ negsuc 0
  pub stored : r.stored ≡ negsuc 0
  pub tip : b.tip ≡ length b.segments * b.size
  pub pages_up : ascending page_key by_page b.pages ≡ true
  pub fresh : (n : ℕ) → Fresh (r.lsn n) (state_of b n)
  pub signs : (n : ℕ) → Plus (r.lsn n)
  pub noted : (n : ℕ) → r.noted n ≡ []
  pub rows : (n p : ℕ) → r.lies n p ≡ here (row_of b.pages n p)
  pub unleft : (n p : ℕ) → is_left (page_row b.pages n p) ≡ false
  pub bare : (n p : ℕ) → seg_is_free (seg_of b.segments n) ≡ true → row_of b.pages n p ≡ None
  pub bytes : Bytes r.live b
  pub idle : (n : ℕ) → seg_is_free (seg_of b.segments n) ≡ true → r.live n ≡ pos 0

-- ---- a state set, by place
module _ (segs : List State) (n : ℕ) (z : State) (low : n < length segs) where
  pub set_all : (P : ℕ → State → Type 0) → P n z → ((m : ℕ) → (m ≡ n → ⊥) → P m (get_or segs m unused)) → (m : ℕ) → P m (get_or (set segs n z) m unused)
  set_all P pz ps m = on (cases_eq m n)
    where
      on : (m ≡ n) ⊎ (m ≡ n → ⊥) → P m (get_or (set segs n z) m unused)
      on (inl e) = subst (λ k. P k (get_or (set segs n z) k unused)) (sym e) (subst (P n) (sym (get_or-set_same segs n z unused low)) pz)
      on (inr e) = subst (P m) (sym (get_or-set_other segs n m z unused e)) (ps m e)

based : (base lsn live : ℤ) (s : State) → Fresh lsn s → Weighs live s → (seg_is_free (seen s) ≡ true → live ≡ pos 0) → has_base base (opened_at base s) ≡ true → Fresh base (opened_at base s) × Weighs live (opened_at base s) × (seg_is_free (seen (opened_at base s)) ≡ false)
based base lsn live (is.Free f) e w i h = ((refl, refl), (omega arith, sym (i refl)), refl)
based base lsn live (is.Active a) e w i h = ((same_true a.lsn base h, e.1), w, refl)
based base lsn live (is.Inactive x) e w i h = absurd e
based base lsn live (is.Draining x) e w i h = absurd e

pub raw_open : (b : Books) (r : Recount) (n : ℕ) (base : ℤ) → Plus base → Raw b r → n < length b.segments → has_base base (opened_at base (state_of b n)) ≡ true → Raw (with_segments (set b.segments n (opened_at base (state_of b n))) b) (told_lsn n base r)
raw_open b r n base pb w low h =
    let z : State = opened_at base (state_of b n) in
    let k : _ = based base (r.lsn n) (r.live n) (state_of b n) (w.fresh n) (w.bytes n) (w.idle n) h in
    record {
      some = w.some;
      size = w.size;
      free = w.free;
      ordering = w.ordering;
      freeable = w.freeable;
      blobs = w.blobs;
      level = w.level;
      stored = w.stored;
      tip = w.tip ∙ ap (λ l. l * b.size) (sym (length-set b.segments n z));
      pages_up = w.pages_up;
      fresh = set_all b.segments n z low (λ m s. Fresh (upd r.lsn n base m) s) (rw (eq-eqb n n refl) k.0) (λ m ne. rw (ne_eqb m n ne) (w.fresh m));
      signs = λ m. plus m (eqb m n);
      noted = w.noted;
      rows = w.rows;
      unleft = w.unleft;
      bare = λ m p. set_all b.segments n z low (λ q s. seg_is_free (seen s) ≡ true → row_of b.pages q p ≡ None) (λ e. absurd (true≢false (sym e ∙ k.2))) (λ q ne. w.bare q p) m;
      bytes = set_all b.segments n z low (λ m s. Weighs (r.live m) s) k.1 (λ m ne. w.bytes m);
      idle = set_all b.segments n z low (λ m s. seg_is_free (seen s) ≡ true → r.live m ≡ pos 0) (λ e. absurd (true≢false (sym e ∙ k.2))) (λ m ne. w.idle m);
    }
  where
    plus : (m : ℕ) (t : Bool) → Plus (cond t base (r.lsn m))
    plus m true = pb
    plus m false = w.signs m

linked_parts : (size : ℕ) (lsn live : ℤ) (s : State) → seg_is_free (seen s) ≡ false → Fresh lsn s → Weighs live s → Fresh lsn (linked_state size s) × Weighs (live +ℤ pos size) (linked_state size s) × (seg_is_free (seen (linked_state size s)) ≡ false)
linked_parts size lsn live (is.Free f) n e w = absurd (true≢false n)
linked_parts size lsn live (is.Active a) n e w =
    let d : a.deferred_replaced_rss ≤ a.rss = w.0 in
    (e, (omega arith, ap pos (more a.rss a.deferred_replaced_rss size d) ∙ ap (λ z. z +ℤ pos size) w.1), refl)
  where
    more : (x y z : ℕ) → y ≤ x → x + z - y ≡ x - y + z
    more x y z l = omega arith
linked_parts size lsn live (is.Inactive i) n e w = absurd e
linked_parts size lsn live (is.Draining d) n e w = absurd e

written_up : (pages : List PageRow) (n p : ℕ) (o : Option PageRow) → ascending page_key by_page pages ≡ true → ascending page_key by_page (written n p pages o) ≡ true
written_up pages n p None up = ascending_insert page_key page_law pages (new_row n p) up
written_up pages n p (Some x) up = up

lies_two : (lies : ℕ → ℕ → Bool) (row : ℕ → ℕ → Option Bool) (n p m q : ℕ) → lies m q ≡ here (row m q) → upd2 lies n p true m q ≡ here (upd2 row n p (Some false) m q)
lies_two lies row n p m q e = grind arith

lies_here : (lies : ℕ → ℕ → Bool) (row : ℕ → ℕ → Option Bool) (n p m q : ℕ) → lies m q ≡ here (row m q) → upd lies n (upd (lies n) p true) m q ≡ here (upd2 row n p (Some false) m q)
lies_here lies row n p m q e = ap (λ (f : ℕ → ℕ → Bool). f m q) (upd_upd2 lies n p true) ∙ lies_two lies row n p m q e

abbrev marked_as : Option Bool → Bool
marked_as None = false
marked_as (Some t) = t

left_mark : (o : Option PageRow) → is_left o ≡ marked_as (mapped mark o)
left_mark None = refl
left_mark (Some x) = refl

unmarked : (row : ℕ → ℕ → Option Bool) (n p m q : ℕ) → marked_as (row m q) ≡ false → marked_as (upd2 row n p (Some false) m q) ≡ false
unmarked row n p m q e = grind arith

pub raw_link : (b : Books) (r : Recount) (n p size : ℕ) → Raw b r → n < length b.segments → seg_is_free (seg_of b.segments n) ≡ false → Raw (linked_at n p size b) (told_bytes n p size r)
raw_link b r n p size w low nf =
    let z : State = linked_state size (state_of b n) in
    let k : _ = linked_parts size (r.lsn n) (r.live n) (state_of b n) nf (w.fresh n) (w.bytes n) in
    let o : Option PageRow = page_row b.pages n p in
    let rs : row_of (written n p b.pages o) ≡ upd2 (row_of b.pages) n p (Some false) = row_written b.pages n p o refl (w.unleft n p) in
    record {
      some = w.some;
      size = w.size;
      free = w.free;
      ordering = w.ordering;
      freeable = w.freeable;
      blobs = w.blobs;
      level = w.level;
      stored = w.stored;
      tip = w.tip ∙ ap (λ l. l * b.size) (sym (length-set b.segments n z));
      pages_up = written_up b.pages n p o w.pages_up;
      fresh = set_all b.segments n z low (λ m s. Fresh (r.lsn m) s) k.0 (λ m ne. w.fresh m);
      signs = w.signs;
      noted = w.noted;
      rows = λ m q. lies_here r.lies (row_of b.pages) n p m q (w.rows m q) ∙ ap (λ (f : ℕ → ℕ → Option Bool). here (f m q)) (sym rs);
      unleft = λ m q. left_mark (page_row (written n p b.pages o) m q) ∙ ap (λ (f : ℕ → ℕ → Option Bool). marked_as (f m q)) rs ∙ unmarked (row_of b.pages) n p m q (sym (left_mark (page_row b.pages m q)) ∙ w.unleft m q);
      bare = λ m q. set_all b.segments n z low (λ x s. seg_is_free (seen s) ≡ true → row_of (written n p b.pages o) x q ≡ None) (λ e. absurd (true≢false (sym e ∙ k.2))) (λ x ne e. ap (λ (f : ℕ → ℕ → Option Bool). f x q) rs ∙ apart (row_of b.pages) x q ne ∙ w.bare x q e) m;
      bytes = set_all b.segments n z low (λ m s. Weighs (upd r.live n (r.live n +ℤ pos size) m) s) (rw (eq-eqb n n refl) k.1) (λ m ne. rw (ne_eqb m n ne) (w.bytes m));
      idle = set_all b.segments n z low (λ m s. seg_is_free (seen s) ≡ true → upd r.live n (r.live n +ℤ pos size) m ≡ pos 0) (λ e. absurd (true≢false (sym e ∙ k.2))) (λ m ne e. rw (ne_eqb m n ne) (w.idle m e));
    }
  where
    apart : (f : ℕ → ℕ → Option Bool) (x q : ℕ) → (x ≡ n → ⊥) → upd2 f n p (Some false) x q ≡ f x q
    apart f x q ne = rw (ne_eqb x n ne)

-- ---- the rows of the snapshot
pub record Got (x : Result Books Refusal) (r : Recount) : Type 0 where
  pub raw : (b : Books) → x ≡ Ok b → Raw b r

ok_same : (b c : Books) → ◌≡◌ {A = Result Books Refusal} (Ok b) (Ok c) → b ≡ c
ok_same b c e = cc

never_ok : {P : Type 0} (x : Refusal) (b : Books) → ◌≡◌ {A = Result Books Refusal} (Err x) (Ok b) → P
never_ok x b e = absurd (let z : ◌≡◌ {A = ℕ} 0 1 = cc in omega arith)

base_open : (base : ℤ) (s : State) → has_base base s ≡ true → seg_is_free (seen s) ≡ false
base_open base (is.Free f) e = absurd (true≢false (sym e))
base_open base (is.Active a) e = refl
base_open base (is.Inactive i) e = absurd (true≢false (sym e))
base_open base (is.Draining d) e = absurd (true≢false (sym e))

pub got_row : (header p : ℕ) (row : SnapshotRow) (b : Books) (r : Recount) → Raw b r → Got (recover_row header p row b) (told_row header p row r)
got_row header p row b r w = on (row_refusal header p row b) refl
  where
    n : ℕ
    n = row_segment b row

    base : ℤ
    base = base_of b.size row.lsn

    c : Books
    c = opened_for row b

    made : (t : Bool) → leb (length b.segments) n ≡ t → cond t (Some Rattle.rules.specs.declared.refusal.Refusal.TheVariants.PastSegments) (placed_refusal header p row c) ≡ None → Raw (linked_at n p (row_size header row) c) (told_row header p row r)
    made true e f = absurd (let z : ◌≡◌ {A = ℕ} 0 1 = cc in omega arith)
    made false e f =
        let low : n < length b.segments = omega (arith, leb-false (length b.segments) n e) in
        let cn : state_of c n ≡ opened_at base (state_of b n) = get_or-set_same b.segments n (opened_at base (state_of b n)) unused low in
        let hb : has_base base (state_of c n) ≡ true = not_not (has_base base (state_of c n)) (first_none (not (has_base base (state_of c n))) _ _ f).0 in
        let o : Raw c (told_lsn n base r) = raw_open b r n base refl w low (ap (has_base base) (sym cn) ∙ hb) in
        let l : Raw (linked_at n p (row_size header row) c) (told_bytes n p (row_size header row) (told_lsn n base r)) = raw_link c (told_lsn n base r) n p (row_size header row) o (subst (λ k. n < k) (sym (length-set b.segments n (opened_at base (state_of b n)))) low) (base_open base (state_of c n) hb) in
        subst (λ z. Raw (linked_at n p (row_size header row) c) (told_bytes (lid_of row.pointer / z) p (row_size header row) (told_lsn (lid_of row.pointer / z) (base_of z row.lsn) r))) (sym w.size) l
      where
        not_not : (t : Bool) → not t ≡ false → t ≡ true
        not_not true e = refl
        not_not false e = absurd (true≢false e)

    on : (o : Option Refusal) → row_refusal header p row b ≡ o → Got (recovered_by o (linked_at n p (row_size header row) c)) (told_row header p row r)
    on None e = record { raw = λ d q. subst (λ z. Raw z (told_row header p row r)) (ok_same (linked_at n p (row_size header row) c) d q) (made (leb (length b.segments) n) refl e) }
    on (Some x) e = record { raw = λ d q. never_ok x d q }

then_got : (x : Result Books Refusal) (f : Books → Result Books Refusal) (r s : Recount) → Got x r → ((b : Books) → Raw b r → Got (f b) s) → Got (and_then x f) s
then_got (Ok b) f r s g h = h b (g.raw b refl)
then_got (Err e) f r s g h = record { raw = λ d q. never_ok e d q }

pub got_rows : (header p : ℕ) (rows : List SnapshotRow) (b : Books) (r : Recount) → Raw b r → Got (recover_rows header p rows b) (told_rows header p rows r)
got_rows header p [] b r w = record { raw = λ d q. subst (λ z. Raw z r) (ok_same b d q) w }
got_rows header p (row ∷ rows) b r w = then_got (recover_row header p row b) (recover_rows header p rows) (told_row header p row r) (told_rows header p rows (told_row header p row r)) (got_row header p row b r w) (λ c x. got_rows header p rows c (told_row header p row r) x)

pub got_pages : (header p : ℕ) (entries : List PageEntry) (rows : List SnapshotRow) (b : Books) (r : Recount) → Raw b r → Got (recover_pages header p entries rows b) (told_pages header p entries rows r)
got_pages header p [] rows b r w = record { raw = λ d q. subst (λ z. Raw z r) (ok_same b d q) w }
got_pages header p (entry ∷ entries) rows b r w = then_got (recover_rows header p (take entry.count (drop entry.first rows)) b) (recover_pages header (suc p) entries rows) (told_rows header p (take entry.count (drop entry.first rows)) r) (told_pages header (suc p) entries rows (told_rows header p (take entry.count (drop entry.first rows)) r)) (got_rows header p (take entry.count (drop entry.first rows)) b r w) (λ c x. got_pages header (suc p) entries rows c (told_rows header p (take entry.count (drop entry.first rows)) r) x)
