-- The recount (docs/RULES.md, section 13): a second account, kept from the calls and their replies alone. Segments go by number.
use Rattle.std.specs.Prelude.{ℕ, suc, ◌/◌, Bool, true, false, cond, not, ◌&&◌, List, [], ◌∷◌, take, drop, ℤ, pos, negsuc, ◌+ℤ◌, ◌-ℤ◌, Some, None, Option, ◌==◌, int_lt}
use Rattle.std.specs.Int.{int_max}
use Rattle.std.specs.Option.{unwrap_or}
use Rattle.segment.specs.Bases.{base_of}
use Rattle.segment.specs.Pointers.{lid_of, blob_of}
use Rattle.segment.specs.Signs.{same_z}
use Rattle.segment.specs.declared.cache_info.CacheInfo.{CacheInfo}
use Rattle.segment.specs.declared.snapshot.PageEntry.{PageEntry}
use Rattle.segment.specs.declared.snapshot.SnapshotRow.{SnapshotRow}
use Rattle.rules.specs.declared.refusal.Refusal.{Refusal}
use Rattle.rules.specs.declared.refusal.Refusal.TheVariants as no
use Rattle.rules.specs.Replacing.{same_blob}
use Rattle.rules.specs.Runs.{Call, Start, Link, Replace, Next, Stabilize, Pop, Reply, Done, Gave, Popped, Refused}
use Rattle.rules.specs.Stabilizing.{level}
use Rattle.rules.specs.Starting.{Plan, row_size}

pub record Recount : Type 0 where
  -- the segment size of the accepted start
  pub size : ℕ
  pub lsn : ℕ → ℤ
  -- live bytes
  pub live : ℕ → ℤ
  -- whether a page lies in a segment
  pub lies : ℕ → ℕ → Bool
  -- the bases of the replacements noted for a segment
  pub noted : ℕ → List ℤ
  -- the greatest L stored
  pub stored : ℤ
  -- the blobs given up, each with the base of the replacement that gave it up
  pub given : List (ℤ × ℤ)

abbrev pub recount : ℕ → (ℕ → ℤ) → (ℕ → ℤ) → (ℕ → ℕ → Bool) → (ℕ → List ℤ) → ℤ → List (ℤ × ℤ) → Recount
recount size lsn live lies noted stored given = record { size = size; lsn = lsn; live = live; lies = lies; noted = noted; stored = stored; given = given }

-- before the accepted start
abbrev pub nothing_told : Recount
nothing_told = recount 0 (λ n. pos 0) (λ n. pos 0) (λ n p. false) (λ n. []) (negsuc 0) []

-- a function with another value at one place
abbrev pub upd : {A : Type 0} → (ℕ → A) → ℕ → A → ℕ → A
upd f n v m = cond (m == n) v (f m)

-- the largest base of a list, 0 if there is none
abbrev pub largest : List ℤ → ℤ
largest [] = pos 0
largest (base ∷ bases) = int_max base (largest bases)

-- ---- what the calls tell
abbrev pub told_lsn : ℕ → ℤ → Recount → Recount
told_lsn n lsn r = recount r.size (upd r.lsn n lsn) r.live r.lies r.noted r.stored r.given

-- size bytes of page p are written into segment n
abbrev pub told_bytes : ℕ → ℕ → ℕ → Recount → Recount
told_bytes n p size r = recount r.size r.lsn (upd r.live n (r.live n +ℤ pos size)) (upd r.lies n (upd (r.lies n) p true)) r.noted r.stored r.given

abbrev pub told_info : ℕ → CacheInfo → Recount → Recount
told_info p info r = told_bytes (lid_of info.pointer / r.size) p info.log_size r

-- a replacement of page p with this base takes size bytes from segment n; the page leaves unless it lies there again
abbrev pub told_away : ℕ → ℕ → ℤ → ℕ → Recount → Recount
told_away n p base size r =
    recount r.size r.lsn (upd r.live n (r.live n -ℤ pos size)) (upd r.lies n (upd (r.lies n) p (r.lies n p && same_z (r.lsn n) base))) (upd r.noted n (base ∷ r.noted n)) r.stored r.given

abbrev pub told_blob : Option ℤ → ℤ → Option ℤ → Recount → Recount
told_blob kept base None r = r
told_blob kept base (Some blob) r =
    cond (same_blob kept blob) r (recount r.size r.lsn r.live r.lies r.noted r.stored ((blob, base) ∷ r.given))

abbrev pub told_olds : ℕ → ℤ → Option ℤ → List CacheInfo → Recount → Recount
told_olds p base kept [] r = r
told_olds p base kept (old ∷ olds) r =
    told_olds p base kept olds (told_blob kept base (blob_of old.pointer) (told_away (lid_of old.pointer / r.size) p base old.log_size r))

abbrev pub told_replace : ℕ → ℤ → List CacheInfo → CacheInfo → Recount → Recount
told_replace p lsn olds new r = told_olds p (base_of r.size lsn) (blob_of new.pointer) olds (told_info p new r)

-- segment n is handed out
abbrev pub told_next : ℕ → ℤ → Recount → Recount
told_next n lsn r = recount r.size (upd r.lsn n lsn) (upd r.live n (pos 0)) (upd r.lies n (λ p. false)) (upd r.noted n []) r.stored r.given

-- L is stored if it is above the one before
abbrev pub told_stable : ℤ → Recount → Recount
told_stable lsn r =
    cond (not (int_lt lsn (pos 0)) && int_lt r.stored (level r.size lsn)) (recount r.size r.lsn r.live r.lies r.noted (level r.size lsn) r.given) r

-- ---- start
abbrev pub told_row : ℕ → ℕ → SnapshotRow → Recount → Recount
told_row header p row r =
    told_bytes (lid_of row.pointer / r.size) p (row_size header row) (told_lsn (lid_of row.pointer / r.size) (base_of r.size row.lsn) r)

abbrev pub told_rows : ℕ → ℕ → List SnapshotRow → Recount → Recount
told_rows header p [] r = r
told_rows header p (row ∷ rows) r = told_rows header p rows (told_row header p row r)

abbrev pub told_pages : ℕ → ℕ → List PageEntry → List SnapshotRow → Recount → Recount
told_pages header p [] rows r = r
told_pages header p (entry ∷ entries) rows r = told_pages header (suc p) entries rows (told_rows header p (take entry.count (drop entry.first rows)) r)

abbrev pub told_active : Option ℕ → ℤ → Recount → Recount
told_active None lsn r = r
told_active (Some active) lsn r = told_lsn (active / r.size) (base_of r.size lsn) r

abbrev pub told_size : ℕ → Recount
told_size size = recount size (λ n. pos 0) (λ n. pos 0) (λ n p. false) (λ n. []) (negsuc 0) []

abbrev pub told_start : Plan → Recount
told_start s = told_pages s.header 0 s.directory s.rows (told_active s.active (unwrap_or s.stable (pos 0)) (told_size s.size))

-- ---- a call with its reply: a refused call tells nothing, but a stabilize that the host ended does
abbrev pub told_refused : ℤ → Refusal → Recount → Recount
told_refused lsn (no.Host e) r = told_stable lsn r
told_refused lsn no.Setup r = r
told_refused lsn no.TooManySegments r = r
told_refused lsn no.Directory r = r
told_refused lsn no.PageRows r = r
told_refused lsn no.PastSegments r = r
told_refused lsn no.RowBase r = r
told_refused lsn no.SameLsn r = r
told_refused lsn no.Unaligned r = r
told_refused lsn no.BelowOffset r = r
told_refused lsn no.LsnInUse r = r
told_refused lsn no.FileFull r = r
told_refused lsn no.LsnRange r = r
told_refused lsn no.NoSegment r = r
told_refused lsn no.OtherBase r = r
told_refused lsn no.NotActive r = r
told_refused lsn no.PageLeft r = r
told_refused lsn no.TooLarge r = r
told_refused lsn no.PageRowsFull r = r
told_refused lsn no.LsnsDiffer r = r
told_refused lsn no.TooManyOld r = r
told_refused lsn no.BaseTooLow r = r
told_refused lsn no.PageAbsent r = r
told_refused lsn no.MoreThanLive r = r
told_refused lsn no.BlobRowsFull r = r
told_refused lsn no.OutOfTurn r = r

-- what an accepted call tells, whose reply is `Done`
abbrev pub told_done : Call → Recount → Recount
told_done (Start s) r = told_start s
told_done (Link p info) r = told_info p info r
told_done (Replace p lsn olds new) r = told_replace p lsn olds new r
told_done (Next lsn) r = r
told_done (Stabilize lsn) r = told_stable lsn r
told_done Pop r = r

abbrev pub told_gave : Call → ℕ → Recount → Recount
told_gave (Start s) offset r = r
told_gave (Link p info) offset r = r
told_gave (Replace p lsn olds new) offset r = r
told_gave (Next lsn) offset r = told_next (offset / r.size) lsn r
told_gave (Stabilize lsn) offset r = r
told_gave Pop offset r = r

abbrev pub told_failed : Call → Refusal → Recount → Recount
told_failed (Start s) refusal r = r
told_failed (Link p info) refusal r = r
told_failed (Replace p lsn olds new) refusal r = r
told_failed (Next lsn) refusal r = r
told_failed (Stabilize lsn) refusal r = told_refused lsn refusal r
told_failed Pop refusal r = r

abbrev pub told : Call → Reply → Recount → Recount
told c Done r = told_done c r
told c (Gave offset) r = told_gave c offset r
told c (Popped answer) r = r
told c (Refused refusal) r = told_failed c refusal r
