-- Start (docs/RULES.md, section 5): the checks of a snapshot, the segments recovered from it, and the free ones freed.
use Rattle.std.specs.Prelude.{ℕ, suc, ◌+◌, ◌*◌, ◌/◌, ◌%◌, ◌^◌, Bool, false, cond, not, ◌&&◌, ◌||◌, List, [], ◌∷◌, length, take, drop, replicate, ℤ, pos, negsuc, is_some, Some, None, Ok, Err, Option, Result, ◌==◌, count_ones, nat_le, nat_lt, slice_set}
use Rattle.std.specs.Option.{unwrap_or}
use Rattle.table.specs.Rows.{every, find, insert_row}
use Rattle.host.specs.Meaning.{Answer, asked_fill}
use Rattle.host.specs.declared.request.Request.{Request}
use Rattle.segment.specs.Bases.{base_of}
use Rattle.segment.specs.Changes.{opened}
use Rattle.segment.specs.Pages.{page_state}
use Rattle.segment.specs.Pointers.{lid_of}
use Rattle.segment.specs.Rows.{ordering_key}
use Rattle.segment.specs.Signs.{same_z}
use Rattle.segment.specs.declared.rows.FaultRow.{FaultRow}
use Rattle.segment.specs.declared.rows.OrderingRow.{OrderingRow}
use Rattle.segment.specs.declared.snapshot.PageEntry.{PageEntry}
use Rattle.segment.specs.declared.snapshot.SnapshotRow.{SnapshotRow}
use Rattle.segment.specs.declared.state.State.{State}
use Rattle.segment.specs.declared.state.State.TheVariants as is
use Rattle.rules.specs.declared.refusal.Refusal.{Refusal}
use Rattle.rules.specs.declared.refusal.Refusal.TheVariants as no
use Rattle.rules.specs.Books.{Books, books, World, world, with_segments, with_ordering, unused, state_of, offset_of, segment_of}
use Rattle.rules.specs.Freeing.{freed}
use Rattle.rules.specs.HandingOut.{cut_fault}
use Rattle.rules.specs.Links.{first_refusal, out_of_range, too_large, page_rows_full, linked_at}
use Rattle.rules.specs.Stabilizing.{is_free}
use Rattle.std.specs.Ordering.{int_cmp}

-- what start is handed: the segment size, the header length and the snapshot
pub record Plan : Type 0 where
  pub size : ℕ
  pub header : ℕ
  pub stable : Option ℤ
  pub active : Option ℕ
  pub directory : List PageEntry
  pub rows : List SnapshotRow

-- ---- the checks before any row is placed
abbrev pub stable_out_of_range : Option ℤ → Bool
stable_out_of_range None = false
stable_out_of_range (Some lsn) = out_of_range lsn

abbrev pub lsns_out_of_range : Plan → Bool
lsns_out_of_range s = stable_out_of_range s.stable || not (every (λ row. not (out_of_range row.lsn)) s.rows)

-- a power of two (one bit is set) from 256 to 16,777,216
abbrev pub is_segment_size : ℕ → Bool
is_segment_size size = nat_le 256 size && (nat_le size 16777216 && count_ones size == 1)

abbrev pub is_header : ℕ → Bool
is_header header = nat_le 1 header && nat_le header 4096

-- the entries cover the rows in turn, from a place on
abbrev pub covers : ℕ → List PageEntry → ℕ → Bool
covers at [] rows = at == rows
covers at (entry ∷ entries) rows = entry.first == at && covers (at + entry.count) entries rows

-- every page's rows form a page
abbrev pub forms_page : List SnapshotRow → PageEntry → Bool
forms_page rows entry = is_some (page_state (take entry.count (drop entry.first rows)))

abbrev pub added : Option ℕ → ℕ → ℕ → ℕ
added None size whole = 0
added (Some active) size whole = cond (active / size == whole) 1 0

-- a length in segments, rounded up
abbrev pub in_segments : ℕ → ℕ → ℕ
in_segments size extent = extent / size + cond (extent % size == 0) 0 1

-- the segments of the file, and one more for an active offset in exactly the next
abbrev pub segment_count : Plan → ℕ → ℕ
segment_count s extent = in_segments s.size extent + added s.active s.size (in_segments s.size extent)

abbrev pub active_past : Plan → ℕ → Option ℕ → Bool
active_past s count None = false
active_past s count (Some active) = nat_le count (active / s.size)

-- what a start over a host with this segment size and file length is refused for, up to the active offset
abbrev pub plan_refusal : Plan → ℕ → ℕ → Option Refusal
plan_refusal s slot extent =
    first_refusal (
    (lsns_out_of_range s, no.LsnRange)
    ∷ (not (is_segment_size s.size && (is_header s.header && slot == s.size)), no.Setup)
    ∷ (nat_lt 256 (segment_count s extent), no.TooManySegments)
    ∷ (not (covers 0 s.directory (length s.rows)), no.Directory)
    ∷ (not (every (forms_page s.rows) s.directory), no.PageRows)
    ∷ (active_past s (segment_count s extent) s.active, no.PastSegments)
    ∷ []
    )

-- ---- the segments recovered
-- so many segments, none of them used
abbrev pub blank : Plan → ℕ → Books
blank s count = books s.size (replicate count unused) (count * s.size) (negsuc 0) [] [] [] [] [] [] []

-- the active segment
abbrev pub with_active : Option ℕ → ℤ → Books → Books
with_active None lsn b = b
with_active (Some active) lsn b = with_segments (slice_set b.segments (segment_of b active) (is.Active (opened (base_of b.size lsn)))) b

-- a row makes its segment Active, unless it is
abbrev pub opened_at : ℤ → State → State
opened_at base (is.Free f) = is.Active (opened base)
opened_at base (is.Active a) = is.Active a
opened_at base (is.Inactive i) = is.Inactive i
opened_at base (is.Draining d) = is.Draining d

abbrev pub has_base : ℤ → State → Bool
has_base base (is.Free f) = false
has_base base (is.Active a) = same_z a.lsn base
has_base base (is.Inactive i) = false
has_base base (is.Draining d) = false

abbrev pub bytes_in : State → ℕ
bytes_in (is.Free f) = 0
bytes_in (is.Active a) = a.rss
bytes_in (is.Inactive i) = 0
bytes_in (is.Draining d) = 0

-- the bytes of a row: a free page takes a header
abbrev pub row_size : ℕ → SnapshotRow → ℕ
row_size header row = cond (row.kind == 2) header row.size

abbrev pub row_segment : Books → SnapshotRow → ℕ
row_segment b row = segment_of b (lid_of row.pointer)

abbrev pub opened_for : SnapshotRow → Books → Books
opened_for row b = with_segments (slice_set b.segments (row_segment b row) (opened_at (base_of b.size row.lsn) (state_of b (row_segment b row)))) b

-- what a row of page p is refused for, its segment being opened for it
abbrev pub placed_refusal : ℕ → ℕ → SnapshotRow → Books → Option Refusal
placed_refusal header p row b =
    first_refusal (
    (not (has_base (base_of b.size row.lsn) (state_of b (row_segment b row))), no.RowBase)
    ∷ (too_large (row_size header row), no.TooLarge)
    ∷ (nat_lt (2 ^ 40) (bytes_in (state_of b (row_segment b row)) + row_size header row), no.TooLarge)
    ∷ (page_rows_full b (row_segment b row) p, no.PageRowsFull)
    ∷ []
    )

abbrev pub row_refusal : ℕ → ℕ → SnapshotRow → Books → Option Refusal
row_refusal header p row b = cond (nat_le (length b.segments) (row_segment b row)) (Some no.PastSegments) (placed_refusal header p row (opened_for row b))

abbrev pub recovered_by : Option Refusal → Books → Result Books Refusal
recovered_by (Some refusal) b = Err refusal
recovered_by None b = Ok b

-- a row of page p is recovered
abbrev pub recover_row : ℕ → ℕ → SnapshotRow → Books → Result Books Refusal
recover_row header p row b = recovered_by (row_refusal header p row b) (linked_at (row_segment b row) p (row_size header row) (opened_for row b))

abbrev pub and_then : Result Books Refusal → (Books → Result Books Refusal) → Result Books Refusal
and_then (Ok b) f = f b
and_then (Err refusal) f = Err refusal

abbrev pub recover_rows : ℕ → ℕ → List SnapshotRow → Books → Result Books Refusal
recover_rows header p [] b = Ok b
recover_rows header p (row ∷ rows) b = and_then (recover_row header p row b) (recover_rows header p rows)

-- the pages in turn, from page p on
abbrev pub recover_pages : ℕ → ℕ → List PageEntry → List SnapshotRow → Books → Result Books Refusal
recover_pages header p [] rows b = Ok b
recover_pages header p (entry ∷ entries) rows b =
    and_then (recover_rows header p (take entry.count (drop entry.first rows)) b) (recover_pages header (suc p) entries rows)

-- ---- the ordering: Active segments enter it, unless one with that LSN is there
abbrev pub order_state : ℕ → State → List OrderingRow → Result (List OrderingRow) Refusal
order_state offset (is.Free f) rows = Ok rows
order_state offset (is.Active a) rows = cond (is_some (find ordering_key int_cmp rows a.lsn)) (Err no.SameLsn) (Ok (insert_row ordering_key int_cmp rows (record { lsn = a.lsn; offset = offset })))
order_state offset (is.Inactive i) rows = Ok rows
order_state offset (is.Draining d) rows = Ok rows

abbrev pub order_then : Result (List OrderingRow) Refusal → (List OrderingRow → Result (List OrderingRow) Refusal) → Result (List OrderingRow) Refusal
order_then (Ok rows) f = f rows
order_then (Err refusal) f = Err refusal

abbrev pub order_all : ℕ → ℕ → List State → List OrderingRow → Result (List OrderingRow) Refusal
order_all size n [] rows = Ok rows
order_all size n (s ∷ rest) rows = order_then (order_state (n * size) s rows) (order_all size (suc n) rest)

abbrev pub ordered_by : Books → Result (List OrderingRow) Refusal → Result Books Refusal
ordered_by b (Ok rows) = Ok (with_ordering rows b)
ordered_by b (Err refusal) = Err refusal

abbrev pub ordered : Books → Result Books Refusal
ordered b = ordered_by b (order_all b.size 0 b.segments b.ordering)

-- the books before any segment is freed
abbrev pub recovered : Plan → ℕ → Result Books Refusal
recovered s extent =
    and_then (recover_pages s.header 0 s.directory s.rows (with_active s.active (unwrap_or s.stable (pos 0)) (blank s (segment_count s extent)))) ordered

-- ---- the Free segments
module _ {M : Type 0} (respond : M → Request → Answer × M) where
  abbrev pub fill_by : Books → Answer × M → Answer × World M
  fill_by b a = (a.0, world b a.1)

  -- segment n is filled, unless its cut was just asked: then the tip is not above it
  abbrev pub filled : ℕ → World M → Answer × World M
  filled n w = cond (nat_le w.books.tip (offset_of w.books n)) (Ok tt, w) (fill_by w.books (respond w.host (asked_fill (offset_of w.books n))))

  abbrev pub free_state : ℕ → State → World M → Answer × World M
  free_state n s w = cond (is_free s) (filled n (freed respond n w)) (Ok tt, w)

  abbrev pub then_free : (World M → Answer × World M) → Answer × World M → Answer × World M
  then_free rest (Ok u, w) = rest w
  then_free rest (Err e, w) = (Err e, w)

  -- the segments from n on, until the host refuses a fill
  unfoldable pub free_all : ℕ → List State → World M → Answer × World M
  free_all n [] w = (Ok tt, w)
  free_all n (s ∷ rest) w = then_free (free_all (suc n) rest) (free_state n s w)

  -- a refused fill or cut ends the start, and there are no books
  abbrev pub kept_if : List FaultRow → World M → Result (Unit {0}) Refusal × Option Books × M
  kept_if [] w = (Ok tt, Some w.books, w.host)
  kept_if (row ∷ rows) w = (Err (no.Host (cut_fault row)), None, w.host)

  abbrev pub started_by : Answer × World M → Result (Unit {0}) Refusal × Option Books × M
  started_by (Ok u, w) = kept_if w.books.faults w
  started_by (Err e, w) = (Err (no.Host e), None, w.host)

  abbrev pub freed_after : Result Books Refusal → M → Result (Unit {0}) Refusal × Option Books × M
  freed_after (Ok b) m = started_by (free_all 0 b.segments (world b m))
  freed_after (Err refusal) m = (Err refusal, None, m)

  -- a start over a host with this segment size and file length
  abbrev pub start_by : Option Refusal → Plan → ℕ → M → Result (Unit {0}) Refusal × Option Books × M
  start_by (Some refusal) s extent m = (Err refusal, None, m)
  start_by None s extent m = freed_after (recovered s extent) m

  abbrev pub started : Plan → ℕ → ℕ → M → Result (Unit {0}) Refusal × Option Books × M
  started s slot extent m = start_by (plan_refusal s slot extent) s extent m
