-- Each refusal comes, and in the order of the checks (docs/RULES.md, section 12). S = 256. In each run some calls are accepted, and then each call
-- is refused. A comment gives the number of the refusal and, after "before", the next check of that call's order that can fail with it and does;
-- mostly the call after is the same with the first fault mended.
use Rattle.std.specs.Prelude.{◌≡◌, ℕ, zero, suc, ◌+◌, ◌-◌, ◌*◌, ◌/◌, ◌%◌, ◌^◌, cond, List, [], ◌∷◌, ◌++◌, map, length, replicate, ℤ, pos, negsuc, Some, None, Option, ◌==◌}
use Rattle.host.specs.Fail.{fail_respond}
use Rattle.host.specs.declared.request.HostFault.TheVariants as fault
use Rattle.memory_host.specs.Memory.{memory_made, memory_respond}
use Rattle.segment.specs.Pointers.{inline, blob}
use Rattle.segment.specs.declared.cache_info.CacheInfo.{CacheInfo}
use Rattle.segment.specs.declared.snapshot.PageEntry.{PageEntry}
use Rattle.segment.specs.declared.snapshot.SnapshotRow.{SnapshotRow}
use Rattle.rules.specs.Runs.{Call, Start, Link, Replace, Next, Stabilize, Pop, Reply, Done, Gave, Popped, Refused, run_from}
use Rattle.rules.specs.Starting.{Plan}
use Rattle.rules.specs.declared.refusal.Refusal.{Refusal}
use Rattle.rules.specs.declared.refusal.Refusal.TheVariants as no

-- A run over a memory host with a file of this length, below a fail layer that passes so many requests before its refusal, or all.
pub record Run : Type 0 where
  pub file : ℕ
  pub passes : Option ℕ
  pub accepted : List Call
  pub refused : List (Call × Refusal)

abbrev pub over : ℕ → Option ℕ → List Call → List (Call × Refusal) → Run
over file passes accepted refused = record { file = file; passes = passes; accepted = accepted; refused = refused }

abbrev pub replies : Run → List Reply
replies r = (run_from (fail_respond memory_respond) (λ m. m.1.slot) (λ m. m.1.extent) (r.accepted ++ map (λ a. a.0) r.refused) None (r.passes, memory_made 256 r.file [])).0

abbrev pub refusal_in : Reply → Option Refusal
refusal_in Done = None
refusal_in (Gave offset) = None
refusal_in (Popped page) = None
refusal_in (Refused refusal) = Some refusal

-- no refusal of an accepted call, and of each other call its own
abbrev pub ComesOut : Run → Type 0
ComesOut r = map refusal_in (replies r) ≡ replicate (length r.accepted) None ++ map (λ a. Some a.1) r.refused

abbrev pub AllComeOut : List Run → Type 0
AllComeOut [] = Unit {0}
AllComeOut (r ∷ rs) = ComesOut r × AllComeOut rs

-- ---- what calls are handed
abbrev pub huge : ℕ
huge = 4294967296

abbrev pub info : ℤ → ℕ → ℕ → CacheInfo
info lsn offset size = record { ts = 0; lsn = lsn; pointer = inline offset; log_size = size }

abbrev pub blob_info : ℤ → ℕ → ℤ → CacheInfo
blob_info lsn offset name = record { ts = 0; lsn = lsn; pointer = blob offset name; log_size = 0 }

abbrev pub plan : ℕ → Option ℤ → Option ℕ → List PageEntry → List SnapshotRow → Plan
plan header stable active directory rows = record { size = 256; header = header; stable = stable; active = active; directory = directory; rows = rows }

abbrev pub empty : Call
empty = Start (plan 32 None None [] [])

abbrev pub row : ℕ → ℕ → ℕ → ℕ → SnapshotRow
row kind lsn offset size = record { kind = kind; lsn = pos lsn; pointer = inline offset; size = size }

abbrev pub entries : ℕ → ℕ → PageEntry
entries first count = record { first = first; count = count }

-- ---- many of a kind
-- k segments at LSNs from n · 256 on
abbrev pub nexts_from : ℕ → ℕ → List Call
nexts_from n zero = []
nexts_from n (suc k) = Next (pos (n * 256)) ∷ nexts_from (suc n) k

-- pages p + k − 1 down to p of this size in segment 0
abbrev pub links_down : ℕ → ℕ → ℕ → List Call
links_down size p zero = []
links_down size p (suc k) = Link (p + k) (info (pos 0) 0 size) ∷ links_down size p k

-- old infos in segment 0 with the blobs n, n + 1, ..
abbrev pub blobs_from : ℕ → ℕ → List CacheInfo
blobs_from n zero = []
blobs_from n (suc k) = blob_info (pos 0) 0 (pos n) ∷ blobs_from (suc n) k

-- n pages of ten rows each, from a row on
abbrev pub tens_from : ℕ → ℕ → List PageEntry
tens_from at zero = []
tens_from at (suc n) = entries at 10 ∷ tens_from (at + 10) n

-- k rows from row i on, all at LSN 0: page n lies in segments 204 − n to 213 − n
abbrev pub rows_from : ℕ → ℕ → List SnapshotRow
rows_from i zero = []
rows_from i (suc k) = row (cond (i % 10 == 0) 0 1) 0 ((204 + i % 10 - i / 10) * 256) 0 ∷ rows_from (suc i) k

-- ---- the runs
-- Segment 0 is Inactive: page 1 has left, page 2 lies there with 200 bytes. Segments 1 and 2 are Active at 256 and 512. Page 1 lies in segment 1
-- with 10 bytes. There are 256 blob rows.
abbrev pub three_segments : List Call
three_segments =
    empty ∷ Next (pos 0) ∷ Next (pos 256) ∷ Next (pos 512)
    ∷ Link 1 (info (pos 0) 0 0) ∷ Link 2 (info (pos 0) 0 200)
    ∷ Replace 1 (pos 256) (blobs_from 1 256) (info (pos 256) 256 10)
    ∷ Stabilize (pos 256) ∷ []

-- Pages 0 to 2,045 are linked into segment 0 with 2^40 − 256 bytes. Page 0 leaves it for segment 1, and page 9,000 is linked there: 2,048 page rows.
abbrev pub full_tables : List Call
full_tables =
    empty ∷ Next (pos 0) ∷ Next (pos 256)
    ∷ (links_down 4294967295 1790 256 ++ (links_down 0 0 1790 ++ (Replace 0 (pos 256) (info (pos 0) 0 0 ∷ []) (info (pos 256) 256 0) ∷ Link 9000 (info (pos 256) 256 0) ∷ [])))

-- A cut at 512 was refused, and segment 1 was handed out again: the tip is 512, nothing is free, and LSN 256 is not in use.
abbrev pub cut_refused : List Call
cut_refused = empty ∷ Next (pos 0) ∷ Next (pos 256) ∷ Next (pos 512) ∷ Link 1 (info (pos 0) 0 200) ∷ Stabilize (pos 768) ∷ Next (pos 768) ∷ []

abbrev pub links_refused : Run
links_refused =
    over 0 None full_tables (
    -- 16, before 17 for the total
    (Link 0 (info (pos 0) 0 257), no.PageLeft)
    ∷ (Replace 0 (pos 0) [] (info (pos 0) 0 257), no.PageLeft)
    -- 17 for the total, before 18
    ∷ (Link 3000 (info (pos 0) 0 257), no.TooLarge)
    ∷ (Replace 3000 (pos 0) [] (info (pos 0) 0 257), no.TooLarge)
    -- 18; for a replacement before 13 for an old segment
    ∷ (Link 3000 (info (pos 0) 0 256), no.PageRowsFull)
    ∷ (Replace 3000 (pos 0) (info (pos 512) 512 0 ∷ []) (info (pos 0) 0 256), no.PageRowsFull)
    ∷ []
    )

-- 17 for the size of a row, before 18; and 18, before 7
abbrev pub row_too_large : Run
row_too_large = over 54784 None [] ((Start (plan 32 None None (tens_from 0 205) (rows_from 0 2048 ++ replicate 2 (row 1 0 2048 huge))), no.TooLarge) ∷ [])

abbrev pub rows_too_many : Run
rows_too_many = over 54784 None [] ((Start (plan 32 None None (tens_from 0 205) (rows_from 0 2050)), no.PageRowsFull) ∷ [])

abbrev pub refusal_cases : List Run
refusal_cases =
    links_refused
    ∷ row_too_large
    ∷ rows_too_many
    -- before a start each other call is 28, before 12
    ∷ over 0 None [] (
    (Link 1 (info (negsuc 0) 0 1), no.OutOfTurn)
    ∷ (Replace 1 (negsuc 0) [] (info (negsuc 0) 0 1), no.OutOfTurn)
    ∷ (Next (negsuc 0), no.OutOfTurn)
    ∷ (Stabilize (pos (2 ^ 62)), no.OutOfTurn)
    ∷ (Pop, no.OutOfTurn)
    ∷ []
    )
    -- start: 28, before 12
    ∷ over 0 None (empty ∷ []) ((Start (plan 32 (Some (negsuc 0)) None [] []), no.OutOfTurn) ∷ [])
    -- start, over a file of 256 segments
    ∷ over 65536 None [] (
    -- 12, before 1
    (Start (plan 0 (Some (negsuc 0)) (Some 65536) [] []), no.LsnRange)
    -- 1, before 2
    ∷ (Start (plan 0 None (Some 65536) (entries 1 1 ∷ []) (row 3 0 0 0 ∷ [])), no.Setup)
    -- 2, before 3
    ∷ (Start (plan 32 None (Some 65536) (entries 1 1 ∷ []) (row 3 0 0 0 ∷ [])), no.TooManySegments)
    -- 3, before 4
    ∷ (Start (plan 32 None (Some 65792) (entries 1 1 ∷ []) (row 3 0 0 0 ∷ [])), no.Directory)
    -- 4, before 5 for the active offset
    ∷ (Start (plan 32 None (Some 65792) (entries 0 1 ∷ []) (row 3 0 0 0 ∷ [])), no.PageRows)
    -- 5 for the active offset, before 6
    ∷ (Start (plan 32 None (Some 65792) (entries 0 2 ∷ []) (row 0 0 0 0 ∷ row 1 256 0 0 ∷ [])), no.PastSegments)
    -- 5 for the first row, before 6 for the third; and 6 for the second, before 5 for the third
    ∷ (Start (plan 32 None None (entries 0 3 ∷ []) (row 0 0 65536 0 ∷ row 1 0 0 0 ∷ row 1 256 0 0 ∷ [])), no.PastSegments)
    ∷ (Start (plan 32 None None (entries 0 3 ∷ []) (row 0 0 0 0 ∷ row 1 256 0 0 ∷ row 1 0 65536 0 ∷ [])), no.RowBase)
    -- 6, before 17 for the size
    ∷ (Start (plan 32 None None (entries 0 2 ∷ []) (row 0 0 0 0 ∷ row 1 256 0 huge ∷ [])), no.RowBase)
    -- 17 for the total, before 7
    ∷ (Start (plan 32 None None (entries 0 258 ∷ []) (row 0 0 256 0 ∷ (replicate 256 (row 1 0 0 4294967295) ++ (row 1 0 0 257 ∷ [])))), no.TooLarge)
    ∷ []
    )
    -- start, over a file of three segments and a host that refuses its first request
    ∷ over 768 (Some 0) [] (
    -- 7, before 25
    (Start (plan 32 None None (entries 0 2 ∷ []) (row 0 0 256 0 ∷ row 1 0 0 0 ∷ [])), no.SameLsn)
    -- 25 for the fill of segment 2
    ∷ (Start (plan 32 None None (entries 0 2 ∷ []) (row 0 256 256 0 ∷ row 1 0 0 0 ∷ [])), no.Host (fault.Fill 512 9 0))
    ∷ []
    )
    -- start, over a host that refuses its second request: 25 for the cut of segment 2
    ∷ over 768 (Some 1) [] ((Start (plan 32 None (Some 0) [] []), no.Host (fault.Cut 512 9 0)) ∷ [])
    -- link
    ∷ over 0 None three_segments (
    -- 12, before 17
    (Link 1 (info (negsuc 0) 768 huge), no.LsnRange)
    -- 17 for the size, before 13
    ∷ (Link 1 (info (pos 0) 768 huge), no.TooLarge)
    -- 13
    ∷ (Link 1 (info (pos 0) 768 0), no.NoSegment)
    -- 14, before 15
    ∷ (Link 1 (info (pos 256) 0 0), no.OtherBase)
    -- 15, before 16
    ∷ (Link 1 (info (pos 0) 0 0), no.NotActive)
    ∷ []
    )
    -- replace
    ∷ over 0 None three_segments (
    -- 12, before 19: its own LSN, and that of an old info past the 256th
    (Replace 1 (negsuc 0) [] (info (pos 256) 256 0), no.LsnRange)
    ∷ (Replace 1 (pos 257) (blobs_from 1 256 ++ (info (negsuc 0) 0 0 ∷ [])) (info (pos 256) 256 0), no.LsnRange)
    -- 19, before 20
    ∷ (Replace 1 (pos 257) (blobs_from 1 256 ++ (info (pos 0) 0 huge ∷ [])) (info (pos 256) 256 0), no.LsnsDiffer)
    -- 20, before 17 for an old size
    ∷ (Replace 1 (pos 256) (blobs_from 1 256 ++ (info (pos 0) 0 huge ∷ [])) (info (pos 256) 256 0), no.TooManyOld)
    -- 17 for an old size, before 13 for the new info
    ∷ (Replace 1 (pos 256) (info (pos 0) 0 huge ∷ []) (info (pos 256) 768 0), no.TooLarge)
    -- 17 for the new size, before 13 for the new info
    ∷ (Replace 1 (pos 256) [] (info (pos 256) 768 huge), no.TooLarge)
    -- 13 for the new info, before 22
    ∷ (Replace 1 (pos 256) (info (pos 0) 0 0 ∷ []) (info (pos 256) 768 0), no.NoSegment)
    -- 14, before 15
    ∷ (Replace 1 (pos 256) [] (info (pos 256) 0 0), no.OtherBase)
    -- 15, before 16
    ∷ (Replace 1 (pos 0) [] (info (pos 0) 0 0), no.NotActive)
    -- 13 for an old segment, before 24
    ∷ (Replace 1 (pos 256) (blob_info (pos 768) 768 (pos 300) ∷ []) (info (pos 256) 256 0), no.NoSegment)
    -- by old segment, ascending: 21 for segment 2, before 13 for segment 3
    ∷ (Replace 1 (pos 256) (info (pos 768) 768 0 ∷ info (pos 512) 512 0 ∷ []) (info (pos 256) 256 0), no.BaseTooLow)
    -- 21, before 22
    ∷ (Replace 1 (pos 256) (info (pos 512) 512 0 ∷ []) (info (pos 256) 256 0), no.BaseTooLow)
    -- 22, before 23: page 1 has left segment 0, and page 3 never lay there
    ∷ (Replace 1 (pos 512) (info (pos 0) 0 201 ∷ []) (info (pos 512) 512 0), no.PageAbsent)
    ∷ (Replace 3 (pos 512) (info (pos 0) 0 201 ∷ []) (info (pos 512) 512 0), no.PageAbsent)
    -- 23, before 24, for an Inactive segment and an Active one
    ∷ (Replace 2 (pos 512) (info (pos 0) 0 201 ∷ blob_info (pos 0) 0 (pos 300) ∷ []) (info (pos 512) 512 0), no.MoreThanLive)
    ∷ (Replace 1 (pos 512) (info (pos 256) 256 11 ∷ blob_info (pos 256) 256 (pos 300) ∷ []) (info (pos 512) 512 0), no.MoreThanLive)
    -- 24
    ∷ (Replace 2 (pos 512) (blob_info (pos 0) 0 (pos 300) ∷ []) (info (pos 512) 512 0), no.BlobRowsFull)
    ∷ []
    )
    -- next, after a refused cut
    ∷ over 0 (Some 0) cut_refused (
    -- 12, before 8
    (Next (negsuc 0), no.LsnRange)
    -- 8, before 25
    ∷ (Next (pos 257), no.Unaligned)
    -- 10, before 25
    ∷ (Next (pos 0), no.LsnInUse)
    -- 25, before 9
    ∷ (Next (pos 256), no.Host (fault.Cut 512 9 0))
    -- 9, the faults being forgotten
    ∷ (Next (pos 256), no.BelowOffset)
    ∷ []
    )
    -- next, with all segments handed out: 11, before 9
    ∷ over 0 None (empty ∷ nexts_from 1 256) ((Next (pos 0), no.FileFull) ∷ [])
    -- stabilize: 12, before 25; and 25
    ∷ over 0 (Some 0) (empty ∷ Next (pos 0) ∷ Replace 1 (pos 0) (blobs_from 7 1) (info (pos 0) 0 1) ∷ []) (
    (Stabilize (pos (2 ^ 62)), no.LsnRange)
    ∷ (Stabilize (pos 512), no.Host (fault.Remove (pos 7) 9 0))
    ∷ []
    )
    ∷ []

abbrev pub RefusalsComeInOrder : Type 0
RefusalsComeInOrder = AllComeOut refusal_cases
