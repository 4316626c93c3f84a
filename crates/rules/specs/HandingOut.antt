-- Next and pop (docs/RULES.md, sections 10 and 11).
use Rattle.std.specs.Prelude.{ℕ, ◌+◌, ◌*◌, ◌%◌, Bool, false, cond, not, List, [], ◌∷◌, ◌++◌, length, ℤ, is_some, Some, None, Ok, Err, Option, Result, ◌==◌, nat_le, nat_lt, slice_set, unsigned_abs}
use Rattle.table.specs.Rows.{find, insert_row, remove_row, own_key, first_of}
use Rattle.host.specs.declared.request.HostFault.{HostFault}
use Rattle.host.specs.declared.request.HostFault.TheVariants as fault
use Rattle.segment.specs.Changes.{opened}
use Rattle.segment.specs.Rows.{ordering_key, page_key, by_page}
use Rattle.segment.specs.declared.rows.FaultRow.{FaultRow}
use Rattle.segment.specs.declared.rows.PageRow.{PageRow}
use Rattle.segment.specs.declared.state.State.{State}
use Rattle.segment.specs.declared.state.State.TheVariants as is
use Rattle.rules.specs.declared.refusal.Refusal.{Refusal}
use Rattle.rules.specs.declared.refusal.Refusal.TheVariants as no
use Rattle.rules.specs.Books.{Books, books, with_pages, with_listed, with_faults, segment_of}
use Rattle.rules.specs.Pages.{queue_of, queued_row}
use Rattle.std.specs.Ordering.{nat_cmp, int_cmp}

-- ---- next
abbrev pub unaligned : ℕ → ℤ → Bool
unaligned size lsn = not (unsigned_abs lsn % size == 0)

abbrev pub in_use : Books → ℤ → Bool
in_use b lsn = is_some (find ordering_key int_cmp b.ordering lsn)

-- the fault of a refused cut, whole
abbrev pub cut_fault : FaultRow → HostFault
cut_fault row = fault.Cut row.offset row.code row.layer

-- The offset to hand out: the least free one, or the tip. Where the tip would be taken and faults are remembered, they are forgotten and the
-- lowest is told.
abbrev pub at_tip : Books → List FaultRow → Result ℕ Refusal × Books
at_tip b [] = cond (nat_le (256 * b.size) b.tip) (Err no.FileFull, b) (Ok b.tip, b)
at_tip b (row ∷ rows) = (Err (no.Host (cut_fault row)), with_faults [] b)

abbrev pub offered : Books → List ℕ → Result ℕ Refusal × Books
offered b [] = at_tip b b.faults
offered b (offset ∷ rest) = (Ok offset, b)

-- segment n becomes Active; one that was not reached before is reached
abbrev pub entered : ℕ → State → List State → List State
entered n s segments = cond (nat_lt n (length segments)) (slice_set segments n s) (segments ++ s ∷ [])

abbrev pub rest_of : List ℕ → List ℕ
rest_of [] = []
rest_of (offset ∷ rest) = rest

-- the tip rises if no offset was free
abbrev pub risen : List ℕ → ℕ → ℕ → ℕ
risen [] tip size = tip + size
risen (offset ∷ rest) tip size = tip

abbrev pub handed_out : ℤ → ℕ → Books → Books
handed_out lsn offset b =
    books b.size (entered (segment_of b offset) (is.Active (opened lsn)) b.segments) (risen b.free b.tip b.size) b.stabilized (rest_of b.free)
    (insert_row ordering_key int_cmp b.ordering (record { lsn = lsn; offset = offset })) b.pages b.blobs b.freeable b.listed b.faults

abbrev pub next_by : ℤ → Result ℕ Refusal × Books → Result ℕ Refusal × Books
next_by lsn (Ok offset, b) = cond (nat_lt (unsigned_abs lsn) offset) (Err no.BelowOffset, b) (Ok offset, handed_out lsn offset b)
next_by lsn (Err e, b) = (Err e, b)

-- from the check of the LSN's place on
abbrev pub next_at : ℤ → Books → Result ℕ Refusal × Books
next_at lsn b =
    cond (unaligned b.size lsn) (Err no.Unaligned, b)
    (cond (in_use b lsn) (Err no.LsnInUse, b)
    (next_by lsn (offered b b.free)))

-- ---- pop
-- the segment whose pages are rewritten first: the lowest listed offset
abbrev pub first_listed : Books → Option ℕ
first_listed b = first_of b.listed

abbrev pub popped_from : ℕ → List PageRow → Books → Option (ℕ × ℕ) × Books
popped_from offset [] b = (None, with_listed (remove_row own_key nat_cmp b.listed offset) b)
popped_from offset (row ∷ rows) b = (Some (row.page, offset), with_pages (insert_row page_key by_page b.pages (queued_row false row)) b)

abbrev pub popped_at : Option ℕ → Books → Option (ℕ × ℕ) × Books
popped_at None b = (None, b)
popped_at (Some offset) b = popped_from offset (queue_of (segment_of b offset) b.pages) b

-- the lowest queued page of the first listed segment, with its offset; or that segment is unlisted
abbrev pub popped : Books → Option (ℕ × ℕ) × Books
popped b = popped_at (first_listed b) b
