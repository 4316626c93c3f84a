-- The pages of a snapshot: which rows form one.
use Rattle.std.specs.Prelude.{◌≡◌, ℕ, ◌+◌, Bool, cond, List, [], ◌∷◌, length, take, drop, Some, None, Option, Result, ◌==◌, nat_eq, nat_le, nat_lt, slice_index_or}
use Rattle.std.specs.Option.{ok_or}
use Rattle.table.specs.Rows.{every}
use Rattle.segment.specs.declared.snapshot.SnapshotRow.{SnapshotRow}
use Rattle.segment.specs.declared.snapshot.PageEntry.{PageEntry}
use Rattle.segment.specs.declared.snapshot.RowKind.{RowKind}
use Rattle.segment.specs.declared.snapshot.UnknownKind.{UnknownKind}
use Rattle.segment.specs.declared.snapshot.RowKind.TheVariants as kind
use Rattle.segment.specs.declared.snapshot.PageState.{PageState}
use Rattle.segment.specs.declared.snapshot.PageState.TheVariants as page

-- 0 base, 1 fragment, 2 free page, 3 uninitialised
abbrev pub kind_at : ℕ → Option RowKind
kind_at n =
    cond (n == 0) (Some kind.Base)
    (cond (n == 1) (Some kind.Fragment)
    (cond (n == 2) (Some kind.Free)
    (cond (n == 3) (Some kind.Uninitialized) None)))

-- the kind of this number, or the number where it stands for none
abbrev pub Names : ℕ → Result RowKind UnknownKind → Type 0
Names n r = r ≡ ok_or (kind_at n) (record { 0 = n })

abbrev pub kind_of : SnapshotRow → Option RowKind
kind_of row = kind_at row.kind

abbrev pub fragments_only : List SnapshotRow → Bool
fragments_only rows = every (λ row. nat_eq row.kind 1) rows

-- a page: a base and its fragments, or a free page
pub data Paged : Type 0 where
  present : SnapshotRow → List SnapshotRow → Paged
  freed : SnapshotRow → Paged

abbrev pub shown : PageState → Paged
shown (page.Present base frags) = present base frags.now
shown (page.Free row) = freed row

abbrev pub page_by : SnapshotRow → List SnapshotRow → Option RowKind → Option Paged
page_by row rest None = None
page_by row rest (Some kind.Base) = cond (fragments_only rest) (Some (present row rest)) None
page_by row rest (Some kind.Fragment) = None
page_by row rest (Some kind.Free) = cond (length rest == 0) (Some (freed row)) None
page_by row rest (Some kind.Uninitialized) = None

-- the page that the rows form, if they form one
abbrev pub page_state : List SnapshotRow → Option Paged
page_state [] = None
page_state (row ∷ rest) = page_by row rest (kind_of row)

-- the rows that a directory entry names, if they are there
abbrev pub part_of : PageEntry → List SnapshotRow → Option (List SnapshotRow)
part_of entry rows = cond (nat_le (entry.first + entry.count) (length rows)) (Some (take entry.count (drop entry.first rows))) None

abbrev pub no_entry : PageEntry
no_entry = record { first = 0; count = 0 }

-- the rows of one page
abbrev pub page_rows : List PageEntry → List SnapshotRow → ℕ → Option (List SnapshotRow)
page_rows directory rows page = cond (nat_lt page (length directory)) (part_of (slice_index_or directory page no_entry) rows) None
