-- The books (docs/RULES.md, section 2): plain numbers, states and rows. Each table ascends by the key of its rows.
use Rattle.std.specs.Prelude.{ℕ, ◌*◌, ◌/◌, List, ℤ, None, slice_index_or}
use Rattle.segment.specs.declared.state.State.{State}
use Rattle.segment.specs.declared.state.State.TheVariants as is
use Rattle.segment.specs.declared.rows.OrderingRow.{OrderingRow}
use Rattle.segment.specs.declared.rows.PageRow.{PageRow}
use Rattle.segment.specs.declared.rows.BlobRow.{BlobRow}
use Rattle.segment.specs.declared.rows.FreeableRow.{FreeableRow}
use Rattle.segment.specs.declared.rows.FaultRow.{FaultRow}

pub record Books : Type 0 where
  -- the segment size S
  pub size : ℕ
  -- one state for each segment reached, by number
  pub segments : List State
  pub tip : ℕ
  -- the greatest stabilised LSN
  pub stabilized : ℤ
  -- offsets that may be handed out
  pub free : List ℕ
  pub ordering : List OrderingRow
  pub pages : List PageRow
  pub blobs : List BlobRow
  pub freeable : List FreeableRow
  -- offsets of the segments being emptied
  pub listed : List ℕ
  -- cuts that the host refused
  pub faults : List FaultRow

abbrev pub books : ℕ → List State → ℕ → ℤ → List ℕ → List OrderingRow → List PageRow → List BlobRow → List FreeableRow → List ℕ → List FaultRow → Books
books size segments tip stabilized free ordering pages blobs freeable listed faults = record {
  size = size;
  segments = segments;
  tip = tip;
  stabilized = stabilized;
  free = free;
  ordering = ordering;
  pages = pages;
  blobs = blobs;
  freeable = freeable;
  listed = listed;
  faults = faults;
}

-- the books with one part changed
abbrev pub with_segments : List State → Books → Books
with_segments x b = books b.size x b.tip b.stabilized b.free b.ordering b.pages b.blobs b.freeable b.listed b.faults

abbrev pub with_tip : ℕ → Books → Books
with_tip x b = books b.size b.segments x b.stabilized b.free b.ordering b.pages b.blobs b.freeable b.listed b.faults

abbrev pub with_stabilized : ℤ → Books → Books
with_stabilized x b = books b.size b.segments b.tip x b.free b.ordering b.pages b.blobs b.freeable b.listed b.faults

abbrev pub with_free : List ℕ → Books → Books
with_free x b = books b.size b.segments b.tip b.stabilized x b.ordering b.pages b.blobs b.freeable b.listed b.faults

abbrev pub with_ordering : List OrderingRow → Books → Books
with_ordering x b = books b.size b.segments b.tip b.stabilized b.free x b.pages b.blobs b.freeable b.listed b.faults

abbrev pub with_pages : List PageRow → Books → Books
with_pages x b = books b.size b.segments b.tip b.stabilized b.free b.ordering x b.blobs b.freeable b.listed b.faults

abbrev pub with_blobs : List BlobRow → Books → Books
with_blobs x b = books b.size b.segments b.tip b.stabilized b.free b.ordering b.pages x b.freeable b.listed b.faults

abbrev pub with_freeable : List FreeableRow → Books → Books
with_freeable x b = books b.size b.segments b.tip b.stabilized b.free b.ordering b.pages b.blobs x b.listed b.faults

abbrev pub with_listed : List ℕ → Books → Books
with_listed x b = books b.size b.segments b.tip b.stabilized b.free b.ordering b.pages b.blobs b.freeable x b.faults

abbrev pub with_faults : List FaultRow → Books → Books
with_faults x b = books b.size b.segments b.tip b.stabilized b.free b.ordering b.pages b.blobs b.freeable b.listed x

-- a segment that was never used
abbrev pub unused : State
unused = is.Free (record { previous_lsn = None })

-- the state of segment n; one that is not reached is as one never used
abbrev pub state_of : Books → ℕ → State
state_of b n = slice_index_or b.segments n unused

-- where segment n begins, and the segment of an offset
abbrev pub offset_of : Books → ℕ → ℕ
offset_of b n = n * b.size

abbrev pub segment_of : Books → ℕ → ℕ
segment_of b offset = offset / b.size

-- the books, and the state of the host below
pub record World (M : Type 0) : Type 0 where
  pub books : Books
  pub host : M

abbrev pub world : {M : Type 0} → Books → M → World M
world b m = record { books = b; host = m }
