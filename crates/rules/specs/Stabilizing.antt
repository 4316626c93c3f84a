-- Stabilize (docs/RULES.md, section 9): which segments are deactivated, and what that does.
use Rattle.std.specs.Prelude.{ℕ, suc, ◌+◌, ◌*◌, ◌/◌, Bool, true, false, cond, not, ◌&&◌, ◌||◌, List, [], ◌∷◌, length, take, ℤ, pos, ◌-ℤ◌, Some, None, Ok, Err, filter, Option, int_le, int_lt, nat_le, nat_lt, slice_set}
use Rattle.std.specs.Ordering.{is_eq, nat_cmp, int_cmp}
use Rattle.table.specs.Ranges.{of_first}
use Rattle.table.specs.Rows.{find, remove_row}
use Rattle.host.specs.Meaning.{Answer, asked_remove}
use Rattle.host.specs.declared.request.Request.{Request}
use Rattle.segment.specs.Bases.{base_of}
use Rattle.segment.specs.Changes.{closed}
use Rattle.segment.specs.Rows.{ordering_key, blob_key, freeable_key, by_signed}
use Rattle.segment.specs.declared.rows.BlobRow.{BlobRow}
use Rattle.segment.specs.declared.rows.FreeableRow.{FreeableRow}
use Rattle.segment.specs.declared.rows.OrderingRow.{OrderingRow}
use Rattle.segment.specs.declared.state.Active.{Active}
use Rattle.segment.specs.declared.state.Inactive.{Inactive}
use Rattle.segment.specs.declared.state.State.{State}
use Rattle.segment.specs.declared.state.State.TheVariants as is
use Rattle.rules.specs.Books.{Books, World, world, with_segments, with_stabilized, with_blobs, with_freeable, state_of, segment_of}
use Rattle.rules.specs.Pages.{page_count, left_count}
use Rattle.rules.specs.Freeing.{freed}
use Rattle.rules.specs.Cleaning.{cleaned, start_draining}

-- ---- draining by share
abbrev pub is_free : State → Bool
is_free (is.Free f) = true
is_free (is.Active a) = false
is_free (is.Inactive i) = false
is_free (is.Draining d) = false

abbrev pub is_inactive : State → Bool
is_inactive (is.Free f) = false
is_inactive (is.Active a) = false
is_inactive (is.Inactive i) = true
is_inactive (is.Draining d) = false

-- the Free segments below the tip
abbrev pub free_below_tip : Books → ℕ
free_below_tip b = length (filter is_free (take (b.tip / b.size) b.segments))

abbrev pub inactive_count : Books → ℕ
inactive_count b = length (filter is_inactive b.segments)

-- at least half of the free and inactive segments are free, and more than five are inactive
abbrev pub much_is_free : ℕ → ℕ → Bool
much_is_free free inactive = nat_le 50 (free * 100 / (1 + free + inactive)) && nat_lt 5 inactive

abbrev pub inactive_at : ℕ → State → Option (ℕ × Inactive)
inactive_at n (is.Free f) = None
inactive_at n (is.Active a) = None
inactive_at n (is.Inactive i) = Some (n, i)
inactive_at n (is.Draining d) = None

abbrev pub first_some : {X : Type 0} → Option X → Option X → Option X
first_some None y = y
first_some (Some x) y = Some x

-- the Inactive segment with the highest number, of those from n on
abbrev pub last_inactive : ℕ → List State → Option (ℕ × Inactive)
last_inactive n [] = None
last_inactive n (s ∷ rest) = first_some (last_inactive (suc n) rest) (inactive_at n s)

abbrev pub drain_found : Option (ℕ × Inactive) → Books → Books
drain_found None b = b
drain_found (Some x) b = start_draining x.0 x.1 b

abbrev pub drained_by_share : Books → Books
drained_by_share b = cond (much_is_free (free_below_tip b) (inactive_count b)) (drain_found (last_inactive 0 b.segments) b) b

-- ---- deactivating
-- the blob rows of segment n, and those of all others
abbrev pub blobs_of : ℕ → List BlobRow → List BlobRow
blobs_of n rows = of_first blob_key nat_cmp rows n

abbrev pub blobs_off : ℕ → List BlobRow → List BlobRow
blobs_off n rows = filter (λ row. not (is_eq (nat_cmp row.segment n))) rows

-- what segment n holds back
abbrev pub held_back_by : ℕ → List FreeableRow → List FreeableRow
held_back_by n rows = of_first freeable_key nat_cmp rows n

-- segment n becomes Inactive
abbrev pub closed_at : ℕ → Active → Books → Books
closed_at n a b = with_segments (slice_set b.segments n (is.Inactive (closed (page_count n b.pages) (left_count n b.pages) a))) b

abbrev pub number_at : Books → Option OrderingRow → ℕ
number_at b None = 0
number_at b (Some row) = segment_of b row.offset

-- the segment that the ordering has under this LSN
abbrev pub number_of_lsn : Books → ℤ → ℕ
number_of_lsn b lsn = number_at b (find ordering_key int_cmp b.ordering lsn)

-- ---- the range of a stabilize
-- one segment less than the base of the LSN
abbrev pub level : ℕ → ℤ → ℤ
level size lsn = base_of size lsn -ℤ pos size

-- nothing is to be done
abbrev pub is_settled : Books → ℤ → Bool
is_settled b lsn = int_lt lsn (pos 0) || int_le (level b.size lsn) b.stabilized

-- the ordering rows above the old value and up to the new one
abbrev pub ripe : ℤ → ℤ → List OrderingRow → List OrderingRow
ripe old new rows = filter (λ row. int_lt old row.lsn && int_le row.lsn new) rows

module _ {M : Type 0} (respond : M → Request → Answer × M) where
  -- the blobs are removed in turn, until the host refuses one
  abbrev pub removed_by : (M → Answer × M) → Answer × M → Answer × M
  removed_by rest (Ok u, m) = rest m
  removed_by rest (Err e, m) = (Err e, m)

  abbrev pub remove_blobs : List BlobRow → M → Answer × M
  remove_blobs [] m = (Ok tt, m)
  remove_blobs (row ∷ rows) m = removed_by (remove_blobs rows) (respond m (asked_remove row.blob))

  -- the segment of a freeable row is freed, and the row goes
  abbrev pub release : FreeableRow → World M → World M
  release row w = freed respond (number_of_lsn w.books row.lsn) (world (with_freeable (remove_row freeable_key by_signed w.books.freeable (row.segment, row.lsn)) w.books) w.host)

  unfoldable pub release_all : List FreeableRow → World M → World M
  release_all [] w = w
  release_all (row ∷ rows) w = release_all rows (release row w)

  -- segment n, whose blobs are removed: what it holds back is freed, it becomes Inactive, it is cleaned, and the share is looked at
  abbrev pub opened_up : ℕ → Books → M → World M
  opened_up n b m = release_all (held_back_by n b.freeable) (world (with_blobs (blobs_off n b.blobs) b) m)

  abbrev pub shut : ℕ → Active → World M → World M
  shut n a w = cleaned respond n (world (closed_at n a w.books) w.host)

  abbrev pub shared : World M → World M
  shared w = world (drained_by_share w.books) w.host

  abbrev pub deactivated_by : ℕ → Active → Books → Answer × M → Answer × World M
  deactivated_by n a b (Ok u, m) = (Ok tt, shared (shut n a (opened_up n b m)))
  deactivated_by n a b (Err e, m) = (Err e, world b m)

  abbrev pub deactivate_state : ℕ → State → World M → Answer × World M
  deactivate_state n (is.Free f) w = (Ok tt, w)
  deactivate_state n (is.Active a) w = deactivated_by n a w.books (remove_blobs (blobs_of n w.books.blobs) w.host)
  deactivate_state n (is.Inactive i) w = (Ok tt, w)
  deactivate_state n (is.Draining d) w = (Ok tt, w)

  -- the segment of an LSN is deactivated
  unfoldable pub deactivated : ℤ → World M → Answer × World M
  deactivated lsn w = deactivate_state (number_of_lsn w.books lsn) (state_of w.books (number_of_lsn w.books lsn)) w

  -- one after the other, until the host refuses a removal
  abbrev pub then_deactivated : (World M → Answer × World M) → Answer × World M → Answer × World M
  then_deactivated rest (Ok u, w) = rest w
  then_deactivated rest (Err e, w) = (Err e, w)

  unfoldable pub deactivate_all : List OrderingRow → World M → Answer × World M
  deactivate_all [] w = (Ok tt, w)
  deactivate_all (row ∷ rows) w = then_deactivated (deactivate_all rows) (deactivated row.lsn w)

  abbrev pub stabilized_to : ℤ → World M → Answer × World M
  stabilized_to new w = deactivate_all (ripe w.books.stabilized new w.books.ordering) (world (with_stabilized new w.books) w.host)

  abbrev pub stabilized_at : ℤ → World M → Answer × World M
  stabilized_at lsn w = cond (is_settled w.books lsn) (Ok tt, w) (stabilized_to (level w.books.size lsn) w)
