-- Freeing a segment, with the cuts that follow (docs/RULES.md, section 8).
use Rattle.std.specs.Prelude.{ℕ, zero, suc, ◌-◌, Bool, cond, not, ◌&&◌, List, length, ℤ, is_some, Some, None, Ok, Err, Option, ◌==◌, nat_lt}
use Rattle.table.specs.Rows.{find, insert_row, remove_row, own_key}
use Rattle.host.specs.Meaning.{Answer, asked_cut, code_of, layer_of}
use Rattle.host.specs.declared.request.Request.{Request}
use Rattle.segment.specs.Rows.{ordering_key, fault_key}
use Rattle.segment.specs.declared.state.State.{State}
use Rattle.segment.specs.declared.state.State.TheVariants as is
use Rattle.segment.specs.declared.rows.OrderingRow.{OrderingRow}
use Rattle.segment.specs.declared.rows.FaultRow.{FaultRow}
use Rattle.rules.specs.Books.{Books, books, World, world, state_of, offset_of}
use Rattle.rules.specs.Pages.{rows_off}
use Rattle.std.specs.Ordering.{nat_cmp, int_cmp}

-- the ordering without the row of a former LSN
abbrev pub without_lsn : Option ℤ → List OrderingRow → List OrderingRow
without_lsn None ordering = ordering
without_lsn (Some lsn) ordering = remove_row ordering_key int_cmp ordering lsn

abbrev pub unordered : State → List OrderingRow → List OrderingRow
unordered (is.Free f) ordering = without_lsn f.previous_lsn ordering
unordered (is.Active a) ordering = ordering
unordered (is.Inactive i) ordering = ordering
unordered (is.Draining d) ordering = ordering

-- segment n, which is Free, is unlisted, its page rows and its ordering row go, and its offset joins the free list
abbrev pub put_free : ℕ → Books → Books
put_free n b =
    books b.size b.segments b.tip b.stabilized (insert_row own_key nat_cmp b.free (offset_of b n)) (unordered (state_of b n) b.ordering) (rows_off n b.pages) b.blobs
    b.freeable (remove_row own_key nat_cmp b.listed (offset_of b n)) b.faults

-- whether an offset is on the free list
abbrev pub is_free_offset : Books → ℕ → Bool
is_free_offset b offset = is_some (find own_key nat_cmp b.free offset)

-- the tip is not 0, the list holds more than one offset, and the last segment below the tip is on it
abbrev pub can_cut : Books → Bool
can_cut b = not (b.tip == 0) && (nat_lt 1 (length b.free) && is_free_offset b (b.tip - b.size))

-- a refused cut is remembered
abbrev pub remembered : ℕ → Answer → List FaultRow → List FaultRow
remembered offset (Ok u) faults = faults
remembered offset (Err e) faults = insert_row fault_key nat_cmp faults (record { offset = offset; code = code_of e; layer = layer_of e })

-- the last segment leaves the list and becomes the tip, whatever the host answers
abbrev pub lowered : Books → Answer → Books
lowered b answer =
    books b.size b.segments (b.tip - b.size) b.stabilized (remove_row own_key nat_cmp b.free (b.tip - b.size)) b.ordering b.pages b.blobs b.freeable b.listed
    (remembered (b.tip - b.size) answer b.faults)

module _ {M : Type 0} (respond : M → Request → Answer × M) where
  abbrev pub cut_by : Books → Answer × M → World M
  cut_by b a = world (lowered b a.0) a.1

  abbrev pub cut_once : World M → World M
  cut_once w = cut_by w.books (respond w.host (asked_cut (w.books.tip - w.books.size)))

  -- as often as it can be, at most n times
  unfoldable pub cut_tail : ℕ → World M → World M
  cut_tail zero w = w
  cut_tail (suc n) w = cond (can_cut w.books) (cut_tail n (cut_once w)) w

  -- segment n is freed
  abbrev pub freed : ℕ → World M → World M
  freed n w = cut_tail (length (put_free n w.books).free) (world (put_free n w.books) w.host)
