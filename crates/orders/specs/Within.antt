-- The bounds of the books' numbers: as a record of facts, and as one test.
use Rattle.std.specs.Prelude.{◌≡◌, ℕ, ◌*◌, ◌/◌, ◌^◌, Bool, true, not, ◌&&◌, ltb, leb, length, ℤ, pos, negsuc, Some, None, Option, ◌==◌, int_le, int_lt, nat_le, nat_lt}
use Rattle.table.specs.Rows.{every}
use Rattle.segment.specs.declared.state.State.{State}
use Rattle.segment.specs.declared.state.State.TheVariants as is
use Rattle.rules.specs.Books.{Books}
use Rattle.rules.specs.Links.{out_of_range}
use Rattle.rules.specs.Starting.{is_segment_size}
use Rattle.orders.specs.Ordered.{Ordered}

-- an LSN from 0 to 2^62 − 1
abbrev pub is_lsn : ℤ → Bool
is_lsn lsn = not (out_of_range lsn)

abbrev pub is_former : Option ℤ → Bool
is_former None = true
is_former (Some lsn) = is_lsn lsn

-- its LSNs are LSNs, and deferred ≤ linked ≤ 2^40, or live ≤ 2^40
abbrev pub is_bounded : State → Bool
is_bounded (is.Free f) = is_former f.previous_lsn
is_bounded (is.Active a) = is_lsn a.lsn && (is_lsn a.latest_replacement_lsn && (nat_le a.deferred_replaced_rss a.rss && nat_le a.rss (2 ^ 40)))
is_bounded (is.Inactive i) = is_lsn i.lsn && (is_lsn i.latest_replacement_lsn && nat_le i.rss (2 ^ 40))
is_bounded (is.Draining d) = is_lsn d.lsn && is_lsn d.latest_replacement_lsn

-- the offset of one of so many segments
abbrev pub is_place : ℕ → ℕ → ℕ → Bool
is_place size reached offset = offset / size * size == offset && nat_lt (offset / size) reached

-- the end of one of so many segments, or 0
abbrev pub is_end : ℕ → ℕ → ℕ → Bool
is_end size reached offset = offset / size * size == offset && nat_le (offset / size) reached

-- −1, or an LSN
abbrev pub is_level : ℤ → Bool
is_level level = int_le (negsuc 0) level && int_lt level (pos (2 ^ 62))

pub record Within (b : Books) : Type 0 where
  pub size : is_segment_size b.size ≡ true
  pub reached : leb (length b.segments) 256 ≡ true
  pub states : every is_bounded b.segments ≡ true
  pub tip : is_end b.size (length b.segments) b.tip ≡ true
  pub stabilized : is_level b.stabilized ≡ true
  pub free : every (is_place b.size (length b.segments)) b.free ≡ true
  pub ordering : every (λ row. is_lsn row.lsn && is_place b.size (length b.segments) row.offset) b.ordering ≡ true
  pub pages : every (λ row. ltb row.segment (length b.segments)) b.pages ≡ true
  pub page_room : leb (length b.pages) 2048 ≡ true
  pub blobs : every (λ row. ltb row.segment (length b.segments)) b.blobs ≡ true
  pub blob_room : leb (length b.blobs) 256 ≡ true
  pub freeable : every (λ row. nat_lt row.segment (length b.segments) && is_lsn row.lsn) b.freeable ≡ true
  pub listed : every (is_place b.size (length b.segments)) b.listed ≡ true
  pub faults : every (λ row. is_place b.size (length b.segments) row.offset) b.faults ≡ true

unfoldable pub within : Books → Bool
within b =
    is_segment_size b.size
    && (nat_le (length b.segments) 256
    && (every is_bounded b.segments
    && (is_end b.size (length b.segments) b.tip
    && (is_level b.stabilized
    && (every (is_place b.size (length b.segments)) b.free
    && (every (λ row. is_lsn row.lsn && is_place b.size (length b.segments) row.offset) b.ordering
    && (every (λ row. ltb row.segment (length b.segments)) b.pages
    && (nat_le (length b.pages) 2048
    && (every (λ row. ltb row.segment (length b.segments)) b.blobs
    && (nat_le (length b.blobs) 256
    && (every (λ row. nat_lt row.segment (length b.segments) && is_lsn row.lsn) b.freeable
    && (every (is_place b.size (length b.segments)) b.listed
    && every (λ row. is_place b.size (length b.segments) row.offset) b.faults))))))))))))

-- the order of the tables, and the bounds
abbrev pub KeptWithin : Books → Type 0
KeptWithin b = Ordered b × Within b
