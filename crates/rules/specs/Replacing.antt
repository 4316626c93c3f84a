-- Replace (docs/RULES.md, section 7): its checks, and what it does.
use Rattle.std.specs.Prelude.{ℕ, ◌+◌, ◌-◌, Bool, false, cond, not, List, [], ◌∷◌, length, ℤ, Some, None, Option, int_lt, nat_lt, slice_set}
use Rattle.table.specs.Rows.{every, insert_row}
use Rattle.host.specs.Meaning.{Answer}
use Rattle.host.specs.declared.request.Request.{Request}
use Rattle.segment.specs.Bases.{base_of}
use Rattle.segment.specs.Pointers.{blob_of}
use Rattle.segment.specs.Rows.{blob_key, by_signed}
use Rattle.segment.specs.Signs.{same_z}
use Rattle.segment.specs.Updates.{taken, leaves}
use Rattle.segment.specs.declared.cache_info.CacheInfo.{CacheInfo}
use Rattle.segment.specs.declared.rows.BlobRow.{BlobRow}
use Rattle.segment.specs.declared.state.State.{State}
use Rattle.segment.specs.declared.state.State.TheVariants as is
use Rattle.rules.specs.declared.refusal.Refusal.{Refusal}
use Rattle.rules.specs.declared.refusal.Refusal.TheVariants as no
use Rattle.rules.specs.Books.{Books, World, world, with_segments, with_pages, with_blobs, state_of}
use Rattle.rules.specs.Pages.{page_row, is_lying, marked}
use Rattle.rules.specs.Cleaning.{cleaned}
use Rattle.rules.specs.Links.{first_refusal, or_else, too_large, info_segment, link_refusal, link_of}

-- ---- blobs that are given up
abbrev pub same_blob : Option ℤ → ℤ → Bool
same_blob None blob = false
same_blob (Some kept) blob = same_z kept blob

abbrev pub blob_row : ℕ → ℤ → BlobRow
blob_row n blob = record { segment = n; blob = blob }

-- the blob rows of segment n with that of an old blob, unless it is the one kept
abbrev pub with_blob : ℕ → Option ℤ → Option ℤ → List BlobRow → List BlobRow
with_blob n kept None rows = rows
with_blob n kept (Some blob) rows = cond (same_blob kept blob) rows (insert_row blob_key by_signed rows (blob_row n blob))

abbrev pub given_up : ℕ → Option ℤ → List CacheInfo → List BlobRow → List BlobRow
given_up n kept [] rows = rows
given_up n kept (old ∷ olds) rows = given_up n kept olds (with_blob n kept (blob_of old.pointer) rows)

-- ---- old sizes, summed by segment, ascending
abbrev pub add_size : ℕ → ℕ → List (ℕ × ℕ) → List (ℕ × ℕ)
add_size n size [] = (n, size) ∷ []
add_size n size (sum ∷ sums) = cond (nat_lt sum.0 n) (sum ∷ add_size n size sums) (cond (nat_lt n sum.0) ((n, size) ∷ (sum ∷ sums)) ((n, sum.1 + size) ∷ sums))

abbrev pub sums_onto : Books → List CacheInfo → List (ℕ × ℕ) → List (ℕ × ℕ)
sums_onto b [] sums = sums
sums_onto b (old ∷ olds) sums = sums_onto b olds (add_size (info_segment b old) old.log_size sums)

abbrev pub sums_of : Books → List CacheInfo → List (ℕ × ℕ)
sums_of b olds = sums_onto b olds []

-- ---- the checks
-- what a replacement with this base is refused for in an old segment: no segment, base too low, page absent, more than live
abbrev pub from_closed : Books → ℕ → ℕ → ℤ → ℤ → Bool → Option Refusal
from_closed b n p base lsn more = first_refusal ((int_lt base lsn, no.BaseTooLow) ∷ (not (is_lying (page_row b.pages n p)), no.PageAbsent) ∷ (more, no.MoreThanLive) ∷ [])

abbrev pub from_state : Books → ℕ → ℕ → ℤ → ℕ → State → Option Refusal
from_state b n p base size (is.Free f) = Some no.NoSegment
from_state b n p base size (is.Active a) = from_closed b n p base a.lsn (nat_lt (a.rss - a.deferred_replaced_rss) size)
from_state b n p base size (is.Inactive i) = from_closed b n p base i.lsn (nat_lt i.rss size)
from_state b n p base size (is.Draining d) = from_closed b n p base d.lsn false

abbrev pub olds_refusal : Books → ℕ → ℤ → List (ℕ × ℕ) → Option Refusal
olds_refusal b p base [] = None
olds_refusal b p base (sum ∷ sums) = or_else (from_state b sum.0 p base sum.1 (state_of b sum.0)) (olds_refusal b p base sums)

-- there would be more than 256 blob rows
abbrev pub blob_rows_full : Books → ℕ → Option ℤ → List CacheInfo → Bool
blob_rows_full b n kept olds = nat_lt 256 (length (given_up n kept olds b.blobs))

-- what a replacement is refused for, from its two LSNs on
abbrev pub replace_refusal : Books → ℕ → ℤ → List CacheInfo → CacheInfo → Option Refusal
replace_refusal b p lsn olds new =
    or_else (first_refusal ((not (same_z lsn new.lsn), no.LsnsDiffer) ∷ (nat_lt 256 (length olds), no.TooManyOld) ∷ (not (every (λ old. not (too_large old.log_size)) olds), no.TooLarge) ∷ []))
    (or_else (link_refusal b p new)
    (or_else (olds_refusal (link_of p new b) p (base_of b.size lsn) (sums_of b olds))
    (first_refusal ((blob_rows_full b (info_segment b new) (blob_of new.pointer) olds, no.BlobRowsFull) ∷ []))))

-- ---- what is done
-- page p, with size bytes, is replaced in segment n
abbrev pub taken_at : ℕ → ℕ → ℤ → ℕ → Books → Books
taken_at n p base size b =
    with_segments (slice_set b.segments n (taken base size (state_of b n)))
    (with_pages (cond (leaves base (state_of b n)) (marked b.pages (page_row b.pages n p)) b.pages) b)

-- every old blob but the new info's is to be removed once the new info's segment is deactivated
abbrev pub blobs_given_up : List CacheInfo → CacheInfo → Books → Books
blobs_given_up olds new b = with_blobs (given_up (info_segment b new) (blob_of new.pointer) olds b.blobs) b

module _ {M : Type 0} (respond : M → Request → Answer × M) where
  -- each old segment in turn: taken away from, then cleaned
  unfoldable pub visited : ℕ → ℤ → List (ℕ × ℕ) → World M → World M
  visited p base [] w = w
  visited p base (sum ∷ sums) w = visited p base sums (cleaned respond sum.0 (world (taken_at sum.0 p base sum.1 w.books) w.host))

  -- linked, old blobs given up, old segments visited
  abbrev pub replaced : ℕ → ℤ → List CacheInfo → CacheInfo → World M → World M
  replaced p lsn olds new w = visited p (base_of w.books.size lsn) (sums_of w.books olds) (world (blobs_given_up olds new (link_of p new w.books)) w.host)
