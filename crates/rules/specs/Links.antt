-- Link (docs/RULES.md, section 6): its checks, and what it adds.
use Rattle.std.specs.Prelude.{ℕ, ◌+◌, ◌^◌, Bool, true, cond, not, ◌&&◌, ◌||◌, List, [], ◌∷◌, length, ℤ, pos, is_some, Some, None, Option, int_le, int_lt, nat_le, nat_lt, slice_set}
use Rattle.segment.specs.Bases.{base_of}
use Rattle.segment.specs.Pointers.{lid_of}
use Rattle.segment.specs.Signs.{same_z}
use Rattle.segment.specs.Updates.{linked}
use Rattle.segment.specs.declared.cache_info.CacheInfo.{CacheInfo}
use Rattle.segment.specs.declared.state.State.{State}
use Rattle.segment.specs.declared.state.State.TheVariants as is
use Rattle.segment.specs.declared.state.Active.{Active}
use Rattle.rules.specs.declared.refusal.Refusal.{Refusal}
use Rattle.rules.specs.declared.refusal.Refusal.TheVariants as no
use Rattle.rules.specs.Books.{Books, with_segments, with_pages, state_of, segment_of}
use Rattle.rules.specs.Pages.{page_row, is_left, written}

-- the first check that fails
abbrev pub first_refusal : List (Bool × Refusal) → Option Refusal
first_refusal [] = None
first_refusal (check ∷ checks) = cond check.0 (Some check.1) (first_refusal checks)

-- the checks that follow come only where these pass
abbrev pub or_else : Option Refusal → Option Refusal → Option Refusal
or_else None later = later
or_else (Some refusal) later = Some refusal

-- an LSN below 0 or above 2^62 − 1
abbrev pub out_of_range : ℤ → Bool
out_of_range lsn = int_lt lsn (pos 0) || int_le (pos (2 ^ 62)) lsn

abbrev pub too_large : ℕ → Bool
too_large size = nat_lt 4294967295 size

-- there would be more than 2,048 page rows
abbrev pub page_rows_full : Books → ℕ → ℕ → Bool
page_rows_full b n p = not (is_some (page_row b.pages n p)) && nat_le 2048 (length b.pages)

-- what a link into an Active segment is refused for
abbrev pub into_active : Books → ℕ → ℕ → ℕ → ℤ → Active → Option Refusal
into_active b n p size base a =
    first_refusal (
    (not (same_z a.lsn base), no.OtherBase)
    ∷ (is_left (page_row b.pages n p), no.PageLeft)
    ∷ (nat_lt (2 ^ 40) (a.rss + size), no.TooLarge)
    ∷ (page_rows_full b n p, no.PageRowsFull)
    ∷ []
    )

-- one that is Inactive or Draining is refused for its LSN first
abbrev pub into_closed : ℤ → ℤ → Option Refusal
into_closed lsn base = first_refusal ((not (same_z lsn base), no.OtherBase) ∷ (true, no.NotActive) ∷ [])

abbrev pub into_state : Books → ℕ → ℕ → ℕ → ℤ → State → Option Refusal
into_state b n p size base (is.Free f) = Some no.NoSegment
into_state b n p size base (is.Active a) = into_active b n p size base a
into_state b n p size base (is.Inactive i) = into_closed i.lsn base
into_state b n p size base (is.Draining d) = into_closed d.lsn base

abbrev pub info_segment : Books → CacheInfo → ℕ
info_segment b info = segment_of b (lid_of info.pointer)

-- what a link of page p is refused for, from the size on
abbrev pub link_refusal : Books → ℕ → CacheInfo → Option Refusal
link_refusal b p info =
    or_else (first_refusal ((too_large info.log_size, no.TooLarge) ∷ []))
    (into_state b (info_segment b info) p info.log_size (base_of b.size info.lsn) (state_of b (info_segment b info)))

abbrev pub linked_state : ℕ → State → State
linked_state size (is.Free f) = is.Free f
linked_state size (is.Active a) = is.Active (linked size a)
linked_state size (is.Inactive i) = is.Inactive i
linked_state size (is.Draining d) = is.Draining d

-- size bytes of page p are written into segment n
abbrev pub linked_at : ℕ → ℕ → ℕ → Books → Books
linked_at n p size b =
    with_segments (slice_set b.segments n (linked_state size (state_of b n)))
    (with_pages (written n p b.pages (page_row b.pages n p)) b)

abbrev pub link_of : ℕ → CacheInfo → Books → Books
link_of p info b = linked_at (info_segment b info) p info.log_size b
