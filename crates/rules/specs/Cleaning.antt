-- Cleaning a segment: it starts draining, and is held back or freed once none of its pages is left (docs/RULES.md, section 8).
use Rattle.std.specs.Prelude.{ℕ, ◌*◌, ◌/◌, Bool, true, false, cond, ℤ, Some, None, Option, ◌==◌, nat_le, slice_set}
use Rattle.table.specs.Rows.{find, insert_row, own_key}
use Rattle.host.specs.Meaning.{Answer}
use Rattle.host.specs.declared.request.Request.{Request}
use Rattle.segment.specs.Changes.{drained, emptied}
use Rattle.segment.specs.Rows.{ordering_key, freeable_key, by_signed}
use Rattle.segment.specs.declared.state.State.{State}
use Rattle.segment.specs.declared.state.State.TheVariants as is
use Rattle.segment.specs.declared.state.Inactive.{Inactive}
use Rattle.segment.specs.declared.state.Draining.{Draining}
use Rattle.segment.specs.declared.rows.OrderingRow.{OrderingRow}
use Rattle.rules.specs.Books.{Books, World, world, with_segments, with_pages, with_listed, with_freeable, state_of, offset_of, segment_of}
use Rattle.rules.specs.Pages.{all_queued}
use Rattle.rules.specs.Freeing.{freed}
use Rattle.std.specs.Ordering.{nat_cmp, int_cmp}

-- at most half of the segment is live
abbrev pub half_empty : ℕ → Inactive → Bool
half_empty size i = nat_le (i.rss * 100 / size) 50

-- segment n becomes Draining, its pages are queued and its offset is listed
abbrev pub start_draining : ℕ → Inactive → Books → Books
start_draining n i b =
    with_segments (slice_set b.segments n (is.Draining (drained i)))
    (with_pages (all_queued n b.pages)
    (with_listed (insert_row own_key nat_cmp b.listed (offset_of b n)) b))

abbrev pub drain_by : ℕ → State → Books → Books
drain_by n (is.Free f) b = b
drain_by n (is.Active a) b = b
drain_by n (is.Inactive i) b = cond (half_empty b.size i) (start_draining n i b) b
drain_by n (is.Draining d) b = b

abbrev pub drain_if_empty : ℕ → Books → Books
drain_if_empty n b = drain_by n (state_of b n) b

abbrev pub is_active : State → Bool
is_active (is.Free f) = false
is_active (is.Active a) = true
is_active (is.Inactive i) = false
is_active (is.Draining d) = false

abbrev pub active_at : Books → Option OrderingRow → Option ℕ
active_at b None = None
active_at b (Some row) = cond (is_active (state_of b (segment_of b row.offset))) (Some (segment_of b row.offset)) None

-- the Active segment that the ordering has under this LSN
abbrev pub holder : Books → ℤ → Option ℕ
holder b lsn = active_at b (find ordering_key int_cmp b.ordering lsn)

abbrev pub emptied_at : ℕ → Draining → Books → Books
emptied_at n d b = with_segments (slice_set b.segments n (is.Free (emptied d))) b

-- segment t holds back the segment with this LSN
abbrev pub held_by : ℕ → ℤ → Books → Books
held_by t lsn b = with_freeable (insert_row freeable_key by_signed b.freeable (record { segment = t; lsn = lsn })) b

module _ {M : Type 0} (respond : M → Request → Answer × M) where
  -- segment n becomes Free; it is held back by the Active segment of its latest replacement, or else freed
  abbrev pub settle : ℕ → Draining → World M → Option ℕ → World M
  settle n d w (Some t) = world (held_by t d.lsn (emptied_at n d w.books)) w.host
  settle n d w None = freed respond n (world (emptied_at n d w.books) w.host)

  abbrev pub free_by : ℕ → State → World M → World M
  free_by n (is.Free f) w = w
  free_by n (is.Active a) w = w
  free_by n (is.Inactive i) w = w
  free_by n (is.Draining d) w = cond (d.replaced_pids == d.max_pids) (settle n d w (holder w.books d.latest_replacement_lsn)) w

  abbrev pub free_if_left : ℕ → World M → World M
  free_if_left n w = free_by n (state_of w.books n) w

  -- segment n is cleaned
  unfoldable pub cleaned : ℕ → World M → World M
  cleaned n w = free_if_left n (world (drain_if_empty n w.books) w.host)
