-- The small steps that every call is made of. Whatever holds of blank books and is kept by each of them holds after every run.
use Rattle.std.proofs.Common.{◌≡◌, ℕ, suc, ◌*◌, ◌<◌, true, false, not, ◌&&◌, ltb, leb, List, [], ◌∷◌, length, ℤ, pos, nat_abs, Some, None, Ok, unwrap_or}
use lib.Signed.{lt_z}
use Rattle.std.specs.List.{ContainsAt as Has}
use Rattle.table.specs.Rows.{insert_row, remove_row, own_key}
use Rattle.host.specs.Meaning.{Answer}
use Rattle.segment.specs.Pointers.{blob_of}
use Rattle.segment.specs.Rows.{page_key, by_page, freeable_key, by_signed}
use Rattle.segment.specs.declared.cache_info.CacheInfo.{CacheInfo}
use Rattle.segment.specs.declared.rows.FreeableRow.{FreeableRow}
use Rattle.segment.specs.declared.rows.OrderingRow.{OrderingRow}
use Rattle.segment.specs.declared.rows.PageRow.{PageRow}
use Rattle.segment.specs.declared.snapshot.SnapshotRow.{SnapshotRow}
use Rattle.segment.specs.declared.state.Active.{Active}
use Rattle.segment.specs.declared.state.Draining.{Draining}
use Rattle.segment.specs.declared.state.Inactive.{Inactive}
use Rattle.segment.specs.declared.state.State.TheVariants as is
use Rattle.rules.specs.Books.{Books, with_pages, with_blobs, with_freeable, with_listed, with_faults, with_ordering, with_stabilized, state_of, segment_of}
use Rattle.rules.specs.Pages.{queue_of, queued_row}
use Rattle.rules.specs.Freeing.{put_free, can_cut, lowered}
use Rattle.rules.specs.Cleaning.{start_draining, holder, emptied_at, held_by}
use Rattle.rules.specs.Links.{out_of_range, info_segment, link_refusal, link_of, linked_at}
use Rattle.rules.specs.Replacing.{blob_rows_full, blobs_given_up, from_state, taken_at}
use Rattle.rules.specs.Stabilizing.{is_free, blobs_off, number_of_lsn, closed_at, level, is_settled}
use Rattle.rules.specs.HandingOut.{unaligned, in_use, handed_out, first_listed}
use Rattle.rules.specs.Starting.{Plan, plan_refusal, segment_count, blank, with_active, row_refusal, row_segment, row_size, opened_for, order_all}
use Rattle.orders.specs.Ordered.{Ordered}
use Rattle.std.specs.Ordering.{nat_cmp}

-- P is kept by each step of an accountant at work, with what is known where the step is taken
pub record Steps (P : Books → Type 0) : Type 0 where
  pub ordered : (b : Books) → P b → Ordered b
  pub cuts : (b : Books) (a : Answer) → can_cut b ≡ true → P b → P (lowered b a)
  pub drains : (n : ℕ) (i : Inactive) (b : Books) → state_of b n ≡ is.Inactive i → P b → P (start_draining n i b)
  pub holds : (n : ℕ) (d : Draining) (t : ℕ) (b : Books) → state_of b n ≡ is.Draining d → d.replaced_pids ≡ d.max_pids → holder b d.latest_replacement_lsn ≡ Some t → P b → P (held_by t d.lsn (emptied_at n d b))
  pub frees : (n : ℕ) (d : Draining) (b : Books) → state_of b n ≡ is.Draining d → d.replaced_pids ≡ d.max_pids → holder b d.latest_replacement_lsn ≡ None → P b → P (put_free n (emptied_at n d b))
  pub links : (p : ℕ) (info : CacheInfo) (b : Books) → out_of_range info.lsn ≡ false → link_refusal b p info ≡ None → P b → P (link_of p info b)
  pub gives : (olds : List CacheInfo) (new : CacheInfo) (a : Active) (b : Books) → state_of b (info_segment b new) ≡ is.Active a → blob_rows_full b (info_segment b new) (blob_of new.pointer) olds ≡ false → P b → P (blobs_given_up olds new b)
  pub takes : (n p : ℕ) (base : ℤ) (size : ℕ) (b : Books) → out_of_range base ≡ false → from_state b n p base size (state_of b n) ≡ None → P b → P (taken_at n p base size b)
  pub removes : (n : ℕ) (b : Books) → P b → P (with_blobs (blobs_off n b.blobs) b)
  pub releases : (row : FreeableRow) (b : Books) → Has b.freeable row → P b → P (put_free (number_of_lsn b row.lsn) (with_freeable (remove_row freeable_key by_signed b.freeable (row.segment, row.lsn)) b))
  pub closes : (n : ℕ) (a : Active) (b : Books) → state_of b n ≡ is.Active a → P b → P (closed_at n a b)
  pub stores : (lsn : ℤ) (b : Books) → (not (lt_z lsn (pos 0)) && out_of_range lsn) ≡ false → is_settled b lsn ≡ false → P b → P (with_stabilized (level b.size lsn) b)
  pub hands_least : (lsn : ℤ) (offset : ℕ) (rest : List ℕ) (b : Books) → out_of_range lsn ≡ false → unaligned b.size lsn ≡ false → in_use b lsn ≡ false → b.free ≡ offset ∷ rest → ltb (nat_abs lsn) offset ≡ false → P b → P (handed_out lsn offset b)
  pub hands_tip : (lsn : ℤ) (b : Books) → out_of_range lsn ≡ false → unaligned b.size lsn ≡ false → in_use b lsn ≡ false → b.free ≡ [] → b.faults ≡ [] → leb (256 * b.size) b.tip ≡ false → ltb (nat_abs lsn) b.tip ≡ false → P b → P (handed_out lsn b.tip b)
  pub forgets : (b : Books) → P b → P (with_faults [] b)
  pub unlists : (offset : ℕ) (b : Books) → first_listed b ≡ Some offset → P b → P (with_listed (remove_row own_key nat_cmp b.listed offset) b)
  pub pops : (offset : ℕ) (row : PageRow) (rows : List PageRow) (b : Books) → first_listed b ≡ Some offset → queue_of (segment_of b offset) b.pages ≡ row ∷ rows → P b → P (with_pages (insert_row page_key by_page b.pages (queued_row false row)) b)

-- A start: R is kept while rows are recovered and gives Q 0 once the ordering is made; Q n is kept while segments are freed, where those below n
-- have been looked at; it gives P in the end.
pub record Beginning (R : Books → Type 0) (Q : ℕ → Books → Type 0) (P : Books → Type 0) : Type 0 where
  pub begins : (s : Plan) (slot extent : ℕ) → plan_refusal s slot extent ≡ None → R (with_active s.active (unwrap_or s.stable (pos 0)) (blank s (segment_count s extent)))
  pub recovers : (header p : ℕ) (row : SnapshotRow) (b : Books) → out_of_range row.lsn ≡ false → row_refusal header p row b ≡ None → R b → R (linked_at (row_segment b row) p (row_size header row) (opened_for row b))
  pub orders : (rows : List OrderingRow) (b : Books) → order_all b.size 0 b.segments b.ordering ≡ Ok rows → R b → Q 0 (with_ordering rows b)
  pub cuts : (n : ℕ) (b : Books) (a : Answer) → can_cut b ≡ true → Q n b → Q n (lowered b a)
  pub frees : (n : ℕ) (b : Books) → n < length b.segments → is_free (state_of b n) ≡ true → Q n b → Q (suc n) (put_free n b)
  pub passes : (n : ℕ) (b : Books) → n < length b.segments → is_free (state_of b n) ≡ false → Q n b → Q (suc n) b
  pub ends : (b : Books) → b.faults ≡ [] → Q (length b.segments) b → P b
