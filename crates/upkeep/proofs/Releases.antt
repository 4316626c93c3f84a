-- Releasing takes one row after the other: the rows that are left are those that were behind it.
use Rattle.std.proofs.Common.{◌≡◌, ℕ, ◌<◌, List, ◌∷◌, length, is_some, Some, None, sym, ap, ◌∙◌, subst, arith}
use Rattle.std.specs.List.{ContainsAt as Has}
use Rattle.table.specs.Rows.{first_of, remove_row}
use Rattle.table.proofs.Ends.{first_has as has_first}
use Rattle.table.proofs.Filters.{has_from_kept}
use Rattle.table.proofs.Laws.{has_find}
use Rattle.host.specs.Meaning.{Answer}
use Rattle.host.specs.declared.request.Request.{Request}
use Rattle.segment.specs.Rows.{freeable_key, by_signed}
use Rattle.segment.specs.declared.rows.FreeableRow.{FreeableRow}
use Rattle.rules.specs.Books.{Books, World, with_freeable}
use Rattle.rules.specs.Freeing.{put_free}
use Rattle.rules.specs.Stabilizing.{held_back_by, number_of_lsn, release, release_all}
use Rattle.orders.specs.Share.{Shared}
use Rattle.orders.specs.Within.{KeptWithin}
use Rattle.orders.proofs.Cleans.{freed_freeable, freed_keeps}
use Rattle.orders.proofs.Every.{end_parts}
use Rattle.orders.proofs.LookSteps.{number_at_is}
use Rattle.orders.proofs.ShareSteps.{share_steps}
use Rattle.orders.proofs.Stabilizes.{signed_laws}
use Rattle.closing.proofs.Releasing.{first_split, first_none, released_rest}

module _ (row : FreeableRow) (b : Books) (m : Has b.freeable row) (s : Shared b) where
  -- what is held back is reached
  pub released_reached : number_of_lsn b row.lsn < length b.segments
  released_reached =
      let c = s.whole.counting in
      let x = c.looks.held row.segment row.lsn (ap is_some (has_find freeable_key signed_laws b.freeable row c.within.0.freeable m)) in
      let low = c.looks.low row.lsn x.0 x.1 in
      let t = (end_parts b.size (length b.segments) b.tip c.within.1.tip).1 in
      subst (λ n. n < length b.segments) (sym (number_at_is b row.lsn x.0 x.1)) (omega arith)

  pub released_kept : KeptWithin (put_free (number_of_lsn b row.lsn) (with_freeable (remove_row freeable_key by_signed b.freeable (row.segment, row.lsn)) b))
  released_kept = (share_steps.releases row b m s).whole.counting.within

-- the first row is one of the table
pub first_has : (n : ℕ) (rows : List FreeableRow) (row : FreeableRow) → first_of (held_back_by n rows) ≡ Some row → Has rows row
first_has n rows row e = (has_from_kept _ rows row (has_first (held_back_by n rows) row e)).0

module _ {M : Type 0} (respond : M → Request → Answer × M) (n : ℕ) (w : World M) where
  pub release_keeps : (row : FreeableRow) → Has w.books.freeable row → Shared w.books → Shared (release respond row w).books
  release_keeps row m s = freed_keeps respond share_steps (number_of_lsn w.books row.lsn) _ (share_steps.releases row w.books m s)

  module _ (row : FreeableRow) (e : first_of (held_back_by n w.books.freeable) ≡ Some row) (s : Shared w.books) where
    split : held_back_by n w.books.freeable ≡ row ∷ (first_split (held_back_by n w.books.freeable) row e).0
    split = (first_split (held_back_by n w.books.freeable) row e).1

    left : held_back_by n (release respond row w).books.freeable ≡ (first_split (held_back_by n w.books.freeable) row e).0
    left = ap (held_back_by n) (freed_freeable respond (number_of_lsn w.books row.lsn) _) ∙ released_rest n w.books.freeable row (first_split (held_back_by n w.books.freeable) row e).0 s.whole.counting.within.0.freeable split

    pub release_step : release_all respond (held_back_by n (release respond row w).books.freeable) (release respond row w) ≡ release_all respond (held_back_by n w.books.freeable) w
    unfolding release_all
    release_step = ap (λ l. release_all respond l (release respond row w)) left ∙ sym (ap (λ l. release_all respond l w) split)

    pub release_fewer : length (held_back_by n (release respond row w).books.freeable) < length (held_back_by n w.books.freeable)
    release_fewer = let a = ap length left in let b = ap length split in omega arith

  pub release_end : first_of (held_back_by n w.books.freeable) ≡ None → release_all respond (held_back_by n w.books.freeable) w ≡ w
  unfolding release_all
  release_end e = ap (λ l. release_all respond l w) (first_none (held_back_by n w.books.freeable) e)
