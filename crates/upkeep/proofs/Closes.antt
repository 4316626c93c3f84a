-- Deactivating: what the books keep on the way, and the rule by its cases.
use Rattle.std.proofs.Common.{◌≡◌, ℕ, ◌<◌, true, false, List, length, get_or, ℤ, Ok, sym, refl, ap, ◌∙◌, subst, true≢false}
use Rattle.table.proofs.Filters.{ascending_kept, has_from_kept}
use Rattle.host.specs.Meaning.{Answer}
use Rattle.host.specs.declared.request.Request.{Request}
use Rattle.segment.specs.Rows.{freeable_key}
use Rattle.segment.specs.declared.rows.BlobRow.{BlobRow}
use Rattle.segment.specs.declared.state.Active.{Active}
use Rattle.segment.specs.declared.state.State.{State}
use Rattle.segment.specs.declared.state.State.TheVariants as is
use Rattle.rules.specs.Books.{Books, World, world, with_blobs, unused, state_of}
use Rattle.rules.specs.Cleaning.{is_active}
use Rattle.rules.specs.Stabilizing.{blobs_off, held_back_by, release_all, closed_at, opened_up, deactivate_state, number_of_lsn, blobs_of, remove_blobs, deactivated_by, deactivated}
use Rattle.orders.specs.Share.{Shared}
use Rattle.orders.proofs.Replaces.{active_reached}
use Rattle.orders.proofs.ShareSteps.{share_steps}
use Rattle.orders.proofs.Stabilizes.{signed_laws, released_segments, release_all_keeps}

pub active_of : (s : State) → is_active s ≡ true → (a : Active) × (s ≡ is.Active a)
active_of (is.Free f) h = absurd (true≢false (sym h))
active_of (is.Active a) h = (a, refl)
active_of (is.Inactive i) h = absurd (true≢false (sym h))
active_of (is.Draining d) h = absurd (true≢false (sym h))

-- a segment that was Active when what it holds back was released
pub record Opened {M : Type 0} (respond : M → Request → Answer × M) (n : ℕ) (b : Books) (m : M) (w : World M) (a : Active) : Type 0 where
  pub after : w ≡ opened_up respond n b m
  pub reached : n < length w.books.segments
  pub active : state_of w.books n ≡ is.Active a
  pub closed : Shared (closed_at n a w.books)

module _ {M : Type 0} (respond : M → Request → Answer × M) where
  pub idle : (n : ℕ) (s : State) (w : World M) → is_active s ≡ false → deactivate_state respond n s w ≡ (Ok tt, w)
  idle n (is.Free f) w h = refl
  idle n (is.Active a) w h = absurd (true≢false h)
  idle n (is.Inactive i) w h = refl
  idle n (is.Draining d) w h = refl

  pub opens : (n : ℕ) (b d : Books) (m : M) (w : World M) (a : Active) → state_of b n ≡ is.Active a → Shared b → d ≡ with_blobs (blobs_off n b.blobs) b → w ≡ release_all respond (held_back_by n d.freeable) (world d m) → Opened respond n b m w a
  opens n b d m w a e s dropped released =
      let opened : w ≡ opened_up respond n b m = released ∙ ap (λ d. release_all respond (held_back_by n d.freeable) (world d m)) dropped in
      let segments = ap (λ x. x.books.segments) opened ∙ released_segments respond (held_back_by n b.freeable) (world (with_blobs (blobs_off n b.blobs) b) m) in
      let active : state_of w.books n ≡ is.Active a = ap (λ l. get_or l n unused) segments ∙ e in
      let kept =
      release_all_keeps respond share_steps (held_back_by n b.freeable) (world (with_blobs (blobs_off n b.blobs) b) m)
      (ascending_kept freeable_key signed_laws _ b.freeable s.whole.counting.within.0.freeable) (λ row h. (has_from_kept _ b.freeable row h).0) (share_steps.removes n b s) in
      record { after = opened; reached = active_reached w.books n a active; active = active; closed = share_steps.closes n a w.books active (subst (λ x. Shared x.books) (sym opened) kept) }

  -- what the removals gave decides; rows, z and q are what the calls had and answered
  pub deactivated_at : (lsn z : ℤ) (k : ℕ) (w : World M) (a : Active) (rows : List BlobRow) (q r : Answer) (m : M) → k ≡ number_of_lsn w.books z → z ≡ lsn → state_of w.books k ≡ is.Active a → rows ≡ blobs_of k w.books.blobs → (q, m) ≡ remove_blobs respond rows w.host → q ≡ r → deactivated_by respond k a w.books (r, m) ≡ deactivated respond lsn w
  unfolding deactivated
  deactivated_at lsn z k w a rows q r m en ez es eb er eq =
      let e : remove_blobs respond (blobs_of k w.books.blobs) w.host ≡ (r, m) = ap (λ l. remove_blobs respond l w.host) (sym eb) ∙ (sym er ∙ ap (λ r. (r, m)) eq) in
      sym (ap (λ s. deactivate_state respond k s w) es ∙ ap (deactivated_by respond k a w.books) e) ∙ ap (λ k. deactivate_state respond k (state_of w.books k) w) (en ∙ ap (number_of_lsn w.books) ez)
