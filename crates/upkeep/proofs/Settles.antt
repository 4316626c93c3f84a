-- A Draining segment without pages is held back or freed: the rule by its cases, and the room for it.
use Rattle.std.proofs.Common.{◌≡◌, ℕ, ◌<◌, ◌≤◌, Bool, true, false, cond, eqb, length, ℤ, Some, None, Option, refl, ap, ◌∙◌, arith}
use Rattle.std.proofs.lemmas.Bool.{eqb-true, eq-eqb}
use Rattle.host.specs.Meaning.{Answer}
use Rattle.host.specs.declared.request.Request.{Request}
use Rattle.segment.specs.declared.state.Draining.{Draining}
use Rattle.segment.specs.declared.state.State.{State}
use Rattle.segment.specs.declared.state.State.TheVariants as is
use Rattle.rules.specs.Books.{Books, World, state_of}
use Rattle.rules.specs.Cleaning.{holder, emptied_at, held_by, settle, free_by, free_if_left}
use Rattle.rules.specs.Freeing.{put_free}
use Rattle.orders.specs.Share.{Shared}
use Rattle.orders.specs.Within.{KeptWithin}
use Rattle.orders.proofs.Replaces.{reached}
use Rattle.orders.proofs.Rooms.{have_room}
use Rattle.orders.proofs.ShareSteps.{share_steps}
use Rattle.upkeep.specs.Drains.{all_left}

pub record Emptied (s : State) (lsn : ℤ) : Type 0 where
  pub draining : Draining
  pub is_it : s ≡ is.Draining draining
  pub left : draining.replaced_pids ≡ draining.max_pids
  pub latest : draining.latest_replacement_lsn ≡ lsn

pub emptied_of : (s : State) (lsn : ℤ) → all_left s ≡ Some lsn → Emptied s lsn
emptied_of (is.Free f) lsn e = let z : ◌≡◌ {A = ℕ} 0 1 = cc in absurd (omega arith)
emptied_of (is.Active a) lsn e = let z : ◌≡◌ {A = ℕ} 0 1 = cc in absurd (omega arith)
emptied_of (is.Inactive i) lsn e = let z : ◌≡◌ {A = ℕ} 0 1 = cc in absurd (omega arith)
emptied_of (is.Draining d) lsn e = on (eqb d.replaced_pids d.max_pids) refl e
  where
    on : (t : Bool) → eqb d.replaced_pids d.max_pids ≡ t → cond t (Some d.latest_replacement_lsn) None ≡ Some lsn → Emptied (is.Draining d) lsn
    on true q f = let same : d.latest_replacement_lsn ≡ lsn = cc in record { draining = d; is_it = refl; left = eqb-true _ _ q; latest = same }
    on false q f = let z : ◌≡◌ {A = ℕ} 0 1 = cc in absurd (omega arith)

-- none whose pages have all left: nothing happens
pub stays : {M : Type 0} (respond : M → Request → Answer × M) (n : ℕ) (s : State) (w : World M) → all_left s ≡ None → free_by respond n s w ≡ w
stays respond n (is.Free f) w e = refl
stays respond n (is.Active a) w e = refl
stays respond n (is.Inactive i) w e = refl
stays respond n (is.Draining d) w e = on (eqb d.replaced_pids d.max_pids) e
  where
    on : (t : Bool) → cond t (Some d.latest_replacement_lsn) None ≡ None → cond t (settle respond n d w (holder w.books d.latest_replacement_lsn)) w ≡ w
    on true f = let z : ◌≡◌ {A = ℕ} 0 1 = cc in absurd (omega arith)
    on false f = refl

module _ {M : Type 0} (respond : M → Request → Answer × M) (n : ℕ) (w : World M) (lsn : ℤ) (o : Option ℕ) (x : Emptied (state_of w.books n) lsn) (h : holder w.books lsn ≡ o) where
  pub settled : free_if_left respond n w ≡ settle respond n x.draining w o
  settled =
      ap (λ s. free_by respond n s w) x.is_it
      ∙ (ap (λ t. cond t (settle respond n x.draining w (holder w.books x.draining.latest_replacement_lsn)) w) (eq-eqb _ _ x.left)
      ∙ ap (settle respond n x.draining w) (ap (holder w.books) x.latest ∙ h))

module _ (n : ℕ) (b : Books) (lsn : ℤ) (x : Emptied (state_of b n) lsn) (s : Shared b) where
  pub emptied_reached : n < length b.segments
  emptied_reached = reached b.segments n (is.Draining x.draining) x.is_it (λ q. let z : ◌≡◌ {A = ℕ} 0 1 = cc in omega arith)

  -- there is room for one that is held back
  pub held_room : (t : ℕ) → holder b lsn ≡ Some t → length (held_by t x.draining.lsn (emptied_at n x.draining b)).freeable ≤ 256
  held_room t h =
      let k = have_room _ (share_steps.holds n x.draining t b x.is_it x.left (ap (holder b) x.latest ∙ h) s).whole in
      let k1 = k.freeable in
      let k2 = k.ordering in
      let k3 = k.reached in
      omega arith

  -- one that is freed leaves the books as they have to be
  pub freed_kept : holder b lsn ≡ None → KeptWithin (put_free n (emptied_at n x.draining b))
  freed_kept h = (share_steps.frees n x.draining b x.is_it x.left (ap (holder b) x.latest ∙ h) s).whole.counting.within
