-- Freeing with its cuts, and cleaning, are made of steps.
use Rattle.std.proofs.Common.{◌≡◌, ℕ, zero, suc, ◌-◌, Bool, true, false, cond, eqb, length, Some, None, Option, refl}
use Rattle.std.proofs.lemmas.Bool.{eqb-true}
use Rattle.host.specs.Meaning.{Answer, asked_cut}
use Rattle.host.specs.declared.request.Request.{Request}
use Rattle.segment.specs.declared.state.State.{State}
use Rattle.segment.specs.declared.state.State.TheVariants as is
use Rattle.rules.specs.Books.{Books, World, world, state_of}
use Rattle.rules.specs.Freeing.{put_free, can_cut, lowered, cut_once, cut_tail, freed}
use Rattle.rules.specs.Cleaning.{half_empty, start_draining, drain_by, drain_if_empty, holder, settle, emptied_at, free_by, free_if_left, cleaned}
use Rattle.orders.proofs.Steps.{Steps}

module _ {M : Type 0} (respond : M → Request → Answer × M) where
  -- what cuts keep, as many as there are
  pub cut_tail_keeps : (P : Books → Type 0) → ((b : Books) (a : Answer) → can_cut b ≡ true → P b → P (lowered b a)) → (n : ℕ) (w : World M) → P w.books → P (cut_tail respond n w).books
  unfolding cut_tail
  cut_tail_keeps P k zero w h = h
  cut_tail_keeps P k (suc n) w h = on (can_cut w.books) refl (cut_tail_keeps P k n (cut_once respond w))
    where
      on : (t : Bool) → can_cut w.books ≡ t → (P (cut_once respond w).books → P (cut_tail respond n (cut_once respond w)).books) → P (cond t (cut_tail respond n (cut_once respond w)) w).books
      on true e ih = ih (k w.books (respond w.host (asked_cut (w.books.tip - w.books.size))).0 e h)
      on false e ih = h

  -- freeing changes no state and no segment size
  pub freed_segments : (n : ℕ) (w : World M) → (freed respond n w).books.segments ≡ w.books.segments
  freed_segments n w = cut_tail_keeps (λ c. c.segments ≡ w.books.segments) (λ b a e h. h) (length (put_free n w.books).free) (world (put_free n w.books) w.host) refl

  pub freed_size : (n : ℕ) (w : World M) → (freed respond n w).books.size ≡ w.books.size
  freed_size n w = cut_tail_keeps (λ c. c.size ≡ w.books.size) (λ b a e h. h) (length (put_free n w.books).free) (world (put_free n w.books) w.host) refl

  pub freed_freeable : (n : ℕ) (w : World M) → (freed respond n w).books.freeable ≡ w.books.freeable
  freed_freeable n w = cut_tail_keeps (λ c. c.freeable ≡ w.books.freeable) (λ b a e h. h) (length (put_free n w.books).free) (world (put_free n w.books) w.host) refl

  pub freed_pages : (n : ℕ) (w : World M) → (freed respond n w).books.pages ≡ (put_free n w.books).pages
  freed_pages n w = cut_tail_keeps (λ c. c.pages ≡ (put_free n w.books).pages) (λ b a e h. h) (length (put_free n w.books).free) (world (put_free n w.books) w.host) refl

  module _ {P : Books → Type 0} (k : Steps P) where
    pub freed_keeps : (n : ℕ) (w : World M) → P (put_free n w.books) → P (freed respond n w).books
    freed_keeps n w h = cut_tail_keeps P k.cuts (length (put_free n w.books).free) (world (put_free n w.books) w.host) h

    pub drain_keeps : (n : ℕ) (b : Books) → P b → P (drain_if_empty n b)
    drain_keeps n b h = on (state_of b n) refl
      where
        on : (s : State) → state_of b n ≡ s → P (drain_by n s b)
        on (is.Free f) e = h
        on (is.Active a) e = h
        on (is.Inactive i) e = half (half_empty b.size i)
          where
            half : (t : Bool) → P (cond t (start_draining n i b) b)
            half true = k.drains n i b e h
            half false = h
        on (is.Draining d) e = h

    pub free_keeps : (n : ℕ) (w : World M) → P w.books → P (free_if_left respond n w).books
    free_keeps n w h = on (state_of w.books n) refl
      where
        on : (s : State) → state_of w.books n ≡ s → P (free_by respond n s w).books
        on (is.Free f) e = h
        on (is.Active a) e = h
        on (is.Inactive i) e = h
        on (is.Draining d) e = full (eqb d.replaced_pids d.max_pids) refl
          where
            settled : d.replaced_pids ≡ d.max_pids → (o : Option ℕ) → holder w.books d.latest_replacement_lsn ≡ o → P (settle respond n d w o).books
            settled f (Some t) g = k.holds n d t w.books e f g h
            settled f None g = freed_keeps n (world (emptied_at n d w.books) w.host) (k.frees n d w.books e f g h)

            full : (t : Bool) → eqb d.replaced_pids d.max_pids ≡ t → P (cond t (settle respond n d w (holder w.books d.latest_replacement_lsn)) w).books
            full true f = settled (eqb-true _ _ f) (holder w.books d.latest_replacement_lsn) refl
            full false f = h

    pub cleaned_keeps : (n : ℕ) (w : World M) → P w.books → P (cleaned respond n w).books
    unfolding cleaned
    cleaned_keeps n w h = free_keeps n (world (drain_if_empty n w.books) w.host) (drain_keeps n w.books h)
