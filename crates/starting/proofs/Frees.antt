-- The segments in turn: those that are left give what all of them give, and the books keep what a start keeps so far.
use Rattle.std.proofs.Common.{◌≡◌, ℕ, suc, ◌+◌, ◌*◌, ◌^◌, ◌<◌, ◌≤◌, true, List, length, get_or, drop, Ok, Err, sym, refl, ap, ◌∙◌, subst, add-one}
use Rattle.std.proofs.lemmas.List.{at_drop_more, at_drop_all}
use Rattle.host.specs.Meaning.{Answer}
use Rattle.host.specs.declared.request.HostFault.{HostFault}
use Rattle.host.specs.declared.request.Request.{Request}
use Rattle.segment.specs.declared.state.State.{State}
use Rattle.rules.specs.Books.{Books, World, unused, state_of}
use Rattle.rules.specs.Freeing.{put_free, freed}
use Rattle.rules.specs.Stabilizing.{is_free}
use Rattle.rules.specs.Starting.{free_state, then_free, free_all}
use Rattle.orders.specs.Within.{KeptWithin}
use Rattle.orders.proofs.Cleans.{freed_size}
use Rattle.orders.proofs.Starts.{IfPassed, recovered_keeps, At, state_keeps}
use Rattle.orders.proofs.ShareSteps.{share_beginning}
use Rattle.upkeep.proofs.Reached.{placed}
use Rattle.starting.specs.Starts.{Recovered}

module _ {M : Type 0} (respond : M → Request → Answer × M) where
  -- what a start keeps of the books, the segments below n having been looked at
  abbrev pub Kept : List State → ℕ → Books → Type 0
  Kept = At share_beginning respond

  pub recovered_kept : (b : Books) → Recovered b → Kept b.segments 0 b
  recovered_kept b r = (subst (IfPassed _) r.4 (recovered_keeps share_beginning r.0 r.1 r.2 r.3), refl)

  -- a Free segment may be freed
  pub freed_kept : (states : List State) (n : ℕ) (b : Books) → n < length states → Kept states n b → is_free (state_of b n) ≡ true → KeptWithin (put_free n b)
  freed_kept states n b l h e = (share_beginning.frees n b (subst (λ x. n < length x) (sym h.1) l) e h.0).0.0.0.within

  pub freed_fits : (n : ℕ) (w v : World M) → n < length w.books.segments → KeptWithin (put_free n w.books) → v ≡ freed respond n w → n * v.books.size < 2 ^ 64
  freed_fits n w v l h e = subst (λ k. n * k < 2 ^ 64) (sym (ap (λ x. x.books.size) e ∙ freed_size respond n w)) (placed n (put_free n w.books) h.1 l).fits

  module _ (states : List State) (n : ℕ) (w : World M) (all : Answer × World M) (inv : free_all respond n (drop n states) w ≡ all) where
    module _ (h : Kept states n w.books) (l : n < length states) where
      step : then_free respond (free_all respond (n + 1) (drop (n + 1) states)) (free_state respond n (state_of w.books n) w) ≡ all
      unfolding free_all
      step =
          let one : free_all respond n (drop n states) w ≡ then_free respond (free_all respond (suc n) (drop (n + 1) states)) (free_state respond n (get_or states n unused) w) = at_drop_more (λ rest. free_all respond n rest w) states n unused l in
          let two : then_free respond (free_all respond (n + 1) (drop (n + 1) states)) (free_state respond n (state_of w.books n) w) ≡ then_free respond (free_all respond (suc n) (drop (n + 1) states)) (free_state respond n (get_or states n unused) w) = λ i. then_free respond (free_all respond (add-one n i) (drop (n + 1) states)) (free_state respond n (get_or (h.1 i) n unused) w) in
          two ∙ (sym one ∙ inv)

      pub free_more : (v : World M) → ◌≡◌ {A = Answer × World M} (Ok tt, v) (free_state respond n (state_of w.books n) w) → free_all respond (n + 1) (drop (n + 1) states) v ≡ all
      free_more v e = ap (then_free respond (free_all respond (n + 1) (drop (n + 1) states))) e ∙ step

      pub free_stop : (f : HostFault) (v : World M) → ◌≡◌ {A = Answer × World M} (Err f, v) (free_state respond n (state_of w.books n) w) → ◌≡◌ {A = Answer × World M} (Err f, v) all
      free_stop f v e = ap (then_free respond (free_all respond (n + 1) (drop (n + 1) states))) e ∙ step

      pub still_kept : (a : Answer) (v : World M) → ◌≡◌ {A = Answer × World M} (a, v) (free_state respond n (state_of w.books n) w) → Kept states (n + 1) v.books
      still_kept a v e = subst (λ m. Kept states m v.books) (sym (add-one n)) (subst (λ (x : Answer × World M). Kept states (suc n) x.1.books) (sym e) (state_keeps share_beginning respond states n (state_of w.books n) w l refl h))

    pub free_end : length states ≤ n → ◌≡◌ {A = Answer × World M} (Ok tt, w) all
    unfolding free_all
    free_end l = sym (at_drop_all (λ rest. free_all respond n rest w) states n l) ∙ inv
