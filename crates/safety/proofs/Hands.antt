-- Next on sound books: what is handed out was Free and held back by nothing, and the books stay sound.
use Rattle.std.proofs.Common.{◌≡◌, ℕ, ◌*◌, ◌/◌, ◌<◌, ◌≤◌, Bool, true, false, cond, not, ◌&&◌, eqb, ltb, ◌⊎◌, List, [], ◌∷◌, length, ℤ, pos, is_some, Some, None, Option, sym, refl, ap, ◌∙◌, subst, inl, inr, arith}
use lib.Signed.{non_neg}
use Rattle.std.proofs.lemmas.Bool.{cases_eq, eq-eqb, ne_eqb, eqb-true, and_parts, true≢false, ltb-true}
use Rattle.table.specs.Order.{unsigned_lawful}
use Rattle.table.specs.Rows.{every, find, own_key}
use Rattle.table.proofs.Laws.{find_first}
use Rattle.segment.specs.Changes.{opened}
use Rattle.segment.specs.Rows.{ordering_key}
use Rattle.segment.specs.declared.rows.OrderingRow.{OrderingRow}
use Rattle.segment.specs.declared.state.State.{State}
use Rattle.segment.specs.declared.state.State.TheVariants as is
use Rattle.rules.specs.Books.{Books, state_of}
use Rattle.rules.specs.HandingOut.{in_use, handed_out}
use Rattle.rules.specs.Recount.{Recount, upd}
use Rattle.rules.specs.Recount as real
use Rattle.rules.specs.Safety.{holds_after}
use Rattle.safety.proofs.Plain.{Seg, seg_is_free, active, is_none, mapped, greatest, Count, counted, seen, told_next}
use Rattle.safety.proofs.Views.{Holders, Inv}
use Rattle.safety.proofs.Looks.{seg_of, on_of, ord_of, number_in}
use Rattle.safety.proofs.Steps.{view_of, Plus, Whole, even}
use Rattle.safety.proofs.Frames.{Weighs}
use Rattle.safety.proofs.Nexts.{seg_entered, entered_other, entered_all, handed_as, hand_tip, hand_first}
use Rattle.safety.proofs.Told.{counted_next}
use Rattle.safety.proofs.Accepts.{calm, Sound}
use Rattle.safety.proofs.Holding.{is_at, words, next_link}
use Rattle.safety.proofs.Calls.{Kept}
use Rattle.std.specs.Ordering.{nat_cmp, int_cmp}

-- segment n may be handed out
pub record Offered (b : Books) (h : Holders) (n : ℕ) : Type 0 where
  pub free : seg_is_free (seg_of b.segments n) ≡ true
  pub unheld : is_none (h n) ≡ true
  pub low : n ≤ length b.segments

pub offer_tip : (b : Books) (r : Recount) (h : Holders) → Sound b r h → Offered b h (b.tip / b.size)
offer_tip b r h s = record { free = s.inv.past (b.tip / b.size) (omega arith); unheld = s.inv.past_held (b.tip / b.size) (omega arith); low = s.whole.room }

pub offer_first : (b : Books) (r : Recount) (h : Holders) (x : ℕ) (xs : List ℕ) → Sound b r h → b.free ≡ x ∷ xs → Offered b h (x / b.size)
offer_first b r h x xs s e =
    let n : ℕ = x / b.size in
    let w : Whole b = s.whole in
    let fe : _ = and_parts (even b.size x) (every (even b.size) xs) (subst (λ f. every (even b.size) f ≡ true) e w.free_even) in
    let ex : x ≡ n * b.size = eqb-true x (n * b.size) fe.0 in
    let on : on_of b.size b.free n ≡ true = ap (λ f. on_of b.size f n) e ∙ ap (λ o. is_some (find own_key nat_cmp (x ∷ xs) o)) (sym ex) ∙ ap is_some (find_first own_key unsigned_lawful x xs) in
    let p : _ = and_parts (ltb n (b.tip / b.size)) (seg_is_free (seg_of b.segments n) && (is_none (h n) && true)) (sym (s.inv.exact n) ∙ on) in
    let q : _ = and_parts (seg_is_free (seg_of b.segments n)) (is_none (h n) && true) p.1 in
    let low : n < b.tip / b.size = ltb-true n (b.tip / b.size) p.0 in
    record { free = q.0; unheld = (and_parts (is_none (h n)) true q.1).0; low = omega (arith, w.room) }

free_open : (s : State) (a : Rattle.segment.specs.declared.state.Active.Active) → seg_is_free (seen s) ≡ true → s ≡ is.Active a → ⊥
free_open s a e f = true≢false (sym e ∙ ap (λ z. seg_is_free (seen z)) f)

free_weighs : (live : ℤ) (s : State) → seg_is_free (seen s) ≡ true → Weighs live s
free_weighs live (is.Free f) e = tt
free_weighs live (is.Active a) e = absurd (true≢false (sym e))
free_weighs live (is.Inactive i) e = absurd (true≢false (sym e))
free_weighs live (is.Draining d) e = absurd (true≢false (sym e))

module _ (b : Books) (r : Recount) (h : Holders) (l o : ℕ) (free : List ℕ) (s : Sound b r h) (of : Offered b h (o / b.size))
    (good : Whole (handed_as (pos l) o b free) × Inv (view_of (calm (λ z. false)) (handed_as (pos l) o b free)) (told_next (counted r) l (o / b.size)) h) where
  handed_at : Sound (handed_as (pos l) o b free) (real.told_next (o / b.size) (pos l) r) h
  handed_at =
      let n : ℕ = o / b.size in
      let z : State = is.Active (opened (pos l)) in
      record {
        whole = good.0;
        inv = subst (λ c. Inv (view_of (calm (λ y. false)) (handed_as (pos l) o b free)) c h) (sym (counted_next n l r)) good.1;
        size = s.size;
        stored = s.stored;
        lsn_signs = λ m. plus m (eqb m n);
        noted_signs = λ m. signs m (eqb m n);
        bytes = entered_all b.segments n z of.low (λ m x. Weighs (upd r.live n (pos 0) m) x) (rw (eq-eqb n n refl) (omega arith, refl)) (λ m. weighs m (cases_eq m n));
        blobs = λ row hr.
            let old : _ = s.blobs row hr in
            (old.0, entered_other b.segments n z of.low row.segment (λ e. free_open (state_of b row.segment) old.0 (ap (λ k. seg_is_free (seg_of b.segments k)) e ∙ of.free) old.1) ∙ old.1, old.2);
      }
    where
      plus : (m : ℕ) (t : Bool) → Plus (cond t (pos l) (r.lsn m))
      plus m true = refl
      plus m false = s.lsn_signs m

      signs : (m : ℕ) (t : Bool) → every non_neg (cond t [] (r.noted m)) ≡ true
      signs m true = refl
      signs m false = s.noted_signs m

      weighs : (m : ℕ) → (m ≡ o / b.size) ⊎ (m ≡ o / b.size → ⊥) → Weighs (upd r.live (o / b.size) (pos 0) m) (state_of b m)
      weighs m (inl e) = free_weighs (upd r.live (o / b.size) (pos 0) m) (state_of b m) (ap (λ k. seg_is_free (seg_of b.segments k)) e ∙ of.free)
      weighs m (inr e) = rw (ne_eqb m (o / b.size) e) (s.bytes m)

  pub handed_kept : (holds : ℕ → ℕ → Bool) → ((n t : ℕ) → holds n t ≡ is_at (h n) t) → Kept (handed_as (pos l) o b free) (real.told_next (o / r.size) (pos l) r) (holds_after (Some b) (Some (handed_as (pos l) o b free)) (real.told_next (o / r.size) (pos l) r).noted holds)
  handed_kept holds link = subst (λ n. Kept (handed_as (pos l) o b free) (real.told_next n (pos l) r) (holds_after (Some b) (Some (handed_as (pos l) o b free)) (real.told_next n (pos l) r).noted holds)) (ap (λ k. o / k) (sym s.size))
      (record {
        now = h;
        sound = handed_at;
        linked = λ m t. words b (handed_as (pos l) o b free) (real.told_next (o / b.size) (pos l) r).noted holds handed_at.noted_signs good.0.signs m t
            ∙ both m t (seg_entered b.segments (o / b.size) (is.Active (opened (pos l))) of.low) (ap (λ (c : Count). c.noted) (counted_next (o / b.size) l r))
            ∙ next_link (seg_of b.segments) h (o / b.size) l (counted r).noted holds of.free of.unheld s.inv.held_free s.inv.held_by link m t;
      })
    where
      both : (m t : ℕ) {x y : ℕ → Seg} {c d : ℕ → List ℕ} → x ≡ y → c ≡ d → (seg_is_free (x m) && cond (seg_is_free (seg_of b.segments m)) (holds m t && not (is_none (active (x t)))) (is_at (active (x t)) (greatest (c m)))) ≡ (seg_is_free (y m) && cond (seg_is_free (seg_of b.segments m)) (holds m t && not (is_none (active (y t)))) (is_at (active (y t)) (greatest (d m))))
      both m t e f = λ i. seg_is_free (e i m) && cond (seg_is_free (seg_of b.segments m)) (holds m t && not (is_none (active (e i t)))) (is_at (active (e i t)) (greatest (f i m)))

unused_lsn : (b : Books) (l : ℕ) → in_use b (pos l) ≡ false → ord_of b.size b.ordering l ≡ None
unused_lsn b l e = on (find ordering_key int_cmp b.ordering (pos l)) e
  where
    on : (o : Option OrderingRow) → is_some o ≡ false → mapped (number_in b.size) o ≡ None
    on None e = refl
    on (Some x) e = absurd (true≢false e)

pub hand_tip_kept : (b : Books) (r : Recount) (holds : ℕ → ℕ → Bool) (l : ℕ) → Kept b r holds → in_use b (pos l) ≡ false → b.free ≡ [] → Kept (handed_out (pos l) b.tip b) (real.told_next (b.tip / r.size) (pos l) r) (holds_after (Some b) (Some (handed_out (pos l) b.tip b)) (real.told_next (b.tip / r.size) (pos l) r).noted holds)
hand_tip_kept b r holds l k new e =
    subst (λ f. Kept (handed_as (pos l) b.tip b f) (real.told_next (b.tip / r.size) (pos l) r) (holds_after (Some b) (Some (handed_as (pos l) b.tip b f)) (real.told_next (b.tip / r.size) (pos l) r).noted holds)) (sym e)
    (handed_kept b r k.now l b.tip [] k.sound (offer_tip b r k.now k.sound) (hand_tip (calm (λ z. false)) b (counted r) k.now l k.sound.whole k.sound.inv (unused_lsn b l new) e) holds k.linked)

pub hand_first_kept : (b : Books) (r : Recount) (holds : ℕ → ℕ → Bool) (l x : ℕ) (xs : List ℕ) → Kept b r holds → in_use b (pos l) ≡ false → b.free ≡ x ∷ xs → Kept (handed_out (pos l) x b) (real.told_next (x / r.size) (pos l) r) (holds_after (Some b) (Some (handed_out (pos l) x b)) (real.told_next (x / r.size) (pos l) r).noted holds)
hand_first_kept b r holds l x xs k new e =
    subst (λ f. Kept (handed_as (pos l) x b f) (real.told_next (x / r.size) (pos l) r) (holds_after (Some b) (Some (handed_as (pos l) x b f)) (real.told_next (x / r.size) (pos l) r).noted holds)) (sym e)
    (handed_kept b r k.now l x (x ∷ xs) k.sound (offer_first b r k.now x xs k.sound e) (hand_first (calm (λ z. false)) b (counted r) k.now l k.sound.whole k.sound.inv (unused_lsn b l new) x xs e) holds k.linked)
