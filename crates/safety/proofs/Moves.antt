-- What one step may do to states and holders: a reflexive and transitive relation, so that folds compose.
use Rattle.std.proofs.Common.{◌≡◌, ℕ, Bool, true, false, List, Some, None, Option, sym, refl, ap, ◌∙◌, subst, arith}
use Rattle.std.proofs.lemmas.Bool.{eq-eqb}
use Rattle.rules.specs.Recount.{upd}
use Rattle.safety.proofs.Plain.{Seg, Free, seg_is_free, active, greatest}
use Rattle.safety.proofs.Views.{Holders}

pub record Moved (noted : ℕ → List ℕ) (s : ℕ → Seg) (h : Holders) (z : ℕ → Seg) (g : Holders) : Type 0 where
  pub stays_free : (n : ℕ) → seg_is_free (s n) ≡ true → seg_is_free (z n) ≡ true
  pub was_active : (t x : ℕ) → active (z t) ≡ Some x → active (s t) ≡ Some x
  pub was_held : (n t : ℕ) → seg_is_free (s n) ≡ true → g n ≡ Some t → h n ≡ Some t
  pub stays_held : (n t x : ℕ) → seg_is_free (s n) ≡ true → h n ≡ Some t → active (z t) ≡ Some x → g n ≡ Some t
  pub new_held : (n t : ℕ) → seg_is_free (s n) ≡ false → seg_is_free (z n) ≡ true → active (z t) ≡ Some (greatest (noted n)) → g n ≡ Some t

module _ (noted : ℕ → List ℕ) where
  pub moved_refl : (s : ℕ → Seg) (h : Holders) → Moved noted s h s h
  moved_refl s h = record {
    stays_free = λ n e. e;
    was_active = λ t x e. e;
    was_held = λ n t e f. f;
    stays_held = λ n t x e f a. f;
    new_held = λ n t e f a. absurd (let z : ◌≡◌ {A = ℕ} 0 1 = cc in omega arith);
  }

  pub moved_trans : (s : ℕ → Seg) (h : Holders) (z : ℕ → Seg) (g : Holders) (y : ℕ → Seg) (f : Holders) → Moved noted s h z g → Moved noted z g y f → Moved noted s h y f
  moved_trans s h z g y f p q = record {
    stays_free = λ n e. q.stays_free n (p.stays_free n e);
    was_active = λ t x e. p.was_active t x (q.was_active t x e);
    was_held = λ n t e k. p.was_held n t e (q.was_held n t (p.stays_free n e) k);
    stays_held = λ n t x e k a. q.stays_held n t x (p.stays_free n e) (p.stays_held n t x e k (q.was_active t x a)) a;
    new_held = λ n t e k a. on n t e k a (seg_is_free (z n)) refl;
  }
    where
      on : (n t : ℕ) → seg_is_free (s n) ≡ false → seg_is_free (y n) ≡ true → active (y t) ≡ Some (greatest (noted n)) → (b : Bool) → seg_is_free (z n) ≡ b → f n ≡ Some t
      on n t e k a true b = q.stays_held n t (greatest (noted n)) b (p.new_held n t e b (q.was_active t (greatest (noted n)) a)) a
      on n t e k a false b = q.new_held n t b k a

  -- a state changes and stays what it was to the holders
  pub moved_same : (s : ℕ → Seg) (h : Holders) (n : ℕ) (z : Seg) → seg_is_free (s n) ≡ false → seg_is_free z ≡ false → active z ≡ active (s n) → Moved noted s h (upd s n z) h
  moved_same s h n z sf zf za = record {
    stays_free = λ m e. grind arith;
    was_active = λ t x e. grind arith;
    was_held = λ m t e f. f;
    stays_held = λ m t x e f a. f;
    new_held = λ m t e f a. absurd (let d : ◌≡◌ {A = ℕ} 0 1 = grind arith in omega arith);
  }

  pub moved_free : (s : ℕ → Seg) (h : Holders) (n : ℕ) (o : Option ℕ) → seg_is_free (s n) ≡ false → ((t : ℕ) → active (s t) ≡ Some (greatest (noted n)) → ⊥) → Moved noted s h (upd s n (Free o)) h
  moved_free s h n o sf none = record {
    stays_free = λ m e. grind arith;
    was_active = λ t x e. grind arith;
    was_held = λ m t e f. f;
    stays_held = λ m t x e f a. f;
    new_held = λ m t e f a. let b : _ = none t in grind arith;
  }

  pub moved_hold : (s : ℕ → Seg) (h : Holders) (n t : ℕ) (o : Option ℕ) → seg_is_free (s n) ≡ false → ((u : ℕ) → active (s u) ≡ Some (greatest (noted n)) → u ≡ t) → Moved noted s h (upd s n (Free o)) (upd h n (Some t))
  moved_hold s h n t o sf one = record {
    stays_free = λ m e. grind arith;
    was_active = λ u x e. grind arith;
    was_held = λ m u e f. grind arith;
    stays_held = λ m u x e f a. grind arith;
    new_held = λ m u e f a. let b : _ = one u in grind arith;
  }

  -- t is Active no longer, and holds nothing back after that
  pub moved_close : (s : ℕ → Seg) (h g : Holders) (t : ℕ) (z : Seg) → seg_is_free (s t) ≡ false → seg_is_free z ≡ false → active z ≡ None → ((n u : ℕ) → g n ≡ Some u → h n ≡ Some u) → ((n u : ℕ) → (u ≡ t → ⊥) → h n ≡ Some u → g n ≡ Some u) → Moved noted s h (upd s t z) g
  moved_close s h g t z sf zf za less more = record {
    stays_free = λ m e. grind arith;
    was_active = λ u x e. grind arith;
    was_held = λ m u e f. less m u f;
    stays_held = λ m u x e f a. more m u (λ q. let b : active (upd s t z u) ≡ None = subst (λ c. active (upd s t z c) ≡ None) (sym q) (gone t) in let d : ◌≡◌ {A = ℕ} 0 1 = cc in omega arith) f;
    new_held = λ m u e f a. absurd (let d : ◌≡◌ {A = ℕ} 0 1 = grind arith in omega arith);
  }
    where
      gone : (c : ℕ) → active (upd s c z c) ≡ None
      gone c = rw (eq-eqb c c refl) za

-- the bases noted for what does not become Free do not matter
pub moved_renote : (noted more : ℕ → List ℕ) (s : ℕ → Seg) (h : Holders) (z : ℕ → Seg) (g : Holders) → ((n : ℕ) → seg_is_free (s n) ≡ false → seg_is_free (z n) ≡ true → more n ≡ noted n) → Moved noted s h z g → Moved more s h z g
moved_renote noted more s h z g eq m = record {
  stays_free = m.stays_free;
  was_active = m.was_active;
  was_held = m.was_held;
  stays_held = m.stays_held;
  new_held = λ n t e f a. m.new_held n t e f (a ∙ ap (λ (w : List ℕ). Some (greatest w)) (eq n e f));
}
