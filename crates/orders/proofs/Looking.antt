-- The look-ups as functions, and what each kind of step does to them.
use Rattle.std.proofs.Common.{◌≡◌, ℕ, suc, ◌<◌, ◌≤◌, Bool, true, false, ◌⊎◌, ℤ, Some, None, Option, Ordering, Less, Equal, Greater, sym, refl, ap, ◌∙◌, subst, inl, inr, true≢false, arith}
use Rattle.std.specs.Ordering.{is_lt, is_gt, int_cmp}
use Rattle.std.proofs.lemmas.Bool.{cases_eq}
use Rattle.table.specs.Order.{signed_lawful}
use Rattle.table.proofs.Orders.{rank_same}
use Rattle.segment.specs.declared.state.State.{State}
use Rattle.rules.specs.Stabilizing.{is_free}
use Rattle.orders.specs.Looks.{label, Looking}

pub cases_lsn : (x y : ℤ) → (x ≡ y) ⊎ (x ≡ y → ⊥)
cases_lsn x y = on (int_cmp x y) refl
  where
    on : (o : Ordering) → int_cmp x y ≡ o → (x ≡ y) ⊎ (x ≡ y → ⊥)
    on Less e = inr (λ q. true≢false (ap is_lt (sym e ∙ rank_same signed_lawful x y q)))
    on Equal e = inl (signed_lawful.same x y e)
    on Greater e = inr (λ q. true≢false (ap is_gt (sym e ∙ rank_same signed_lawful x y q)))

same_some : {X : Type 0} (x y : X) (o : Option X) → o ≡ Some x → o ≡ Some y → x ≡ y
same_some x y o p q = cc

module _ {state : ℕ → State} {place : ℤ → Option ℕ} {holds : ℕ → ℤ → Bool} {free : ℕ → Bool} {below : ℕ} (h : Looking state place holds free below) where
  -- states change, but neither an LSN nor that a segment is Free
  pub restated : (new : ℕ → State) → ((n : ℕ) → label (new n) ≡ label (state n)) → ((n : ℕ) → is_free (state n) ≡ true → is_free (new n) ≡ true) → Looking new place holds free below
  restated new same grows = record {
    named = λ lsn n e. same n ∙ h.named lsn n e;
    low = h.low;
    entered = λ n lsn f e. h.entered n lsn (shrinks n (is_free (state n)) refl f) (sym (same n) ∙ e);
    held = λ t lsn e. let x = h.held t lsn e in (x.0, x.1, grows x.0 x.2);
    once = h.once;
    idle = λ n e. grows n (h.idle n e);
    within = h.within;
    apart = h.apart;
    past = λ n l. grows n (h.past n l);
  }
    where
      shrinks : (n : ℕ) (t : Bool) → is_free (state n) ≡ t → is_free (new n) ≡ false → is_free (state n) ≡ false
      shrinks n true e f = absurd (true≢false (sym (grows n e) ∙ f))
      shrinks n false e f = e

  -- segment t holds back n as well, which is Free, in the ordering, and held back by nobody
  pub holding : (t n : ℕ) (lsn : ℤ) (more : ℕ → ℤ → Bool) → place lsn ≡ Some n → is_free (state n) ≡ true → ((u : ℕ) → holds u lsn ≡ true → ⊥) → ((u : ℕ) (l : ℤ) → more u l ≡ true → ((u ≡ t) × (l ≡ lsn)) ⊎ (holds u l ≡ true)) → Looking state place more free below
  holding t n lsn more p f none from = record {
    named = h.named;
    low = h.low;
    entered = h.entered;
    held = λ u l e. is_held u l (from u l e);
    once = λ u v l e g. is_once u v l (from u l e) (from v l g);
    idle = h.idle;
    within = h.within;
    apart = h.apart;
    past = h.past;
  }
    where
      is_held : (u : ℕ) (l : ℤ) → ((u ≡ t) × (l ≡ lsn)) ⊎ (holds u l ≡ true) → (m : ℕ) × (place l ≡ Some m) × (is_free (state m) ≡ true)
      is_held u l (inl q) = (n, ap place q.1 ∙ p, f)
      is_held u l (inr q) = h.held u l q

      is_once : (u v : ℕ) (l : ℤ) → ((u ≡ t) × (l ≡ lsn)) ⊎ (holds u l ≡ true) → ((v ≡ t) × (l ≡ lsn)) ⊎ (holds v l ≡ true) → u ≡ v
      is_once u v l (inl q) (inl r) = q.0 ∙ sym r.0
      is_once u v l (inl q) (inr r) = absurd (none v (subst (λ x. holds v x ≡ true) q.1 r))
      is_once u v l (inr q) (inl r) = absurd (none u (subst (λ x. holds u x ≡ true) r.1 q))
      is_once u v l (inr q) (inr r) = h.once u v l q r

  -- fewer are held back
  pub releasing : (fewer : ℕ → ℤ → Bool) → ((u : ℕ) (l : ℤ) → fewer u l ≡ true → holds u l ≡ true) → Looking state place fewer free below
  releasing fewer from = record {
    named = h.named;
    low = h.low;
    entered = h.entered;
    held = λ u l e. h.held u l (from u l e);
    once = λ u v l e g. h.once u v l (from u l e) (from v l g);
    idle = h.idle;
    within = h.within;
    apart = h.apart;
    past = h.past;
  }

  -- segment n joins the free list and leaves the ordering; it is Free, below the tip, and nobody holds it back
  pub freeing : (n : ℕ) (left : ℤ → Option ℕ) (more : ℕ → Bool) → is_free (state n) ≡ true → n < below → ((l : ℤ) (m : ℕ) → left l ≡ Some m → (place l ≡ Some m) × (m ≡ n → ⊥)) → ((l : ℤ) (m : ℕ) → place l ≡ Some m → (m ≡ n → ⊥) → left l ≡ Some m) → ((u : ℕ) (l : ℤ) → holds u l ≡ true → place l ≡ Some n → ⊥) → ((m : ℕ) → more m ≡ true → (m ≡ n) ⊎ (free m ≡ true)) → Looking state left holds more below
  freeing n left more f l from into none joins = record {
    named = λ lsn m e. h.named lsn m (from lsn m e).0;
    low = λ lsn m e. h.low lsn m (from lsn m e).0;
    entered = λ m lsn g e. into lsn m (h.entered m lsn g e) (λ q. true≢false (sym f ∙ (sym (ap (λ x. is_free (state x)) q) ∙ g)));
    held = λ u lsn e. let x = h.held u lsn e in (x.0, into lsn x.0 x.1 (λ q. none u lsn e (x.1 ∙ ap Some q)), x.2);
    once = h.once;
    idle = λ m e. is_idle m (joins m e);
    within = λ m e. is_within m (joins m e);
    apart = λ m lsn e g. is_apart m lsn (joins m e) (from lsn m g);
    past = h.past;
  }
    where
      is_idle : (m : ℕ) → (m ≡ n) ⊎ (free m ≡ true) → is_free (state m) ≡ true
      is_idle m (inl q) = ap (λ x. is_free (state x)) q ∙ f
      is_idle m (inr q) = h.idle m q

      is_within : (m : ℕ) → (m ≡ n) ⊎ (free m ≡ true) → m < below
      is_within m (inl q) = omega arith
      is_within m (inr q) = h.within m q

      is_apart : (m : ℕ) (lsn : ℤ) → (m ≡ n) ⊎ (free m ≡ true) → (place lsn ≡ Some m) × (m ≡ n → ⊥) → ⊥
      is_apart m lsn (inl q) g = g.1 q
      is_apart m lsn (inr q) g = h.apart m lsn q g.0

  -- the last segment below the tip leaves the free list, and the tip is lowered
  pub cutting : (last : ℕ) (fewer : ℕ → Bool) → suc last ≡ below → free last ≡ true → ((m : ℕ) → fewer m ≡ true → (free m ≡ true) × (m ≡ last → ⊥)) → Looking state place holds fewer last
  cutting last fewer e f from = record {
    named = h.named;
    low = λ lsn m g. less m (h.low lsn m g) (λ q. h.apart last lsn f (g ∙ ap Some q));
    entered = h.entered;
    held = h.held;
    once = h.once;
    idle = λ m g. h.idle m (from m g).0;
    within = λ m g. less m (h.within m (from m g).0) (from m g).1;
    apart = λ m lsn g. h.apart m lsn (from m g).0;
    past = λ m l. on m l (cases_eq m last);
  }
    where
      less : (m : ℕ) → m < below → (m ≡ last → ⊥) → m < last
      less m l q = on (cases_eq m last)
        where
          on : (m ≡ last) ⊎ (m ≡ last → ⊥) → m < last
          on (inl r) = absurd (q r)
          on (inr r) = omega arith

      on : (m : ℕ) → last ≤ m → (m ≡ last) ⊎ (m ≡ last → ⊥) → is_free (state m) ≡ true
      on m l (inl q) = ap (λ x. is_free (state x)) q ∙ h.idle last f
      on m l (inr q) = h.past m (omega arith)

  -- segment n, which is Free and not in the ordering, gets a new LSN
  pub handing : (n : ℕ) (lsn : ℤ) (new : ℕ → State) (more : ℤ → Option ℕ) (fewer : ℕ → Bool) (tip : ℕ) → ((l : ℤ) → place l ≡ Some n → ⊥) → place lsn ≡ None → is_free (new n) ≡ false → label (new n) ≡ Some lsn → ((m : ℕ) → (m ≡ n → ⊥) → new m ≡ state m) → more lsn ≡ Some n → ((l : ℤ) → (l ≡ lsn → ⊥) → more l ≡ place l) → ((m : ℕ) → fewer m ≡ true → (free m ≡ true) × (m ≡ n → ⊥)) → n < tip → below ≤ tip → Looking new more holds fewer tip
  handing n lsn new more fewer tip alone unused busy mine others here elsewhere from l wide = record {
    named = λ x m e. is_named x m e (cases_lsn x lsn);
    low = λ x m e. is_low x m e (cases_lsn x lsn);
    entered = λ m x f e. is_entered m x f e (cases_eq m n);
    held = λ u x e. let y = h.held u x e in let z = differs y.0 x y.1 in (y.0, elsewhere x (known y.0 x y.1) ∙ y.1, ap is_free (others y.0 z) ∙ y.2);
    once = h.once;
    idle = λ m e. let x = from m e in ap is_free (others m x.1) ∙ h.idle m x.0;
    within = λ m e. let x = h.within m (from m e).0 in omega arith;
    apart = λ m x e g. is_apart m x e g (cases_lsn x lsn);
    past = λ m k. let q : m ≡ n → ⊥ = λ r. omega arith in ap is_free (others m q) ∙ h.past m (omega arith);
  }
    where
      differs : (m : ℕ) (x : ℤ) → place x ≡ Some m → m ≡ n → ⊥
      differs m x e q = alone x (e ∙ ap Some q)

      known : (m : ℕ) (x : ℤ) → place x ≡ Some m → x ≡ lsn → ⊥
      known m x e q = let z : ◌≡◌ {A = ℕ} 0 1 = cc (ap place q) in omega arith

      is_named : (x : ℤ) (m : ℕ) → more x ≡ Some m → (x ≡ lsn) ⊎ (x ≡ lsn → ⊥) → label (new m) ≡ Some x
      is_named x m e (inl q) = let r : n ≡ m = same_some n m (more x) (ap more q ∙ here) e in ap (λ y. label (new y)) (sym r) ∙ (mine ∙ ap Some (sym q))
      is_named x m e (inr q) = let p : place x ≡ Some m = sym (elsewhere x q) ∙ e in ap label (others m (differs m x p)) ∙ h.named x m p

      is_low : (x : ℤ) (m : ℕ) → more x ≡ Some m → (x ≡ lsn) ⊎ (x ≡ lsn → ⊥) → m < tip
      is_low x m e (inl q) = let r : n ≡ m = same_some n m (more x) (ap more q ∙ here) e in omega arith
      is_low x m e (inr q) = let p = h.low x m (sym (elsewhere x q) ∙ e) in omega arith

      is_entered : (m : ℕ) (x : ℤ) → is_free (new m) ≡ false → label (new m) ≡ Some x → (m ≡ n) ⊎ (m ≡ n → ⊥) → more x ≡ Some m
      is_entered m x f e (inl q) =
          let r : lsn ≡ x = same_some lsn x (label (new n)) mine (ap (λ y. label (new y)) (sym q) ∙ e) in
          ap more (sym r) ∙ (here ∙ ap Some (sym q))
      is_entered m x f e (inr q) =
          let p : place x ≡ Some m = h.entered m x (sym (ap is_free (others m q)) ∙ f) (sym (ap label (others m q)) ∙ e) in
          elsewhere x (known m x p) ∙ p

      is_apart : (m : ℕ) (x : ℤ) → fewer m ≡ true → more x ≡ Some m → (x ≡ lsn) ⊎ (x ≡ lsn → ⊥) → ⊥
      is_apart m x e g (inl q) = (from m e).1 (same_some m n (more x) g (ap more q ∙ here))
      is_apart m x e g (inr q) = h.apart m x (from m e).0 (sym (elsewhere x q) ∙ g)
