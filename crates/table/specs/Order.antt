-- What a key's order is, and the orders of the keys. Assumes nothing.
use Rattle.std.specs.Prelude.{◌≡◌, ◌<◌, ◌<ℤ◌, refl}
use Rattle.std.specs.declared.cmp.Ordering.TheVariants.{Less, Equal, Greater}
use Rattle.std.specs.declared.cmp.Ordering.{Ordering}
use Rattle.std.proofs.Common.{ap, ◌∙◌, true≢false, subst}
use Rattle.std.specs.Cmp.{nat_cmp_total, int_cmp_total, ranks, int_ranks}
use Rattle.std.specs.Ordering.{MatchOrdering, ordering_reverse, ordering_then, is_lt, is_gt, nat_cmp as rank, int_cmp}

-- a total strict order: two keys that rank alike are one key
pub record Lawful {K : Type 0} (rank : K → K → Ordering) : Type 0 where
  pub flip : (x y : K) → rank x y ≡ ordering_reverse (rank y x)
  pub trans : (x y z : K) → rank x y ≡ Less → rank y z ≡ Less → rank x z ≡ Less
  pub same : (x y : K) → rank x y ≡ Equal → x ≡ y

pub unsigned_lawful : Lawful rank
unsigned_lawful = record {
  flip = nat_cmp_total.antisymm;
  trans = nat_cmp_total.trans;
  same = λ x y e. subst (λ k. MatchOrdering k (x < y) (x ≡ y) (y < x)) e (ranks x y);
}

pub signed_lawful : Lawful int_cmp
signed_lawful = record {
  flip = int_cmp_total.antisymm;
  trans = int_cmp_total.trans;
  same = λ x y e. subst (λ k. MatchOrdering k (x <ℤ y) (x ≡ y) (y <ℤ x)) e (int_ranks x y);
}

abbrev pub lexical : {A B : Type 0} → (A → A → Ordering) → (B → B → Ordering) → A × B → A × B → Ordering
lexical r s x y = ordering_then (r x.0 y.0) (s x.1 y.1)

then_flip : (a b : Ordering) → ordering_then (ordering_reverse a) (ordering_reverse b) ≡ ordering_reverse (ordering_then a b)
then_flip Less b = refl
then_flip Equal b = refl
then_flip Greater b = refl

module _ {A B : Type 0} {r : A → A → Ordering} {s : B → B → Ordering} (a : Lawful r) (b : Lawful s) where
  steps : (x y z : A × B) (k m : Ordering) → r x.0 y.0 ≡ k → r y.0 z.0 ≡ m → ordering_then k (s x.1 y.1) ≡ Less → ordering_then m (s y.1 z.1) ≡ Less → lexical r s x z ≡ Less
  steps x y z Less Less p q h g = rw (a.trans x.0 y.0 z.0 p q)
  steps x y z Less Equal p q h g = let e : r x.0 z.0 ≡ Less = rw (a.same y.0 z.0 q) at p in rw e
  steps x y z Less Greater p q h g = absurd (true≢false (ap is_gt g))
  steps x y z Equal Less p q h g = let e : r x.0 z.0 ≡ Less = rw (a.same x.0 y.0 p) q in rw e
  steps x y z Equal Equal p q h g =
      let e : r x.0 z.0 ≡ Equal = rw (a.same x.0 y.0 p) q in
      rw e (b.trans x.1 y.1 z.1 h g)
  steps x y z Equal Greater p q h g = absurd (true≢false (ap is_gt g))
  steps x y z Greater m p q h g = absurd (true≢false (ap is_gt h))

  one : (x y : A × B) (k : Ordering) → r x.0 y.0 ≡ k → ordering_then k (s x.1 y.1) ≡ Equal → x ≡ y
  one x y Less p h = absurd (true≢false (ap is_lt h))
  one x y Equal p h = λ i. (a.same x.0 y.0 p i, b.same x.1 y.1 h i)
  one x y Greater p h = absurd (true≢false (ap is_gt h))

  pub lexical_lawful : Lawful (lexical r s)
  lexical_lawful = record {
    flip = λ x y. (λ i. ordering_then (a.flip x.0 y.0 i) (b.flip x.1 y.1 i)) ∙ then_flip (r y.0 x.0) (s y.1 x.1);
    trans = λ x y z. steps x y z (r x.0 y.0) (r y.0 z.0) refl refl;
    same = λ x y. one x y (r x.0 y.0) refl;
  }
