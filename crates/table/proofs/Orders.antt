-- What a lawful order gives. Assumes nothing.
use Rattle.std.proofs.Common.{◌≡◌, ℕ, zero, suc, ◌<◌, Bool, true, false, List, [], ◌∷◌, length, get_or, Ordering, Less, Equal, Greater, sym, refl, ap, ◌∙◌, true≢false, arith}
use Rattle.std.specs.Ordering.{is_lt, is_eq, ordering_reverse}
use Rattle.std.specs.List.{ContainsAt as Has}
use Rattle.std.proofs.lemmas.Bool.{and_parts, and_from}
use Rattle.table.specs.Order.{Lawful}
use Rattle.table.specs.Rows.{every}

pub less_from : (o : Ordering) → is_lt o ≡ true → o ≡ Less
less_from Less h = refl
less_from Equal h = absurd (true≢false (sym h))
less_from Greater h = absurd (true≢false (sym h))

pub equal_from : (o : Ordering) → is_eq o ≡ true → o ≡ Equal
equal_from Less h = absurd (true≢false (sym h))
equal_from Equal h = refl
equal_from Greater h = absurd (true≢false (sym h))

pub greater_from : (o : Ordering) → is_eq o ≡ false → is_lt o ≡ false → o ≡ Greater
greater_from Less e l = absurd (true≢false l)
greater_from Equal e l = absurd (true≢false e)
greater_from Greater e l = refl

pub every_at : {X : Type 0} (p : X → Bool) (xs : List X) (i : ℕ) (d : X) → every p xs ≡ true → i < length xs → p (get_or xs i d) ≡ true
every_at p [] i d h l = absurd (omega arith)
every_at p (x ∷ xs) zero d h l = (and_parts (p x) (every p xs) h).0
every_at p (x ∷ xs) (suc i) d h l = every_at p xs i d (and_parts (p x) (every p xs) h).1 (omega arith)

pub every_has : {X : Type 0} (p : X → Bool) (xs : List X) (x : X) → every p xs ≡ true → Has xs x → p x ≡ true
every_has p xs x h m = ap p (sym (m.2 x)) ∙ every_at p xs m.0 x h m.1

pub every_from_has : {X : Type 0} (p : X → Bool) (xs : List X) → ((x : X) → Has xs x → p x ≡ true) → every p xs ≡ true
every_from_has p [] h = refl
every_from_has p (x ∷ xs) h = and_from (p x) (every p xs) (h x (0, omega arith, λ d. refl)) (every_from_has p xs (λ y m. h y (suc m.0, omega arith, m.2)))

module _ {K : Type 0} {rank : K → K → Ordering} (laws : Lawful rank) where
  self_equal : (o : Ordering) → o ≡ ordering_reverse o → o ≡ Equal
  self_equal Less e = absurd (true≢false (ap is_lt e))
  self_equal Equal e = refl
  self_equal Greater e = absurd (true≢false (sym (ap is_lt e)))

  pub rank_refl : (x : K) → rank x x ≡ Equal
  rank_refl x = self_equal (rank x x) (laws.flip x x)

  pub rank_same : (x y : K) → x ≡ y → rank x y ≡ Equal
  rank_same x y e = ap (λ z. rank x z) (sym e) ∙ rank_refl x

  pub less_greater : (x y : K) → rank x y ≡ Less → rank y x ≡ Greater
  less_greater x y e = laws.flip y x ∙ ap ordering_reverse e

  pub greater_less : (x y : K) → rank x y ≡ Greater → rank y x ≡ Less
  greater_less x y e = laws.flip y x ∙ ap ordering_reverse e

  pub less_equal : (x y z : K) → rank x y ≡ Less → rank y z ≡ Equal → rank x z ≡ Less
  less_equal x y z p q = rw (laws.same y z q) at p
