-- The library's tests of a list, in the word for rows.
use Rattle.std.proofs.Common.{◌≡◌, Bool, true, false, not, ◌&&◌, ◌||◌, List, [], ◌∷◌, refl, ap}
use Rattle.std.specs.List.{list_all, list_any}
use Rattle.table.specs.Rows.{every}

pub all_is_every : {X : Type 0} (p : X → Bool) (xs : List X) → list_all p xs ≡ every p xs
all_is_every p [] = refl
all_is_every p (x ∷ xs) = ap (λ b. p x && b) (all_is_every p xs)

or_not : (b r s : Bool) → r ≡ not s → (b || r) ≡ not (not b && s)
or_not true r s e = refl
or_not false r s e = e

pub any_is_not_every : {X : Type 0} (p : X → Bool) (xs : List X) → list_any p xs ≡ not (every (λ x. not (p x)) xs)
any_is_not_every p [] = refl
any_is_not_every p (x ∷ xs) = or_not (p x) (list_any p xs) (every (λ y. not (p y)) xs) (any_is_not_every p xs)
