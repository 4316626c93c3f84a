-- Lists by a test: the first element that passes is the first of those that pass, and parts of what passes pass.
use Rattle.std.proofs.Common.{◌≡◌, Bool, true, false, cond, List, [], ◌∷◌, ◌++◌, Some, filter, Option, refl}
use Rattle.std.specs.List.{find}
use Rattle.std.proofs.lemmas.Bool.{and_parts}
use Rattle.table.specs.Rows.{every, first_of}

first_by : {X : Type 0} (b : Bool) (x : X) (r : Option X) (xs : List X) → r ≡ first_of xs → cond b (Some x) r ≡ first_of (cond b (x ∷ xs) xs)
first_by true x r xs e = refl
first_by false x r xs e = e

pub find_is_first : {X : Type 0} (p : X → Bool) (xs : List X) → find p xs ≡ first_of (filter p xs)
find_is_first p [] = refl
find_is_first p (x ∷ xs) = first_by (p x) x (find p xs) (filter p xs) (find_is_first p xs)

-- where a test passes at each of two lists in a row, it does at each of either
pub every_parts : {X : Type 0} (p : X → Bool) (xs ys : List X) → every p (xs ++ ys) ≡ true → (every p xs ≡ true) × (every p ys ≡ true)
every_parts p [] ys h = (refl, h)
every_parts p (x ∷ xs) ys h =
    let hs = and_parts (p x) (every p (xs ++ ys)) h in
    let r = every_parts p xs ys hs.1 in
    (rw hs.0 r.0, r.1)
