-- What a start leaves: the books where it is accepted, and none where it is refused.
use Rattle.std.specs.Prelude.{◌≡◌, ℕ, List, [], ◌∷◌, Some, None, Ok, Err, Option, Result}
use Rattle.rules.specs.declared.refusal.Refusal.{Refusal}
use Rattle.rules.specs.Books.{Books}
use Rattle.rules.specs.Starting.{Plan, plan_refusal, recovered}

-- the books that a start recovers, before any segment is freed
abbrev pub Recovered : Books → Type 0
Recovered b = (s : Plan) × (slot : ℕ) × (extent : ℕ) × (plan_refusal s slot extent ≡ None) × (recovered s extent ≡ Ok b)

-- a refused start keeps no books
abbrev pub books_kept : Result (Unit {0}) Refusal → Books → Option Books
books_kept (Ok u) b = Some b
books_kept (Err refusal) b = None

-- the answer, the books and the host after it
abbrev pub ended : {M : Type 0} → Result (Unit {0}) Refusal → Books → M → Result (Unit {0}) Refusal × Option Books × M
ended r b m = (r, books_kept r b, m)
