-- Rows in a list: their order, the row of a key, and the list with a row put in or taken out. Assumes nothing.
use Rattle.std.specs.Prelude.{ℕ, suc, Bool, true, cond, not, ◌&&◌, List, [], ◌∷◌, ◌++◌, length, take, drop, is_some, Some, None, Ok, Err, Option, Result, ◌==◌}
use Rattle.std.specs.declared.cmp.Ordering.TheVariants.{Less, Equal, Greater}
use Rattle.std.specs.declared.cmp.Ordering.{Ordering}
use Rattle.std.specs.Ordering.{is_lt}
use Rattle.table.specs.declared.owner.Full.{Full}

-- x at `Less`, y at `Equal`, z at `Greater`
abbrev pub by : {A : Type 0} → Ordering → A → A → A → A
by Less x y z = x
by Equal x y z = y
by Greater x y z = z

-- a place, one further on
abbrev pub later : Result ℕ ℕ → Result ℕ ℕ
later (Ok i) = Ok (suc i)
later (Err i) = Err (suc i)

-- the one value of `Full`
abbrev pub full : Full
full = record {}

-- the first row, if there is one, and the last
abbrev pub first_of : {X : Type 0} → List X → Option X
first_of [] = None
first_of (x ∷ xs) = Some x

abbrev pub last_from : {X : Type 0} → X → List X → X
last_from x [] = x
last_from x (y ∷ ys) = last_from y ys

abbrev pub last_of : {X : Type 0} → List X → Option X
last_of [] = None
last_of (x ∷ xs) = Some (last_from x xs)

-- a slice with these rows in its first places
abbrev pub laid : {X : Type 0} → List X → List X → List X
laid rows slice = rows ++ drop (length rows) slice

-- a walk up to the first row that does not stand below, by where each row stands towards a key
module _ {X : Type 0} (at : X → Ordering) where
  abbrev pub place_by : List X → Result ℕ ℕ
  place_by [] = Err 0
  place_by (x ∷ xs) = by (at x) (later (place_by xs)) (Ok 0) (Err 0)

  abbrev pub find_by : List X → Option X
  find_by [] = None
  find_by (x ∷ xs) = by (at x) (find_by xs) (Some x) None

  abbrev pub put_by : X → List X → List X
  put_by row [] = row ∷ []
  put_by row (x ∷ xs) = by (at x) (x ∷ put_by row xs) (row ∷ xs) (row ∷ (x ∷ xs))

  abbrev pub cut_by : List X → List X
  cut_by [] = []
  cut_by (x ∷ xs) = by (at x) (x ∷ cut_by xs) xs (x ∷ xs)

-- the test passes at each row
abbrev pub every : {X : Type 0} → (X → Bool) → List X → Bool
every p [] = true
every p (x ∷ xs) = p x && every p xs

module _ {X K : Type 0} (key : X → K) (rank : K → K → Ordering) where
  -- where a row stands towards a key
  abbrev pub towards : K → X → Ordering
  towards k x = rank (key x) k

  -- where the row of a key is, or where it would be
  abbrev pub place : List X → K → Result ℕ ℕ
  place rows k = place_by (towards k) rows

  -- the row of a key
  abbrev pub find : List X → K → Option X
  find rows k = find_by (towards k) rows

  -- the rows with this one in its place, over the one that has its key
  abbrev pub insert_row : List X → X → List X
  insert_row rows row = put_by (towards (key row)) row rows

  -- the rows without the one of a key
  abbrev pub remove_row : List X → K → List X
  remove_row rows k = cut_by (towards k) rows

  -- no row has the new one's key, and there are as many as there may be
  abbrev pub refuses : ℕ → List X → X → Bool
  refuses limit rows row = not (is_some (find rows (key row))) && length rows == limit

  -- the answer to a row, and the rows after it
  abbrev pub entered : ℕ → List X → X → Result (Unit {0}) Full × List X
  entered limit rows row = cond (refuses limit rows row) (Err full, rows) (Ok tt, insert_row rows row)

  -- the same over a slice, whose first `len` places hold the rows: the answer is how many there are then
  abbrev pub entered_in : List X → ℕ → X → Result ℕ Full × List X
  entered_in slice len row =
      cond (refuses (length slice) (take len slice) row) (Err full, slice) (Ok (length (insert_row (take len slice) row)), laid (insert_row (take len slice) row) slice)

  -- each row's key is below those after it
  abbrev pub ascending : List X → Bool
  ascending [] = true
  ascending (x ∷ xs) = every (λ y. is_lt (rank (key x) (key y))) xs && ascending xs

-- the key of a row that is its own key
abbrev pub own_key : {X : Type 0} → X → X
own_key x = x
