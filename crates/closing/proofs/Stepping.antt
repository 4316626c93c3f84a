-- A walk that changes each row in its place: so many rows from the front are changed, and the others are as they were.
use Rattle.std.proofs.Common.{◌≡◌, ℕ, ◌+◌, ◌-◌, ◌<◌, ◌≤◌, Bool, true, false, cond, not, ◌&&◌, List, [], ◌∷◌, ◌++◌, map, length, get_or, take, drop, set, Some, None, Ok, Err, filter, Option, Result, Ordering, sym, refl, ap, ◌∙◌, arith, MatchResult}
use Rattle.std.proofs.lemmas.List.{get_or-take, get_or-drop, get_or_at, length-take-le, length-drop, length-map, map-append, drop_more, take-append-drop}
use Rattle.std.proofs.lemmas.List.Edits.{map_over_more}
use Rattle.std.proofs.lemmas.Bool.{and_parts, not-true}
use Rattle.table.specs.Order.{Lawful}
use Rattle.table.specs.Rows.{every, ascending, place, find, insert_row}
use Rattle.table.specs.declared.owner.Full.{Full}
use Rattle.table.proofs.Orders.{rank_same, every_at}
use Rattle.table.proofs.Places.{place_at}
use Rattle.table.proofs.Edits.{found_by, put_of}
use Rattle.segment.specs.declared.rows.PageRow.{PageRow}
use Rattle.rules.specs.Pages.{is_in, queued_row, rows_of, rows_off}
use Rattle.ledger.proofs.Walks.{every_parts}
use Rattle.closing.specs.Queued.{queued_if}

-- rows that f leaves alone, in front and behind
module _ {X : Type 0} (f : X → X) (p : X → Bool) (same : (x : X) → p x ≡ true → f x ≡ x) where
  unchanged : (xs : List X) → every p xs ≡ true → map f xs ≡ xs
  unchanged [] e = refl
  unchanged (x ∷ xs) e = let es = and_parts (p x) (every p xs) e in λ k. same x es.0 k ∷ unchanged xs es.1 k

  pub over_front : (i : ℕ) (xs : List X) → every p (take i xs) ≡ true → xs ≡ map f (take i xs) ++ drop i xs
  over_front i xs e = sym (ap (λ l. l ++ drop i xs) (unchanged (take i xs) e) ∙ take-append-drop i xs)

  pub over_behind : (i : ℕ) (xs : List X) → every p (drop i xs) ≡ true → map f (take i xs) ++ drop i xs ≡ map f xs
  over_behind i xs e = ap (λ l. map f (take i xs) ++ l) (sym (unchanged (drop i xs) e)) ∙ (sym (map-append f (take i xs) (drop i xs)) ∙ ap (map f) (take-append-drop i xs))

-- what a test keeps passes it
module _ {X : Type 0} (p : X → Bool) where
  kept_pass : (xs : List X) → every p (filter p xs) ≡ true
  kept_pass [] = refl
  kept_pass (x ∷ xs) = on (p x) refl (kept_pass xs)
    where
      on : (b : Bool) → p x ≡ b → every p (filter p xs) ≡ true → every p (cond b (x ∷ filter p xs) (filter p xs)) ≡ true
      on true e ih = rw e ih
      on false e ih = ih

module _ {X K : Type 0} (key : X → K) {rank : K → K → Ordering} (laws : Lawful rank) where
  -- a row over another of the same key stands in its place
  pub over_place : (rows after : List X) (i limit : ℕ) (row : X) (r : Result (Unit {0}) Full) → ascending key rank rows ≡ true → i < length rows → key (get_or rows i row) ≡ key row → MatchResult r (λ _. after ≡ insert_row key rank rows row) (λ _. (after ≡ rows) × (length rows ≡ limit) × (find key rank rows (key row) ≡ None)) → after ≡ set rows i row
  over_place rows after i limit row r up l e h = on r h
    where
      at : place key rank rows (key row) ≡ Ok i
      at = place_at key laws rows (key row) i row up l (rank_same laws _ _ e)

      never : (o : Option X) → o ≡ Some (get_or rows i row) → o ≡ None → ⊥
      never o a b = let z : ◌≡◌ {A = ℕ} 0 1 = cc in omega arith

      on : (r : Result (Unit {0}) Full) → MatchResult r (λ _. after ≡ insert_row key rank rows row) (λ _. (after ≡ rows) × (length rows ≡ limit) × (find key rank rows (key row) ≡ None)) → after ≡ set rows i row
      on (Ok u) c = c ∙ put_of key rank rows (key row) (Ok i) (sym at) row refl
      on (Err f) c = absurd (never (find key rank rows (key row)) (found_by key rank rows (key row) (Ok i) (sym at) row) c.2)

-- ---- pages
abbrev pub queued_in : ℕ → PageRow → PageRow
queued_in n row = cond (is_in n row && not row.left) (queued_row true row) row

pub other_alone : (n : ℕ) (row : PageRow) → not (is_in n row) ≡ true → queued_in n row ≡ row
other_alone n row e = ap (λ t. cond (t && not row.left) (queued_row true row) row) (not-true (is_in n row) e)

-- the row at place i is of segment n, and is queued
pub queued_more : (n i : ℕ) (rows ys after : List PageRow) (d : PageRow) → i < length rows → is_in n (get_or rows i d) ≡ true → ys ≡ map (queued_in n) (take i rows) ++ drop i rows → ((d : PageRow) → after ≡ set ys i (queued_if (get_or ys i d))) → after ≡ map (queued_in n) (take (i + 1) rows) ++ drop (i + 1) rows
queued_more n i rows ys after d l own e put =
    let x : PageRow = get_or rows i d in
    let front : List PageRow = map (queued_in n) (take i rows) in
    let long : length front ≡ i = length-map (take i rows) (queued_in n) ∙ length-take-le i rows (omega arith) in
    let here : x ≡ get_or ys i x = sym (ap (λ z. get_or z i x) (e ∙ ap (λ z. front ++ z) (drop_more rows i d l)) ∙ get_or_at front _ _ x i long) in
    put x ∙ (ap (set ys i) (ap queued_if (sym here) ∙ ap (λ t. cond (t && not x.left) (queued_row true x) x) (sym own)) ∙ map_over_more (queued_in n) rows ys i x l e here)

-- the rows before the range of segment n, and those behind it, are of other segments
pub outside_range : (n start end : ℕ) (slice pages : List PageRow) → slice ≡ pages → take start slice ++ drop end slice ≡ rows_off n slice → (every (λ row. not (is_in n row)) (take start pages) ≡ true) × (every (λ row. not (is_in n row)) (drop end pages) ≡ true)
outside_range n start end slice pages e h =
    let g : take start pages ++ drop end pages ≡ rows_off n pages = (λ k. take start (sym e k) ++ drop end (sym e k)) ∙ h ∙ ap (rows_off n) e in
    every_parts (λ row. not (is_in n row)) (take start pages) (drop end pages) (ap (every (λ row. not (is_in n row))) g ∙ kept_pass (λ row. not (is_in n row)) pages)

-- those of the range are of segment n
pub inside_range : (n start end i : ℕ) (slice pages : List PageRow) (d : PageRow) → slice ≡ pages → take (end - start) (drop start slice) ≡ rows_of n slice → start ≤ i → i < end → end ≤ length slice → is_in n (get_or pages i d) ≡ true
inside_range n start end i slice pages d e h l u w =
    let m : length (drop start slice) ≡ length slice - start = length-drop start slice in
    let k : length (take (end - start) (drop start slice)) ≡ end - start = length-take-le (end - start) (drop start slice) (omega arith) in
    let a : every (is_in n) (take (end - start) (drop start slice)) ≡ true = ap (every (is_in n)) h ∙ kept_pass (is_in n) slice in
    let x = every_at (is_in n) (take (end - start) (drop start slice)) (i - start) d a (omega arith) in
    let j : start + (i - start) ≡ i = omega arith in
    let s : get_or (take (end - start) (drop start slice)) (i - start) d ≡ get_or pages i d = get_or-take (end - start) (drop start slice) (i - start) d (omega arith) ∙ get_or-drop start slice (i - start) d ∙ (λ t. get_or (e t) (j t) d) in
    ap (is_in n) (sym s) ∙ x
