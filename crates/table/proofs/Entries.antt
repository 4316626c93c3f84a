-- When a row is refused, and what the answer to a row says: by cases on the row that has its key. Assumes nothing.
use Rattle.std.proofs.Common.{◌≡◌, ℕ, ◌<◌, Bool, true, false, cond, not, ◌&&◌, eqb, List, ◌++◌, length, take, drop, is_some, Some, None, Ok, Err, Option, Result, Ordering, sym, refl, ap, ◌∙◌, arith, MatchResult}
use Rattle.std.proofs.lemmas.Bool.{eq-eqb, ne_eqb, eqb-true}
use Rattle.std.proofs.lemmas.List.{take-append-drop}
use Rattle.table.specs.declared.owner.Full.{Full}
use Rattle.table.specs.Rows.{find, insert_row, refuses, entered, full, laid}

apart : {G T E : Type 0} {x : T} {e : E} → ◌≡◌ {A = Result T E} (Ok x) (Err e) → G
apart h = let z : ◌≡◌ {A = ℕ} 0 1 = cc in absurd (omega arith)

module _ {X K : Type 0} (key : X → K) (rank : K → K → Ordering) (limit : ℕ) (rows : List X) (row : X) where
  pub refuses_new : find key rank rows (key row) ≡ None → length rows ≡ limit → refuses key rank limit rows row ≡ true
  refuses_new f e = rw (f, eq-eqb (length rows) limit e)

  pub takes_old : (x : X) → find key rank rows (key row) ≡ Some x → refuses key rank limit rows row ≡ false
  takes_old x f = rw f

  pub takes_room : length rows < limit → refuses key rank limit rows row ≡ false
  takes_room l = on (find key rank rows (key row))
    where
      off : eqb (length rows) limit ≡ false
      off = ne_eqb (length rows) limit (λ e. omega arith)

      on : (o : Option X) → (not (is_some o) && eqb (length rows) limit) ≡ false
      on None = off
      on (Some x) = refl

  pub entered_full : find key rank rows (key row) ≡ None → length rows ≡ limit → entered key rank limit rows row ≡ (Err full, rows)
  entered_full f e = rw (refuses_new f e)

  pub entered_taken : (l : List X) → refuses key rank limit rows row ≡ false → l ≡ insert_row key rank rows row → ◌≡◌ {A = Result (Unit {0}) Full × List X} (Ok tt, l) (entered key rank limit rows row)
  entered_taken l t e = rw t (ap (λ m. (Ok tt, m)) e)

  -- what an answer says
  split : (o : Option X) (t : Bool) (r : Result (Unit {0}) Full) (l : List X) → find key rank rows (key row) ≡ o → eqb (length rows) limit ≡ t → ◌≡◌ {A = Result (Unit {0}) Full × List X} (r, l) (cond (not (is_some o) && t) (Err full, rows) (Ok tt, insert_row key rank rows row)) → MatchResult r (λ _. l ≡ insert_row key rank rows row) (λ _. (l ≡ rows) × (length rows ≡ limit) × (find key rank rows (key row) ≡ None))
  split None true (Ok u) l f e h = apart (ap (λ p. p.0) h)
  split None true (Err x) l f e h = (ap (λ p. p.1) h, eqb-true (length rows) limit e, f)
  split None false (Ok u) l f e h = ap (λ p. p.1) h
  split None false (Err x) l f e h = apart (sym (ap (λ p. p.0) h))
  split (Some y) t (Ok u) l f e h = ap (λ p. p.1) h
  split (Some y) t (Err x) l f e h = apart (sym (ap (λ p. p.0) h))

  pub entered_cases : (r : Result (Unit {0}) Full) (l : List X) → ◌≡◌ {A = Result (Unit {0}) Full × List X} (r, l) (entered key rank limit rows row) → MatchResult r (λ _. l ≡ insert_row key rank rows row) (λ _. (l ≡ rows) × (length rows ≡ limit) × (find key rank rows (key row) ≡ None))
  entered_cases r l h = split (find key rank rows (key row)) (eqb (length rows) limit) r l refl refl h

-- a slice whose first n places are these rows, and whose others are as they were
pub laid_from : {X : Type 0} (rows slice new : List X) (n : ℕ) → length rows ≡ n → take n new ≡ rows → drop n new ≡ drop n slice → new ≡ laid rows slice
laid_from rows slice new n l t d = sym (take-append-drop n new) ∙ (λ i. t i ++ d i) ∙ ap (λ m. rows ++ drop m slice) (sym l)
