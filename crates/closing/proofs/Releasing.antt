-- Of the rows that a test keeps, the first goes with its row: the others are kept as before.
use Rattle.std.proofs.Common.{◌≡◌, ℕ, Bool, true, false, cond, List, [], ◌∷◌, Some, None, filter, Ordering, Less, Equal, refl, sym, ap, ◌∙◌, subst, arith}
use Rattle.std.specs.Ordering.{is_lt}
use Rattle.std.specs.List.{ContainsAt as Has}
use Rattle.std.proofs.lemmas.Bool.{and_parts}
use Rattle.table.specs.Order.{Lawful}
use Rattle.table.specs.Rows.{every, by, ascending, remove_row, first_of}
use Rattle.table.proofs.Filters.{has_from_kept}
use Rattle.table.proofs.Orders.{every_has, less_from, rank_same}
use Rattle.segment.specs.Rows.{freeable_key, by_signed}
use Rattle.segment.specs.declared.rows.FreeableRow.{FreeableRow}
use Rattle.rules.specs.Stabilizing.{held_back_by}
use Rattle.orders.proofs.Stabilizes.{signed_laws}

module _ {X : Type 0} where
  -- a list with a first row is that row and others
  pub first_split : (xs : List X) (x : X) → first_of xs ≡ Some x → (rest : List X) × (xs ≡ (x ∷ rest))
  first_split [] x h = absurd (cc)
  first_split (y ∷ ys) x h = let e : y ≡ x = cc in (ys, ap (λ z. z ∷ ys) e)

  -- a list without a first row is empty
  pub first_none : (xs : List X) → first_of xs ≡ None → xs ≡ []
  first_none [] h = refl
  first_none (y ∷ ys) h = absurd (cc)

module _ {X K : Type 0} (key : X → K) {rank : K → K → Ordering} (laws : Lawful rank) (p : X → Bool) where
  pub kept_rest : (rows : List X) (x : X) (rest : List X) → ascending key rank rows ≡ true → filter p rows ≡ (x ∷ rest) → filter p (remove_row key rank rows (key x)) ≡ rest
  kept_rest [] x rest up h = absurd (cc)
  kept_rest (y ∷ ys) x rest up h = on (p y) refl h (kept_rest ys x rest parts.1)
    where
      parts : (every (λ z. is_lt (rank (key y) (key z))) ys ≡ true) × (ascending key rank ys ≡ true)
      parts = and_parts (every (λ z. is_lt (rank (key y) (key z))) ys) (ascending key rank ys) up

      on : (t : Bool) → p y ≡ t → cond t (y ∷ filter p ys) (filter p ys) ≡ (x ∷ rest) → (filter p ys ≡ (x ∷ rest) → filter p (remove_row key rank ys (key x)) ≡ rest) → filter p (remove_row key rank (y ∷ ys) (key x)) ≡ rest
      on true e g ih =
          let same : y ≡ x = cc in
          let others : filter p ys ≡ rest = cc in
          let o : rank (key y) (key x) ≡ Equal = rank_same laws (key y) (key x) (ap key same) in
          ap (λ r. filter p (by r (y ∷ remove_row key rank ys (key x)) ys (y ∷ ys))) o ∙ others
      on false e g ih =
          let m : Has ys x = (has_from_kept p ys x (subst (λ l. Has l x) (sym g) (0, omega arith, λ d. refl))).0 in
          let o : rank (key y) (key x) ≡ Less = less_from _ (every_has (λ z. is_lt (rank (key y) (key z))) ys x parts.0 m) in
          ap (λ r. filter p (by r (y ∷ remove_row key rank ys (key x)) ys (y ∷ ys))) o
          ∙ (ap (λ t. cond t (y ∷ filter p (remove_row key rank ys (key x))) (filter p (remove_row key rank ys (key x)))) e ∙ ih g)

-- the first row that segment n holds back goes, and it holds back the others
pub released_rest : (n : ℕ) (rows : List FreeableRow) (row : FreeableRow) (rest : List FreeableRow) → ascending freeable_key by_signed rows ≡ true → held_back_by n rows ≡ (row ∷ rest) → held_back_by n (remove_row freeable_key by_signed rows (row.segment, row.lsn)) ≡ rest
released_rest n rows row rest up h = kept_rest freeable_key signed_laws _ rows row rest up h
