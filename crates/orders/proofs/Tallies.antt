-- How many rows a test keeps after an edit.
use Rattle.std.proofs.Common.{◌≡◌, ℕ, ◌+◌, Bool, true, false, cond, not, ◌&&◌, ◌⊎◌, List, [], ◌∷◌, map, length, Some, None, filter, Ordering, Less, Equal, Greater, sym, refl, ap, ◌∙◌, inl, inr, true≢false, arith}
use Rattle.std.proofs.lemmas.Bool.{cases_eq}
use Rattle.table.specs.Rows.{by, find_by, put_by}
use Rattle.table.proofs.Filters.{kept_kept, kept_same}
use Rattle.segment.specs.declared.rows.PageRow.{PageRow}
use Rattle.rules.specs.Pages.{is_in, rows_of, rows_off, left_count}
use Rattle.orders.proofs.Alone.{rank_other}

abbrev one_if : Bool → ℕ
one_if t = cond t 1 0

module _ {X : Type 0} (q : X → Bool) where
  length_kept : (t : Bool) (x : X) (xs : List X) → length (cond t (x ∷ xs) xs) ≡ one_if t + length xs
  length_kept true x xs = omega arith
  length_kept false x xs = omega arith

  -- a row over another
  pub over : (at : X → Ordering) (row x : X) (xs : List X) → find_by at xs ≡ Some x → length (filter q (put_by at row xs)) + one_if (q x) ≡ length (filter q xs) + one_if (q row)
  over at row x [] e = let z : ◌≡◌ {A = ℕ} 0 1 = cc in absurd (omega arith)
  over at row x (y ∷ ys) e = on (at y) e (λ f. over at row x ys f)
    where
      on : (o : Ordering) → by o (find_by at ys) (Some y) None ≡ Some x → (find_by at ys ≡ Some x → length (filter q (put_by at row ys)) + one_if (q x) ≡ length (filter q ys) + one_if (q row)) → length (filter q (by o (y ∷ put_by at row ys) (row ∷ ys) (row ∷ (y ∷ ys)))) + one_if (q x) ≡ length (filter q (y ∷ ys)) + one_if (q row)
      on Less f ih =
          let i = ih f in
          let a = length_kept (q y) y (filter q (put_by at row ys)) in
          let c = length_kept (q y) y (filter q ys) in
          omega arith
      on Equal f ih =
          let s : q y ≡ q x = ap q (same f) in
          let a = length_kept (q row) row (filter q ys) in
          let c = length_kept (q y) y (filter q ys) in
          let d : one_if (q y) ≡ one_if (q x) = ap one_if s in
          omega arith
        where
          same : Some y ≡ Some x → y ≡ x
          same g = cc
      on Greater f ih = let z : ◌≡◌ {A = ℕ} 0 1 = cc in absurd (omega arith)

  -- a new row
  pub beside : (at : X → Ordering) (row : X) (xs : List X) → find_by at xs ≡ None → length (filter q (put_by at row xs)) ≡ length (filter q xs) + one_if (q row)
  beside at row [] e = let a = length_kept (q row) row [] in omega arith
  beside at row (y ∷ ys) e = on (at y) e (λ f. beside at row ys f)
    where
      on : (o : Ordering) → by o (find_by at ys) (Some y) None ≡ None → (find_by at ys ≡ None → length (filter q (put_by at row ys)) ≡ length (filter q ys) + one_if (q row)) → length (filter q (by o (y ∷ put_by at row ys) (row ∷ ys) (row ∷ (y ∷ ys)))) ≡ length (filter q (y ∷ ys)) + one_if (q row)
      on Less f ih =
          let i = ih f in
          let a = length_kept (q y) y (filter q (put_by at row ys)) in
          let c = length_kept (q y) y (filter q ys) in
          omega arith
      on Equal f ih = let z : ◌≡◌ {A = ℕ} 0 1 = cc in absurd (omega arith)
      on Greater f ih = let a = length_kept (q row) row (filter q (y ∷ ys)) in omega arith

  pub through_map : (f : X → X) (xs : List X) → ((x : X) → q (f x) ≡ q x) → length (filter q (map f xs)) ≡ length (filter q xs)
  through_map f [] h = refl
  through_map f (x ∷ xs) h =
      let i = through_map f xs h in
      let a = length_kept (q (f x)) (f x) (filter q (map f xs)) in
      let c = length_kept (q x) x (filter q xs) in
      let d : one_if (q (f x)) ≡ one_if (q x) = ap one_if (h x) in
      omega arith

-- the rows of a segment that are marked left, as one test
pub left_as_one : (n : ℕ) (pages : List PageRow) → left_count n pages ≡ length (filter (λ row. is_in n row && row.left) pages)
left_as_one n pages = ap length (kept_kept (is_in n) (λ row. row.left) pages)

pub in_is : (n : ℕ) (row : PageRow) → is_in n row ≡ true → row.segment ≡ n
in_is n row e = on (cases_eq row.segment n)
  where
    on : (row.segment ≡ n) ⊎ (row.segment ≡ n → ⊥) → row.segment ≡ n
    on (inl q) = q
    on (inr q) = absurd (true≢false (sym e ∙ rank_other row.segment n q))

-- the rows of another segment go
pub off_count : (n m : ℕ) (pages : List PageRow) → (m ≡ n → ⊥) → rows_of m (rows_off n pages) ≡ rows_of m pages
off_count n m pages h = kept_kept (λ row. not (is_in n row)) (is_in m) pages ∙ kept_same _ (is_in m) pages (λ row. on row (is_in m row) refl)
  where
    on : (row : PageRow) (t : Bool) → is_in m row ≡ t → (not (is_in n row) && is_in m row) ≡ is_in m row
    on row true e =
        let s : row.segment ≡ m = in_is m row e in
        let f : is_in n row ≡ false = rank_other row.segment n (λ r. h (sym s ∙ r)) in
        ap (λ t. not t && is_in m row) f
    on row false e = ap (λ t. not (is_in n row) && t) e ∙ (none (not (is_in n row)) ∙ sym e)
      where
        none : (t : Bool) → (t && false) ≡ false
        none true = refl
        none false = refl
