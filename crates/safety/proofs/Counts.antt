-- How many page rows a segment has, and how many of them are marked: counted row by row, through every edit of the table.
use Rattle.std.proofs.Common.{◌≡◌, ℕ, ◌+◌, ◌≤◌, Bool, true, false, cond, not, ◌&&◌, List, [], ◌∷◌, map, length, Some, None, filter, Option, Ordering, Less, Equal, Greater, sym, refl, ap, ◌∙◌, arith}
use Rattle.std.proofs.lemmas.Bool.{eq-eqb, ne_eqb, true≢false}
use Rattle.table.specs.Rows.{by, find_by, put_by, towards, find, insert_row}
use Rattle.table.proofs.Laws.{find_key}
use Rattle.table.proofs.Filters.{kept_kept}
use Rattle.segment.specs.Rows.{page_key, by_page}
use Rattle.segment.specs.declared.rows.PageRow.{PageRow}
use Rattle.rules.specs.Pages.{is_in, rows_off, page_count, left_count, all_queued, queued_row}
use Rattle.safety.proofs.Plain.{mapped, here}
use Rattle.safety.proofs.Looks.{page_law, in_eqb, row_of, mark}

abbrev pub one : Bool → ℕ
one t = cond t 1 0

abbrev pub tally : {X : Type 0} → (X → Bool) → List X → ℕ
tally p [] = 0
tally p (x ∷ xs) = one (p x) + tally p xs

abbrev pub left_in : ℕ → PageRow → Bool
left_in n row = is_in n row && row.left

-- ---- the counts of the rules
pub length_kept : {X : Type 0} (p : X → Bool) (xs : List X) → length (filter p xs) ≡ tally p xs
length_kept p [] = refl
length_kept p (x ∷ xs) = on (length_kept p xs) (p x)
  where
    on : length (filter p xs) ≡ tally p xs → (t : Bool) → length (cond t (x ∷ filter p xs) (filter p xs)) ≡ one t + tally p xs
    on ih true = omega arith
    on ih false = omega arith

pub pages_tally : (n : ℕ) (pages : List PageRow) → page_count n pages ≡ tally (is_in n) pages
pages_tally n pages = length_kept (is_in n) pages

pub left_tally : (n : ℕ) (pages : List PageRow) → left_count n pages ≡ tally (left_in n) pages
left_tally n pages = ap length (kept_kept (is_in n) mark pages) ∙ length_kept (left_in n) pages

-- ---- the edits
pub tally_put : (p : PageRow → Bool) (at : PageRow → Ordering) (row : PageRow) (xs : List PageRow) → (find_by at xs ≡ None → tally p (put_by at row xs) ≡ tally p xs + one (p row)) × ((x : PageRow) → find_by at xs ≡ Some x → tally p (put_by at row xs) + one (p x) ≡ tally p xs + one (p row))
tally_put p at row [] = (λ e. omega arith, λ x e. absurd (let z : ◌≡◌ {A = ℕ} 0 1 = cc in omega arith))
tally_put p at row (y ∷ ys) = on (tally_put p at row ys) (at y)
  where
    on : (find_by at ys ≡ None → tally p (put_by at row ys) ≡ tally p ys + one (p row)) × ((x : PageRow) → find_by at ys ≡ Some x → tally p (put_by at row ys) + one (p x) ≡ tally p ys + one (p row))
        → (o : Ordering) → (by o (find_by at ys) (Some y) None ≡ None → tally p (by o (y ∷ put_by at row ys) (row ∷ ys) (row ∷ (y ∷ ys))) ≡ tally p (y ∷ ys) + one (p row)) × ((x : PageRow) → by o (find_by at ys) (Some y) None ≡ Some x → tally p (by o (y ∷ put_by at row ys) (row ∷ ys) (row ∷ (y ∷ ys))) + one (p x) ≡ tally p (y ∷ ys) + one (p row))
    on ih Less = (λ e. let a = ih.0 e in omega arith, λ x e. let a = ih.1 x e in omega arith)
    on ih Equal = (λ e. absurd (let z : ◌≡◌ {A = ℕ} 0 1 = cc in omega arith), λ x e. let s : y ≡ x = cc in let c : one (p y) ≡ one (p x) = ap (λ (z : PageRow). one (p z)) s in omega arith)
    on ih Greater = (λ e. omega arith, λ x e. absurd (let z : ◌≡◌ {A = ℕ} 0 1 = cc in omega arith))

pub tally_off : (p : PageRow → Bool) (n : ℕ) → ((x : PageRow) → is_in n x ≡ true → p x ≡ false) → (xs : List PageRow) → tally p (rows_off n xs) ≡ tally p xs
tally_off p n ne [] = refl
tally_off p n ne (x ∷ xs) = on (tally_off p n ne xs) (is_in n x) refl
  where
    on : tally p (rows_off n xs) ≡ tally p xs → (t : Bool) → is_in n x ≡ t → tally p (cond (not t) (x ∷ rows_off n xs) (rows_off n xs)) ≡ one (p x) + tally p xs
    on ih true e = let a : one (p x) ≡ 0 = ap one (ne x e) in omega arith
    on ih false e = omega arith

pub tally_map : (p : PageRow → Bool) (f : PageRow → PageRow) → ((x : PageRow) → p (f x) ≡ p x) → (xs : List PageRow) → tally p (map f xs) ≡ tally p xs
tally_map p f same [] = refl
tally_map p f same (x ∷ xs) = let a : one (p (f x)) ≡ one (p x) = ap one (same x) in omega (arith, tally_map p f same xs)

module _ (n m : ℕ) (pages : List PageRow) where
  in_queued : (x : PageRow) (t : Bool) → is_in m (cond t (queued_row true x) x) ≡ is_in m x
  in_queued x true = refl
  in_queued x false = refl

  left_queued : (x : PageRow) (t : Bool) → left_in m (cond t (queued_row true x) x) ≡ left_in m x
  left_queued x true = refl
  left_queued x false = refl

  pub queue_in : tally (is_in m) (all_queued n pages) ≡ tally (is_in m) pages
  queue_in = tally_map (is_in m) (λ row. cond (is_in n row && not row.left) (queued_row true row) row) (λ x. in_queued x (is_in n x && not x.left)) pages

  pub queue_left : tally (left_in m) (all_queued n pages) ≡ tally (left_in m) pages
  queue_left = tally_map (left_in m) (λ row. cond (is_in n row && not row.left) (queued_row true row) row) (λ x. left_queued x (is_in n x && not x.left)) pages

one_less : (a c : Bool) → one (a && c) ≤ one a
one_less true true = omega arith
one_less true false = omega arith
one_less false c = omega arith

pub left_less : (n : ℕ) (xs : List PageRow) → tally (left_in n) xs ≤ tally (is_in n) xs
left_less n [] = omega arith
left_less n (x ∷ xs) = omega (arith, left_less n xs, one_less (is_in n x) x.left)

-- where all rows of a segment are marked, none lies there
pub all_left : (n q : ℕ) (xs : List PageRow) → tally (left_in n) xs ≡ tally (is_in n) xs → here (row_of xs n q) ≡ false
all_left n q [] e = refl
all_left n q (x ∷ xs) e = on (all_left n q xs tails) (by_page (page_key x) (n, q)) refl
  where
    a : one (left_in n x) ≤ one (is_in n x)
    a = one_less (is_in n x) x.left

    b : tally (left_in n) xs ≤ tally (is_in n) xs
    b = left_less n xs

    tails : tally (left_in n) xs ≡ tally (is_in n) xs
    tails = omega (arith, a, b)

    heads : one (left_in n x) ≡ one (is_in n x)
    heads = omega (arith, a, b)

    marked : (s t : Bool) → s ≡ true → one (s && t) ≡ one s → not t ≡ false
    marked true true e h = refl
    marked true false e h = absurd (omega arith)
    marked false t e h = absurd (true≢false (sym e))

    on : here (row_of xs n q) ≡ false → (o : Ordering) → by_page (page_key x) (n, q) ≡ o → here (mapped mark (by o (find page_key by_page xs (n, q)) (Some x) None)) ≡ false
    on ih Less e = ih
    on ih Equal e = marked (is_in n x) x.left (in_eqb n x ∙ eq-eqb x.segment n (ap (λ (z : ℕ × ℕ). z.0) (page_law.same (page_key x) (n, q) e))) heads
    on ih Greater e = refl

-- ---- one row put in
apart_in : (n m : ℕ) (x : PageRow) → (m ≡ n → ⊥) → x.segment ≡ n → is_in m x ≡ false
apart_in n m x ne e = in_eqb m x ∙ ne_eqb x.segment m (λ z. ne (sym z ∙ e))

-- a row of another segment leaves a count as it is
tally_other : (q : PageRow → Bool) (pages : List PageRow) (row : PageRow) → q row ≡ false → ((x : PageRow) → page_key x ≡ page_key row → q x ≡ false) → tally q (insert_row page_key by_page pages row) ≡ tally q pages
tally_other q pages row e f = on (find page_key by_page pages (page_key row)) refl
  where
    on : (o : Option PageRow) → find page_key by_page pages (page_key row) ≡ o → tally q (insert_row page_key by_page pages row) ≡ tally q pages
    on None g = let a = (tally_put q (towards page_key by_page (page_key row)) row pages).0 g in let b : one (q row) ≡ 0 = ap one e in omega arith
    on (Some x) g =
        let a = (tally_put q (towards page_key by_page (page_key row)) row pages).1 x g in
        let b : one (q row) ≡ 0 = ap one e in
        let c : one (q x) ≡ 0 = ap one (f x (find_key page_key page_law pages (page_key row) x g)) in
        omega arith

pub other_in : (m : ℕ) (row : PageRow) (pages : List PageRow) → (m ≡ row.segment → ⊥) → tally (is_in m) (insert_row page_key by_page pages row) ≡ tally (is_in m) pages
other_in m row pages ne = tally_other (is_in m) pages row (apart_in row.segment m row ne refl) (λ x e. apart_in row.segment m x ne (ap (λ (w : ℕ × ℕ). w.0) e))

pub other_left : (m : ℕ) (row : PageRow) (pages : List PageRow) → (m ≡ row.segment → ⊥) → tally (left_in m) (insert_row page_key by_page pages row) ≡ tally (left_in m) pages
other_left m row pages ne = tally_other (left_in m) pages row (ap (λ t. t && row.left) (apart_in row.segment m row ne refl)) (λ x e. ap (λ t. t && x.left) (apart_in row.segment m x ne (ap (λ (w : ℕ × ℕ). w.0) e)))

-- a row put over that of a page that lies there
pub marks_in : (row x : PageRow) (pages : List PageRow) → find page_key by_page pages (page_key row) ≡ Some x → tally (is_in row.segment) (insert_row page_key by_page pages row) ≡ tally (is_in row.segment) pages
marks_in row x pages e =
    let a = (tally_put (is_in row.segment) (towards page_key by_page (page_key row)) row pages).1 x e in
    let k : page_key x ≡ page_key row = find_key page_key page_law pages (page_key row) x e in
    let b : one (is_in row.segment x) ≡ one (is_in row.segment row) = ap (λ (z : ℕ × ℕ). one (Rattle.std.specs.Ordering.is_eq (Rattle.std.specs.Ordering.nat_cmp z.0 row.segment))) k in
    omega arith

pub marks_left : (row x : PageRow) (pages : List PageRow) → find page_key by_page pages (page_key row) ≡ Some x → x.left ≡ false → row.left ≡ true → tally (left_in row.segment) (insert_row page_key by_page pages row) ≡ tally (left_in row.segment) pages + 1
marks_left row x pages e f g =
    let a = (tally_put (left_in row.segment) (towards page_key by_page (page_key row)) row pages).1 x e in
    let b : one (left_in row.segment row) ≡ 1 = ap (λ t. one (t && row.left)) (in_eqb row.segment row ∙ eq-eqb row.segment row.segment refl) ∙ ap one g in
    let c : one (left_in row.segment x) ≡ 0 = none (is_in row.segment x) x.left f in
    omega arith
  where
    none : (s t : Bool) → t ≡ false → one (s && t) ≡ 0
    none true true q = absurd (true≢false q)
    none true false q = refl
    none false t q = refl
