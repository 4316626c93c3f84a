-- The look-ups of the books as functions of plain numbers, and each edit of a table as one equation between such functions.
use Rattle.std.proofs.Common.{◌≡◌, ℕ, ◌*◌, ◌/◌, ◌<◌, ◌≤◌, Bool, true, false, cond, not, ◌&&◌, eqb, ◌⊎◌, List, [], ◌∷◌, ◌++◌, map, length, get_or, set, ℤ, pos, nat_abs, is_some, Some, None, Option, Ordering, Less, Equal, Greater, sym, refl, ap, ◌∙◌, inl, inr, arith}
use mathlib.Core.Path.{fun_ext}
use native.Mathlib.Nat.{eq_of_mul-eq-mul_right}
use Rattle.std.specs.Ordering.{is_lt, is_eq, nat_cmp, int_cmp}
use Rattle.std.proofs.lemmas.Bool.{cases_eq, cases_lt, eq-eqb, ne_eqb, and_parts}
use Rattle.std.proofs.lemmas.List.{get_or-set_same, get_or-set_other, get_or_push, get_or_append_left, get_or_past, length_push}
use Rattle.table.specs.Order.{Lawful, unsigned_lawful, signed_lawful, lexical_lawful}
use Rattle.table.specs.Rows.{by, every, find, insert_row, remove_row, ascending, own_key}
use Rattle.table.proofs.Laws.{find_insert_same, find_insert_other, find_remove_same, find_remove_other, find_tail, find_above}
use Rattle.table.proofs.Filters.{find_kept}
use Rattle.table.proofs.Orders.{rank_refl}
use Rattle.segment.specs.Rows.{ordering_key, page_key, by_page, freeable_key, by_signed}
use Rattle.segment.specs.declared.state.State.{State}
use Rattle.segment.specs.declared.rows.OrderingRow.{OrderingRow}
use Rattle.segment.specs.declared.rows.PageRow.{PageRow}
use Rattle.segment.specs.declared.rows.FreeableRow.{FreeableRow}
use Rattle.rules.specs.Books.{unused}
use Rattle.rules.specs.Pages.{rows_off, is_in, all_queued, queued_row}
use Rattle.rules.specs.Recount.{upd}
use Rattle.safety.proofs.Plain.{Seg, mapped, upd2, seen}

pub page_law : Lawful by_page
page_law = lexical_lawful unsigned_lawful unsigned_lawful

pub signed_law : Lawful by_signed
signed_law = lexical_lawful unsigned_lawful signed_lawful

-- ---- the look-ups
abbrev pub seg_of : List State → ℕ → Seg
seg_of segs n = seen (get_or segs n unused)

abbrev pub on_of : ℕ → List ℕ → ℕ → Bool
on_of size free n = is_some (find own_key nat_cmp free (n * size))

abbrev pub number_in : ℕ → OrderingRow → ℕ
number_in size row = row.offset / size

abbrev pub ord_of : ℕ → List OrderingRow → ℕ → Option ℕ
ord_of size rows l = mapped (number_in size) (find ordering_key int_cmp rows (pos l))

abbrev pub mark : PageRow → Bool
mark row = row.left

abbrev pub row_of : List PageRow → ℕ → ℕ → Option Bool
row_of pages n p = mapped mark (find page_key by_page pages (n, p))

abbrev pub keep_of : List FreeableRow → ℕ → ℕ → Bool
keep_of rows t l = is_some (find freeable_key by_signed rows (t, pos l))

-- ---- states
pub seg_set : (segs : List State) (n : ℕ) (z : State) → n < length segs → seg_of (set segs n z) ≡ upd (seg_of segs) n (seen z)
seg_set segs n z l = fun_ext (λ m. on m (cases_eq m n))
  where
    on : (m : ℕ) → (m ≡ n) ⊎ (m ≡ n → ⊥) → seg_of (set segs n z) m ≡ upd (seg_of segs) n (seen z) m
    on m (inl e) = rw (eq-eqb m n e) (ap (seg_of (set segs n z)) e ∙ ap seen (get_or-set_same segs n z unused l))
    on m (inr e) = rw (ne_eqb m n e) (ap seen (get_or-set_other segs n m z unused e))

pub seg_push : (segs : List State) (z : State) → seg_of (segs ++ z ∷ []) ≡ upd (seg_of segs) (length segs) (seen z)
seg_push segs z = fun_ext (λ m. on m (cases_eq m (length segs)))
  where
    past : (m : ℕ) → (m ≡ length segs → ⊥) → (m < length segs) ⊎ (length segs ≤ m) → seg_of (segs ++ z ∷ []) m ≡ seg_of segs m
    past m e (inl l) = ap seen (get_or_append_left segs (z ∷ []) unused m l)
    past m e (inr l) = ap seen (get_or_past (segs ++ z ∷ []) m unused (omega (arith, length_push segs z)) ∙ sym (get_or_past segs m unused l))

    on : (m : ℕ) → (m ≡ length segs) ⊎ (m ≡ length segs → ⊥) → seg_of (segs ++ z ∷ []) m ≡ upd (seg_of segs) (length segs) (seen z) m
    on m (inl e) = rw (eq-eqb m (length segs) e) (ap seen (get_or_push segs z unused m (sym e)))
    on m (inr e) = rw (ne_eqb m (length segs) e) (past m e (cases_lt m (length segs)))

-- ---- one row put in or taken out of a table, seen by plain numbers
module _ {X K A : Type 0} (key : X → K) {rk : K → K → Ordering} (laws : Lawful rk) (f : Option X → A) (at : ℕ → K) (one : (m n : ℕ) → at m ≡ at n → m ≡ n) where
  pub put1 : (rows : List X) (row : X) (n : ℕ) → key row ≡ at n → (λ m. f (find key rk (insert_row key rk rows row) (at m))) ≡ upd (λ m. f (find key rk rows (at m))) n (f (Some row))
  put1 rows row n e = fun_ext (λ m. on m (cases_eq m n))
    where
      on : (m : ℕ) → (m ≡ n) ⊎ (m ≡ n → ⊥) → f (find key rk (insert_row key rk rows row) (at m)) ≡ upd (λ m. f (find key rk rows (at m))) n (f (Some row)) m
      on m (inl q) = rw (eq-eqb m n q) (ap f (ap (find key rk (insert_row key rk rows row)) (ap at q ∙ sym e) ∙ find_insert_same key laws rows row))
      on m (inr q) = rw (ne_eqb m n q) (ap f (find_insert_other key laws rows row (at m) (λ z. q (one m n (sym z ∙ e)))))

  pub cut1 : (rows : List X) (n : ℕ) → ascending key rk rows ≡ true → (λ m. f (find key rk (remove_row key rk rows (at n)) (at m))) ≡ upd (λ m. f (find key rk rows (at m))) n (f None)
  cut1 rows n up = fun_ext (λ m. on m (cases_eq m n))
    where
      on : (m : ℕ) → (m ≡ n) ⊎ (m ≡ n → ⊥) → f (find key rk (remove_row key rk rows (at n)) (at m)) ≡ upd (λ m. f (find key rk rows (at m))) n (f None) m
      on m (inl q) = rw (eq-eqb m n q) (ap f (ap (find key rk (remove_row key rk rows (at n))) (ap at q) ∙ find_remove_same key laws rows (at n) up))
      on m (inr q) = rw (ne_eqb m n q) (ap f (find_remove_other key laws rows (at n) (at m) up (λ z. q (one m n (sym z)))))

module _ {X K A : Type 0} (key : X → K) {rk : K → K → Ordering} (laws : Lawful rk) (f : Option X → A) (at : ℕ → ℕ → K) (one : (m q n p : ℕ) → at m q ≡ at n p → (m ≡ n) × (q ≡ p)) where
  pub put2 : (rows : List X) (row : X) (n p : ℕ) → key row ≡ at n p → (λ m q. f (find key rk (insert_row key rk rows row) (at m q))) ≡ upd2 (λ m q. f (find key rk rows (at m q))) n p (f (Some row))
  put2 rows row n p e = fun_ext (λ m. fun_ext (λ q. on m q (cases_eq m n) (cases_eq q p)))
    where
      on : (m q : ℕ) → (m ≡ n) ⊎ (m ≡ n → ⊥) → (q ≡ p) ⊎ (q ≡ p → ⊥) → f (find key rk (insert_row key rk rows row) (at m q)) ≡ upd2 (λ m q. f (find key rk rows (at m q))) n p (f (Some row)) m q
      on m q (inl a) (inl b) = rw (eq-eqb m n a) (rw (eq-eqb q p b) (ap f (ap (find key rk (insert_row key rk rows row)) ((λ i. at (a i) (b i)) ∙ sym e) ∙ find_insert_same key laws rows row)))
      on m q (inl a) (inr b) = rw (eq-eqb m n a) (rw (ne_eqb q p b) (ap f (find_insert_other key laws rows row (at m q) (λ z. b (one m q n p (sym z ∙ e)).1))))
      on m q (inr a) b = rw (ne_eqb m n a) (ap f (find_insert_other key laws rows row (at m q) (λ z. a (one m q n p (sym z ∙ e)).0)))

  pub cut2 : (rows : List X) (n p : ℕ) → ascending key rk rows ≡ true → (λ m q. f (find key rk (remove_row key rk rows (at n p)) (at m q))) ≡ upd2 (λ m q. f (find key rk rows (at m q))) n p (f None)
  cut2 rows n p up = fun_ext (λ m. fun_ext (λ q. on m q (cases_eq m n) (cases_eq q p)))
    where
      on : (m q : ℕ) → (m ≡ n) ⊎ (m ≡ n → ⊥) → (q ≡ p) ⊎ (q ≡ p → ⊥) → f (find key rk (remove_row key rk rows (at n p)) (at m q)) ≡ upd2 (λ m q. f (find key rk rows (at m q))) n p (f None) m q
      on m q (inl a) (inl b) = rw (eq-eqb m n a) (rw (eq-eqb q p b) (ap f (ap (find key rk (remove_row key rk rows (at n p))) (λ i. at (a i) (b i)) ∙ find_remove_same key laws rows (at n p) up)))
      on m q (inl a) (inr b) = rw (eq-eqb m n a) (rw (ne_eqb q p b) (ap f (find_remove_other key laws rows (at n p) (at m q) up (λ z. b (one m q n p (sym z)).1))))
      on m q (inr a) b = rw (ne_eqb m n a) (ap f (find_remove_other key laws rows (at n p) (at m q) up (λ z. a (one m q n p (sym z)).0)))

-- ---- the tables of the books
pub times_one : (size : ℕ) → 0 < size → (m n : ℕ) → m * size ≡ n * size → m ≡ n
times_one size p m n e = eq_of_mul-eq-mul_right size p m n e

pos_one : (m n : ℕ) → pos m ≡ pos n → m ≡ n
pos_one m n e = ap nat_abs e

pair_one : (m q n p : ℕ) → ◌≡◌ {A = ℕ × ℕ} (m, q) (n, p) → (m ≡ n) × (q ≡ p)
pair_one m q n p e = (ap (λ (z : ℕ × ℕ). z.0) e, ap (λ (z : ℕ × ℕ). z.1) e)

signed_one : (m q n p : ℕ) → ◌≡◌ {A = ℕ × ℤ} (m, pos q) (n, pos p) → (m ≡ n) × (q ≡ p)
signed_one m q n p e = (ap (λ (z : ℕ × ℤ). z.0) e, ap (λ (z : ℕ × ℤ). nat_abs z.1) e)

pub on_insert : (size : ℕ) (free : List ℕ) (n : ℕ) → 0 < size → on_of size (insert_row own_key nat_cmp free (n * size)) ≡ upd (on_of size free) n true
on_insert size free n p = put1 own_key unsigned_lawful is_some (λ k. k * size) (times_one size p) free (n * size) n refl

pub on_remove : (size : ℕ) (free : List ℕ) (n : ℕ) → 0 < size → ascending own_key nat_cmp free ≡ true → on_of size (remove_row own_key nat_cmp free (n * size)) ≡ upd (on_of size free) n false
on_remove size free n p up = cut1 own_key unsigned_lawful is_some (λ k. k * size) (times_one size p) free n up

pub ord_insert : (size : ℕ) (rows : List OrderingRow) (l o : ℕ) → ord_of size (insert_row ordering_key int_cmp rows (record { lsn = pos l; offset = o })) ≡ upd (ord_of size rows) l (Some (o / size))
ord_insert size rows l o = put1 ordering_key signed_lawful (mapped (number_in size)) pos pos_one rows (record { lsn = pos l; offset = o }) l refl

pub ord_remove : (size : ℕ) (rows : List OrderingRow) (l : ℕ) → ascending ordering_key int_cmp rows ≡ true → ord_of size (remove_row ordering_key int_cmp rows (pos l)) ≡ upd (ord_of size rows) l None
ord_remove size rows l up = cut1 ordering_key signed_lawful (mapped (number_in size)) pos pos_one rows l up

pub row_insert : (pages : List PageRow) (row : PageRow) → row_of (insert_row page_key by_page pages row) ≡ upd2 (row_of pages) row.segment row.page (Some row.left)
row_insert pages row = put2 page_key page_law (mapped mark) (λ m q. (m, q)) pair_one pages row row.segment row.page refl

pub keep_insert : (rows : List FreeableRow) (t l : ℕ) → keep_of (insert_row freeable_key by_signed rows (record { segment = t; lsn = pos l })) ≡ upd2 (keep_of rows) t l true
keep_insert rows t l = put2 freeable_key signed_law is_some (λ m q. (m, pos q)) signed_one rows (record { segment = t; lsn = pos l }) t l refl

pub keep_remove : (rows : List FreeableRow) (t l : ℕ) → ascending freeable_key by_signed rows ≡ true → keep_of (remove_row freeable_key by_signed rows (t, pos l)) ≡ upd2 (keep_of rows) t l false
keep_remove rows t l up = cut2 freeable_key signed_law is_some (λ m q. (m, pos q)) signed_one rows t l up

-- ---- page rows dropped and queued
eq_rank : (m n : ℕ) → is_eq (nat_cmp m n) ≡ eqb m n
eq_rank m n = on (cases_eq m n)
  where
    apart : (o : Ordering) → nat_cmp m n ≡ o → (m ≡ n → ⊥) → is_eq o ≡ false
    apart Less e ne = refl
    apart Equal e ne = absurd (ne (unsigned_lawful.same m n e))
    apart Greater e ne = refl

    on : (m ≡ n) ⊎ (m ≡ n → ⊥) → is_eq (nat_cmp m n) ≡ eqb m n
    on (inl e) = ap is_eq (ap (λ k. nat_cmp k n) e ∙ rank_refl unsigned_lawful n) ∙ sym (eq-eqb m n e)
    on (inr e) = apart (nat_cmp m n) refl e ∙ sym (ne_eqb m n e)

pub in_eqb : (n : ℕ) (row : PageRow) → is_in n row ≡ eqb row.segment n
in_eqb n row = eq_rank row.segment n

pub row_drop : (pages : List PageRow) (n : ℕ) → ascending page_key by_page pages ≡ true → row_of (rows_off n pages) ≡ upd (row_of pages) n (λ q. None)
row_drop pages n up = fun_ext (λ m. fun_ext (λ q. ap (mapped mark) (find_kept page_key page_law (λ k. not (is_eq (nat_cmp k.0 n))) pages (m, q) up ∙ ap (λ t. cond (not t) (find page_key by_page pages (m, q)) None) (eq_rank m n)) ∙ on m q (eqb m n)))
  where
    on : (m q : ℕ) (t : Bool) → mapped mark (cond (not t) (find page_key by_page pages (m, q)) None) ≡ cond {A = ℕ → Option Bool} t (λ z. None) (row_of pages m) q
    on m q true = refl
    on m q false = refl

module _ {X Y K : Type 0} (key : X → K) (rk : K → K → Ordering) (g : X → Y) (f : X → X) (same : (x : X) → key (f x) ≡ key x) (mark' : (x : X) → g (f x) ≡ g x) where
  pub find_map : (rows : List X) (k : K) → mapped g (find key rk (map f rows) k) ≡ mapped g (find key rk rows k)
  find_map [] k = refl
  find_map (x ∷ xs) k = ap (λ o. mapped g (by (rk o k) (find key rk (map f xs) k) (Some (f x)) None)) (same x) ∙ on (find_map xs k) (rk (key x) k)
    where
      on : mapped g (find key rk (map f xs) k) ≡ mapped g (find key rk xs k) → (o : Ordering) → mapped g (by o (find key rk (map f xs) k) (Some (f x)) None) ≡ mapped g (by o (find key rk xs k) (Some x) None)
      on ih Less = ih
      on ih Equal = ap Some (mark' x)
      on ih Greater = refl

pub row_queue : (pages : List PageRow) (n : ℕ) → row_of (all_queued n pages) ≡ row_of pages
row_queue pages n = fun_ext (λ m. fun_ext (λ q. find_map page_key by_page mark (λ row. cond (is_in n row && not row.left) (queued_row true row) row) (λ x. on x (is_in n x && not x.left)) (λ x. on2 x (is_in n x && not x.left)) pages (m, q)))
  where
    on : (x : PageRow) (t : Bool) → page_key (cond t (queued_row true x) x) ≡ page_key x
    on x true = refl
    on x false = refl

    on2 : (x : PageRow) (t : Bool) → mark (cond t (queued_row true x) x) ≡ mark x
    on2 x true = refl
    on2 x false = refl

-- ---- the first of the free list
skip : (o : Ordering) {X : Type 0} (x : X) (f : Option X) → (o ≡ Equal → ⊥) → (o ≡ Greater → f ≡ None) → f ≡ by o f (Some x) None
skip Less x f ne g = refl
skip Equal x f ne g = absurd (ne refl)
skip Greater x f ne g = g refl

not_less : Greater ≡ Less → ⊥
not_less e = let z : ◌≡◌ {A = ℕ} 0 1 = cc in omega arith

module _ {X K : Type 0} (key : X → K) {rank' : K → K → Ordering} (laws : Lawful rank') where
  pub find_skip : (x : X) (xs : List X) (k : K) → ascending key rank' (x ∷ xs) ≡ true → (key x ≡ k → ⊥) → find key rank' xs k ≡ find key rank' (x ∷ xs) k
  find_skip x xs k up ne = skip (rank' (key x) k) x (find key rank' xs k) (λ e. ne (laws.same (key x) k e)) (λ e. find_tail key laws x xs k Greater up e not_less)

pub on_rest : (size n : ℕ) (xs : List ℕ) → 0 < size → ascending own_key nat_cmp (n * size ∷ xs) ≡ true → on_of size xs ≡ upd (on_of size (n * size ∷ xs)) n false
on_rest size n xs p up = fun_ext (λ m. on m (cases_eq m n))
  where
    gone : find own_key nat_cmp xs (n * size) ≡ None
    gone = find_above own_key unsigned_lawful xs (n * size) (and_parts (every (λ (y : ℕ). is_lt (nat_cmp (n * size) y)) xs) (ascending own_key nat_cmp xs) up).0

    on : (m : ℕ) → (m ≡ n) ⊎ (m ≡ n → ⊥) → on_of size xs m ≡ upd (on_of size (n * size ∷ xs)) n false m
    on m (inl e) = rw (eq-eqb m n e) (ap (on_of size xs) e ∙ ap is_some gone)
    on m (inr e) = rw (ne_eqb m n e) (ap is_some (find_skip own_key unsigned_lawful (n * size) xs (m * size) up (λ z. e (sym (times_one size p n m z)))))
