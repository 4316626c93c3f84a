-- Cleaning one segment leaves the states and the page rows of all others as they are.
use Rattle.std.proofs.Common.{◌≡◌, ℕ, Bool, true, false, cond, not, ◌&&◌, eqb, List, [], ◌∷◌, map, get_or, ℤ, Some, None, Option, Ordering, Less, Equal, Greater, sym, refl, ap, ◌∙◌, subst, true≢false}
use Rattle.std.proofs.lemmas.List.{get_or-set_other}
use Rattle.std.specs.Option.{option_map}
use Rattle.std.specs.Ordering.{is_eq, is_lt, nat_cmp as rank}
use Rattle.std.proofs.lemmas.Bool.{and_parts, and_from}
use Rattle.table.specs.Order.{Lawful, unsigned_lawful, lexical_lawful}
use Rattle.table.specs.Rows.{by, every, find, ascending}
use Rattle.table.proofs.Filters.{find_kept}
use Rattle.table.proofs.Laws.{find_insert_other, find_key}
use Rattle.host.specs.Meaning.{Answer}
use Rattle.host.specs.declared.request.Request.{Request}
use Rattle.segment.specs.Rows.{page_key, by_page}
use Rattle.segment.specs.Updates.{leaves}
use Rattle.segment.specs.declared.rows.PageRow.{PageRow}
use Rattle.segment.specs.declared.state.State.{State}
use Rattle.segment.specs.declared.state.State.TheVariants as is
use Rattle.rules.specs.Books.{Books, World, world, unused, state_of}
use Rattle.rules.specs.Pages.{page_row, is_in, rows_off, all_queued, queued_row, left_row, marked}
use Rattle.rules.specs.Cleaning.{half_empty, start_draining, drain_by, drain_if_empty, holder, settle, emptied_at, free_by, free_if_left, cleaned}
use Rattle.rules.specs.Replacing.{taken_at}
use Rattle.orders.specs.Ordered.{Ordered}
use Rattle.orders.proofs.Cleans.{freed_segments, freed_size, freed_pages}

-- ---- a map that keeps keys keeps the order, and look-ups up to the map
module _ {X K : Type 0} (key : X → K) (rank : K → K → Ordering) (f : X → X) (keeps : (x : X) → key (f x) ≡ key x) where
  every_map : (x : X) (xs : List X) → every (λ y. is_lt (rank (key x) (key y))) xs ≡ true → every (λ y. is_lt (rank (key (f x)) (key y))) (map f xs) ≡ true
  every_map x [] h = refl
  every_map x (y ∷ ys) h =
      let hs = and_parts (is_lt (rank (key x) (key y))) (every (λ z. is_lt (rank (key x) (key z))) ys) h in
      and_from _ _ (subst (λ k. is_lt (rank k (key (f y))) ≡ true) (sym (keeps x)) (subst (λ k. is_lt (rank (key x) k) ≡ true) (sym (keeps y)) hs.0)) (every_map x ys hs.1)

  pub ascending_map : (xs : List X) → ascending key rank xs ≡ true → ascending key rank (map f xs) ≡ true
  ascending_map [] up = refl
  ascending_map (x ∷ xs) up =
      let hs = and_parts (every (λ y. is_lt (rank (key x) (key y))) xs) (ascending key rank xs) up in
      and_from _ _ (every_map x xs hs.0) (ascending_map xs hs.1)

  pub find_map : (xs : List X) (k : K) → find key rank (map f xs) k ≡ option_map f (find key rank xs k)
  find_map [] k = refl
  find_map (x ∷ xs) k = ap (λ j. by (rank j k) (find key rank (map f xs) k) (Some (f x)) None) (keeps x) ∙ on (rank (key x) k) (find_map xs k)
    where
      on : (o : Ordering) → find key rank (map f xs) k ≡ option_map f (find key rank xs k) → by o (find key rank (map f xs) k) (Some (f x)) None ≡ option_map f (by o (find key rank xs k) (Some x) None)
      on Less ih = ih
      on Equal ih = refl
      on Greater ih = refl

pub page_laws : Lawful by_page
page_laws = lexical_lawful unsigned_lawful unsigned_lawful

equal_from : (o : Ordering) → is_eq o ≡ true → o ≡ Equal
equal_from Less h = absurd (true≢false (sym h))
equal_from Equal h = refl
equal_from Greater h = absurd (true≢false (sym h))

pub rank_other : (m n : ℕ) → (m ≡ n → ⊥) → is_eq (rank m n) ≡ false
rank_other m n h = on (is_eq (rank m n)) refl
  where
    on : (t : Bool) → is_eq (rank m n) ≡ t → t ≡ false
    on true e = absurd (h (unsigned_lawful.same m n (equal_from _ e)))
    on false e = refl

-- ---- the page rows of another segment
pub queued_key : (n : ℕ) (row : PageRow) → page_key (cond (is_in n row && not row.left) (queued_row true row) row) ≡ page_key row
queued_key n row = on (is_in n row && not row.left)
  where
    on : (t : Bool) → page_key (cond t (queued_row true row) row) ≡ page_key row
    on true = refl
    on false = refl

pub queued_row_of : (n m p : ℕ) (pages : List PageRow) → (m ≡ n → ⊥) → page_row (all_queued n pages) m p ≡ page_row pages m p
queued_row_of n m p pages h = find_map page_key by_page _ (queued_key n) pages (m, p) ∙ on (find page_key by_page pages (m, p)) refl
  where
    on : (o : Option PageRow) → find page_key by_page pages (m, p) ≡ o → option_map (λ row. cond (is_in n row && not row.left) (queued_row true row) row) o ≡ o
    on None e = refl
    on (Some row) e =
        let g : row.segment ≡ m = ap (λ (k : ℕ × ℕ). k.0) (find_key page_key page_laws pages (m, p) row e) in
        let q : is_in n row ≡ false = rank_other row.segment n (λ r. h (sym g ∙ r)) in
        ap (λ t. Some (cond (t && not row.left) (queued_row true row) row)) q

pub off_row_of : (n m p : ℕ) (pages : List PageRow) → ascending page_key by_page pages ≡ true → (m ≡ n → ⊥) → page_row (rows_off n pages) m p ≡ page_row pages m p
off_row_of n m p pages up h = find_kept page_key page_laws (λ k. not (is_eq (rank k.0 n))) pages (m, p) up ∙ ap (λ t. cond (not t) (page_row pages m p) None) (rank_other m n h)

pub marked_row_of : (n m p : ℕ) (pages : List PageRow) → (m ≡ n → ⊥) → page_row (marked pages (page_row pages n p)) m p ≡ page_row pages m p
marked_row_of n m p pages h = on (page_row pages n p) refl
  where
    on : (o : Option PageRow) → page_row pages n p ≡ o → page_row (marked pages o) m p ≡ page_row pages m p
    on None e = refl
    on (Some row) e = find_insert_other page_key page_laws pages (left_row row) (m, p) (λ g. h (ap (λ (k : ℕ × ℕ). k.0) (sym g ∙ find_key page_key page_laws pages (n, p) row e)))

-- ---- two books that differ at segment n alone, as far as states and the rows of page p go
pub record Alone (p n : ℕ) (b c : Books) : Type 0 where
  pub size : c.size ≡ b.size
  pub state : (m : ℕ) → (m ≡ n → ⊥) → state_of c m ≡ state_of b m
  pub row : (m : ℕ) → (m ≡ n → ⊥) → page_row c.pages m p ≡ page_row b.pages m p

pub alone_then : {p n : ℕ} {a b c : Books} → Alone p n a b → Alone p n b c → Alone p n a c
alone_then x y = record { size = y.size ∙ x.size; state = λ m h. y.state m h ∙ x.state m h; row = λ m h. y.row m h ∙ x.row m h }

pub alone_same : (p n : ℕ) (b : Books) → Alone p n b b
alone_same p n b = record { size = refl; state = λ m h. refl; row = λ m h. refl }

pub taken_alone : (p n : ℕ) (base : ℤ) (size : ℕ) (b : Books) → Alone p n b (taken_at n p base size b)
taken_alone p n base size b = record { size = refl; state = λ m h. get_or-set_other b.segments n m _ unused h; row = λ m h. on m h (leaves base (state_of b n)) }
  where
    on : (m : ℕ) → (m ≡ n → ⊥) → (t : Bool) → page_row (cond t (marked b.pages (page_row b.pages n p)) b.pages) m p ≡ page_row b.pages m p
    on m h true = marked_row_of n m p b.pages h
    on m h false = refl

drain_alone : (p n : ℕ) (b : Books) → Alone p n b (drain_if_empty n b)
drain_alone p n b = on (state_of b n)
  where
    on : (s : State) → Alone p n b (drain_by n s b)
    on (is.Free f) = alone_same p n b
    on (is.Active a) = alone_same p n b
    on (is.Inactive i) = half (half_empty b.size i)
      where
        half : (t : Bool) → Alone p n b (cond t (start_draining n i b) b)
        half true = record { size = refl; state = λ m h. get_or-set_other b.segments n m _ unused h; row = λ m h. queued_row_of n m p b.pages h }
        half false = alone_same p n b
    on (is.Draining d) = alone_same p n b

module _ {M : Type 0} (respond : M → Request → Answer × M) where
  free_alone : (p n : ℕ) (w : World M) → Ordered w.books → Alone p n w.books (free_if_left respond n w).books
  free_alone p n w up = on (state_of w.books n)
    where
      on : (s : State) → Alone p n w.books (free_by respond n s w).books
      on (is.Free f) = alone_same p n w.books
      on (is.Active a) = alone_same p n w.books
      on (is.Inactive i) = alone_same p n w.books
      on (is.Draining d) = full (eqb d.replaced_pids d.max_pids) (holder w.books d.latest_replacement_lsn)
        where
          v : World M
          v = world (emptied_at n d w.books) w.host

          settled : (o : Option ℕ) → Alone p n w.books (settle respond n d w o).books
          settled (Some t) = record { size = refl; state = λ m h. get_or-set_other w.books.segments n m _ unused h; row = λ m h. refl }
          settled None = record {
            size = freed_size respond n v;
            state = λ m h. ap (λ l. get_or l m unused) (freed_segments respond n v) ∙ get_or-set_other w.books.segments n m _ unused h;
            row = λ m h. ap (λ l. page_row l m p) (freed_pages respond n v) ∙ off_row_of n m p w.books.pages up.pages h;
          }

          full : (t : Bool) (o : Option ℕ) → Alone p n w.books (cond t (settle respond n d w o) w).books
          full true o = settled o
          full false o = alone_same p n w.books

  pub cleaned_alone : (p n : ℕ) (w : World M) → Ordered (drain_if_empty n w.books) → Alone p n w.books (cleaned respond n w).books
  unfolding cleaned
  cleaned_alone p n w up = alone_then (drain_alone p n w.books) (free_alone p n (world (drain_if_empty n w.books) w.host) up)
