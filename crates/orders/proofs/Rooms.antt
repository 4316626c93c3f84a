-- Rows with ascending places of so many segments are no more than those segments.
use Rattle.std.proofs.Common.{◌≡◌, ℕ, suc, ◌+◌, ◌*◌, ◌/◌, ◌<◌, ◌≤◌, true, leb, ◌⊎◌, List, [], ◌∷◌, length, is_some, Some, None, Option, Ordering, Equal, sym, refl, ap, ◌∙◌, subst, inl, inr, true≢false, mul-le-mul_right, arith}
use Rattle.std.specs.Cmp.{ranks}
use Rattle.std.specs.Option.{option_map}
use Rattle.std.specs.List.{ContainsAt as Has}
use Rattle.std.specs.Ordering.{MatchOrdering, is_lt, nat_cmp, int_cmp}
use Rattle.std.proofs.lemmas.Bool.{and_parts, and_from, cases_lt, leb-true, le-leb}
use Rattle.table.specs.Order.{signed_lawful}
use Rattle.table.specs.Rows.{every, ascending, find, remove_row, own_key}
use Rattle.table.proofs.Laws.{ascending_remove, find_remove_other, has_find, length_remove}
use Rattle.table.proofs.Orders.{every_has, less_from, rank_same}
use Rattle.segment.specs.Rows.{ordering_key, freeable_key, fault_key, by_signed}
use Rattle.segment.specs.declared.rows.FreeableRow.{FreeableRow}
use Rattle.segment.specs.declared.rows.OrderingRow.{OrderingRow}
use Rattle.rules.specs.Books.{Books, segment_of}
use Rattle.orders.specs.Within.{is_place}
use Rattle.orders.specs.Looks.{holds_back, Looks}
use Rattle.orders.specs.Counts.{Counting}
use Rattle.orders.specs.Spread.{Whole}
use Rattle.orders.specs.Rooms.{Rooms}
use Rattle.orders.proofs.Every.{place_parts}
use Rattle.orders.proofs.Spreads.{some_of}
use Rattle.orders.proofs.Stabilizes.{signed_laws}

less_is : (x y : ℕ) → is_lt (nat_cmp x y) ≡ true → x < y
less_is x y h = subst (λ k. MatchOrdering k (x < y) (x ≡ y) (y < x)) (less_from (nat_cmp x y) h) (ranks x y)

module _ {X : Type 0} (key : X → ℕ) (size reached : ℕ) where
  -- the place after x is another segment's
  next_place : (x y : ℕ) → is_place size reached x ≡ true → is_place size reached y ≡ true → x < y → x / size < y / size
  next_place x y h g l = on (cases_lt (x / size) (y / size))
    where
      on : (x / size < y / size) ⊎ (y / size ≤ x / size) → x / size < y / size
      on (inl k) = k
      on (inr k) =
          let p = (place_parts size reached x h).0 in
          let q = (place_parts size reached y g).0 in
          let m : y / size * size ≤ x / size * size = mul-le-mul_right size k in
          absurd (omega arith)

  all_after : (x : X) (xs : List X) → is_place size reached (key x) ≡ true → every (λ y. is_place size reached (key y)) xs ≡ true → every (λ y. is_lt (nat_cmp (key x) (key y))) xs ≡ true → every (λ y. leb (suc (key x / size)) (key y / size)) xs ≡ true
  all_after x [] h g l = refl
  all_after x (y ∷ ys) h g l =
      let gs = and_parts (is_place size reached (key y)) _ g in
      let ls = and_parts (is_lt (nat_cmp (key x) (key y))) _ l in
      and_from _ _ (le-leb _ _ (next_place (key x) (key y) h gs.0 (less_is _ _ ls.0))) (all_after x ys h gs.1 ls.1)

  pub no_more : (from : ℕ) (xs : List X) → from ≤ reached → ascending key nat_cmp xs ≡ true → every (λ y. is_place size reached (key y)) xs ≡ true → every (λ y. leb from (key y / size)) xs ≡ true → length xs + from ≤ reached
  no_more from [] l up h g = omega arith
  no_more from (x ∷ xs) l up h g =
      let hs = and_parts (is_place size reached (key x)) _ h in
      let ups = and_parts (every (λ y. is_lt (nat_cmp (key x) (key y))) xs) _ up in
      let k = (place_parts size reached (key x) hs.0).1 in
      let j = leb-true from (key x / size) (and_parts (leb from (key x / size)) _ g).0 in
      let i = no_more (suc (key x / size)) xs k ups.1 hs.1 (all_after x xs hs.0 hs.1 ups.0) in
      omega arith

  from_start : (xs : List X) → every (λ y. leb 0 (key y / size)) xs ≡ true
  from_start [] = refl
  from_start (x ∷ xs) = and_from _ _ (le-leb 0 (key x / size) (omega arith)) (from_start xs)

  pub at_most : (xs : List X) → ascending key nat_cmp xs ≡ true → every (λ y. is_place size reached (key y)) xs ≡ true → length xs ≤ reached
  at_most xs up h = let i = no_more 0 xs (omega arith) up h (from_start xs) in omega arith

-- ---- freeable rows have LSNs of the ordering, each its own
lsns_within : (xs : List FreeableRow) (rows : List OrderingRow) → ascending ordering_key int_cmp rows ≡ true → ascending freeable_key by_signed xs ≡ true → ((y : FreeableRow) → Has xs y → is_some (find ordering_key int_cmp rows y.lsn) ≡ true) → ((x y : FreeableRow) → Has xs x → Has xs y → x.lsn ≡ y.lsn → x.segment ≡ y.segment) → length xs ≤ length rows
lsns_within [] rows up asc there one = omega arith
lsns_within (x ∷ xs) rows up asc there one =
    let here : Has (x ∷ xs) x = (0, omega arith, λ d. refl) in
    let r = some_of (find ordering_key int_cmp rows x.lsn) (there x here) in
    let less = length_remove ordering_key signed_lawful rows x.lsn r.0 r.1 in
    let ups = and_parts (every (λ y. is_lt (by_signed (freeable_key x) (freeable_key y))) xs) _ asc in
    let on : (y : FreeableRow) → Has xs y → Has (x ∷ xs) y = λ y m. (suc m.0, omega (arith, m.1), m.2) in
    let apart : (y : FreeableRow) → Has xs y → x.lsn ≡ y.lsn → ⊥ =
    λ y m q. less_is_not (every_has (λ y. is_lt (by_signed (freeable_key x) (freeable_key y))) xs y ups.0 m) (rank_same signed_laws (freeable_key x) (freeable_key y) (both x y (one x y here (on y m) q) q)) in
    let i = lsns_within xs (remove_row ordering_key int_cmp rows x.lsn) (ascending_remove ordering_key signed_lawful rows x.lsn up) ups.1
    (λ y m. ap is_some (find_remove_other ordering_key signed_lawful rows x.lsn y.lsn up (apart y m)) ∙ there y (on y m)) (λ y z m n. one y z (on y m) (on z n)) in
    omega arith
  where
    less_is_not : {o : Ordering} → is_lt o ≡ true → o ≡ Equal → ⊥
    less_is_not a e = true≢false (sym a ∙ ap is_lt e)

    both : (x y : FreeableRow) → x.segment ≡ y.segment → x.lsn ≡ y.lsn → freeable_key x ≡ freeable_key y
    both x y p q = λ i. (p i, q i)

freeable_most : (b : Books) → Counting b → length b.freeable ≤ length b.ordering
freeable_most b c =
    lsns_within b.freeable b.ordering c.within.0.ordering c.within.0.freeable
    (λ y m. found (find ordering_key int_cmp b.ordering y.lsn) (h.held y.segment y.lsn (holds y m)).1)
    (λ x y m n q. h.once x.segment y.segment y.lsn (subst (λ l. holds_back b x.segment l ≡ true) q (holds x m)) (holds y n))
  where
    h : Looks b
    h = c.looks

    holds : (y : FreeableRow) → Has b.freeable y → holds_back b y.segment y.lsn ≡ true
    holds y m = ap is_some (has_find freeable_key signed_laws b.freeable y c.within.0.freeable m)

    found : {n : ℕ} (o : Option OrderingRow) → option_map (λ (row : OrderingRow). segment_of b row.offset) o ≡ Some n → is_some o ≡ true
    found None e = let z : ◌≡◌ {A = ℕ} 0 1 = cc in absurd (omega arith)
    found (Some row) e = refl

pub have_room : (b : Books) → Whole b → Rooms b
have_room b w =
    let h = w.counting.within in
    let rows = w.spread.rows in
    let faults = w.spread.faults in
    record {
      free = at_most own_key b.size (length b.segments) b.free h.0.free h.1.free;
      ordering = omega arith;
      freeable = freeable_most b w.counting;
      listed = at_most own_key b.size (length b.segments) b.listed h.0.listed h.1.listed;
      faults = at_most fault_key b.size (length b.segments) b.faults h.0.faults h.1.faults;
      reached = leb-true _ _ h.1.reached;
    }
