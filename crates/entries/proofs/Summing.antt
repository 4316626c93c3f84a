-- Rows of sums read as pairs are the rules' sums: putting in a row adds a size.
use Rattle.std.proofs.Common.{◌≡◌, ℕ, ◌+◌, ◌*◌, ◌^◌, ◌<◌, ◌≤◌, Bool, true, false, not, ltb, leb, List, [], ◌∷◌, length, get_or, drop, Some, None, Ordering, Less, Equal, Greater, sym, refl, ap, ◌∙◌, subst, arith}
use Rattle.std.specs.Cmp.{ranks}
use Rattle.std.specs.Ordering.{MatchOrdering, nat_cmp}
use Rattle.std.proofs.lemmas.List.{drop_more}
use Rattle.std.proofs.lemmas.Bool.{and_parts, le-leb, leb-true, lt-ltb, le-ltb, ltb-false, not-true, cond-true, cond-false}
use Rattle.table.specs.Rows.{by, every, find, insert_row}
use Rattle.table.proofs.Orders.{every_at}
use Rattle.segment.specs.declared.cache_info.CacheInfo.{CacheInfo}
use Rattle.rules.specs.Books.{Books}
use Rattle.rules.specs.Links.{info_segment, too_large}
use Rattle.rules.specs.Replacing.{add_size, sums_onto, sums_of}
use Rattle.orders.proofs.Every.{every_insert, every_weaker}
use Rattle.entries.specs.declared.sums.SumRow.{SumRow}
use Rattle.entries.specs.SumKeys.{sum_key, sum_row}
use Rattle.entries.specs.Sums.{pairs, size_in}
use Rattle.entries.proofs.Lengths.{length_insert}

pub added_pairs : (n size v : ℕ) (rows : List SumRow) → size_in (find sum_key nat_cmp rows n) + size ≡ v → pairs (insert_row sum_key nat_cmp rows (sum_row n v)) ≡ add_size n size (pairs rows)
added_pairs n size v [] e = let f : v ≡ size = omega arith in ap (λ (m : ℕ). (n, m) ∷ []) f
added_pairs n size v (x ∷ xs) e = on (nat_cmp x.segment n) refl (ranks x.segment n) e (added_pairs n size v xs)
  where
    on : (o : Ordering) → nat_cmp x.segment n ≡ o → MatchOrdering o (x.segment < n) (x.segment ≡ n) (n < x.segment) → size_in (by o (find sum_key nat_cmp xs n) (Some x) None) + size ≡ v → (size_in (find sum_key nat_cmp xs n) + size ≡ v → pairs (insert_row sum_key nat_cmp xs (sum_row n v)) ≡ add_size n size (pairs xs)) → pairs (by o (x ∷ insert_row sum_key nat_cmp xs (sum_row n v)) (sum_row n v ∷ xs) (sum_row n v ∷ (x ∷ xs))) ≡ add_size n size (pairs (x ∷ xs))
    on Less q r f ih = ap (λ l. (x.segment, x.size) ∷ l) (ih f) ∙ sym (cond-true (ltb x.segment n) _ _ (lt-ltb x.segment n r))
    on Equal q r f ih =
        let a : ltb x.segment n ≡ false = le-ltb x.segment n (omega arith) in
        let b : ltb n x.segment ≡ false = le-ltb n x.segment (omega arith) in
        ap (λ (m : ℕ). (n, m) ∷ pairs xs) (sym f) ∙ sym (cond-false (ltb x.segment n) _ _ a ∙ cond-false (ltb n x.segment) _ _ b)
    on Greater q r f ih =
        let a : ltb x.segment n ≡ false = le-ltb x.segment n (omega arith) in
        let g : v ≡ size = omega arith in
        ap (λ (m : ℕ). (n, m) ∷ pairs (x ∷ xs)) g ∙ sym (cond-false (ltb x.segment n) _ _ a ∙ cond-true (ltb n x.segment) _ _ (lt-ltb n x.segment r))

pub found_below : (n bound : ℕ) (rows : List SumRow) → every (λ row. leb row.size bound) rows ≡ true → size_in (find sum_key nat_cmp rows n) ≤ bound
found_below n bound [] h = omega arith
found_below n bound (x ∷ xs) h =
    let hs = and_parts (leb x.size bound) (every (λ row. leb row.size bound) xs) h in
    on (nat_cmp x.segment n) (leb-true _ _ hs.0) (found_below n bound xs hs.1)
  where
    on : (o : Ordering) → x.size ≤ bound → size_in (find sum_key nat_cmp xs n) ≤ bound → size_in (by o (find sum_key nat_cmp xs n) (Some x) None) ≤ bound
    on Less l ih = ih
    on Equal l ih = l
    on Greater l ih = omega arith

-- after i of the old entries: what is left gives the sums, and there are few rows of small sums
abbrev pub Summed : Books → List CacheInfo → ℕ → List SumRow → Type 0
Summed b olds i rows = (sums_onto b (drop i olds) (pairs rows) ≡ sums_of b olds) × (length rows ≤ i) × (every (λ row. leb row.size (i * 4294967295)) rows ≡ true)

abbrev pub small : CacheInfo → Bool
small old = not (too_large old.log_size)

pub old_small : (olds : List CacheInfo) (i : ℕ) (d : CacheInfo) → every small olds ≡ true → i < length olds → (get_or olds i d).log_size ≤ 4294967295
old_small olds i d h l = ltb-false _ _ (not-true _ (every_at small olds i d h l))

abbrev with_old : Books → CacheInfo → List SumRow → List SumRow
with_old b old rows = insert_row sum_key nat_cmp rows (sum_row (info_segment b old) (size_in (find sum_key nat_cmp rows (info_segment b old)) + old.log_size))

-- the next sum is a number of 64 bits
pub summed_fits : (b : Books) (olds : List CacheInfo) (i : ℕ) (d : CacheInfo) (rows : List SumRow) → length olds ≤ 256 → every small olds ≡ true → i < length olds → Summed b olds i rows → size_in (find sum_key nat_cmp rows (info_segment b (get_or olds i d))) + (get_or olds i d).log_size < 2 ^ 64
summed_fits b olds i d rows few h l s =
    let f = found_below (info_segment b (get_or olds i d)) (i * 4294967295) rows s.2 in
    let k = old_small olds i d h l in
    omega arith

pub summed_more : (b : Books) (olds : List CacheInfo) (i : ℕ) (d : CacheInfo) (rows after : List SumRow) → every small olds ≡ true → i < length olds → Summed b olds i rows → after ≡ with_old b (get_or olds i d) rows → Summed b olds (i + 1) after
summed_more b olds i d rows after h l (s0, s1, s2) e =
    let old : CacheInfo = get_or olds i d in
    let n : ℕ = info_segment b old in
    let k = old_small olds i d h l in
    let f = found_below n (i * 4294967295) rows s2 in
    let m = length_insert sum_key nat_cmp rows (sum_row n (size_in (find sum_key nat_cmp rows n) + old.log_size)) in
    let more : (i + 1) * 4294967295 ≡ i * 4294967295 + 4294967295 = omega arith in
    subst (Summed b olds (i + 1)) (sym e) (
      ap (sums_onto b (drop (i + 1) olds)) (added_pairs n old.log_size _ rows refl) ∙ (sym (ap (λ os. sums_onto b os (pairs rows)) (drop_more olds i d l)) ∙ s0),
      omega arith,
      every_insert (λ row. leb row.size ((i + 1) * 4294967295)) sum_key nat_cmp rows _ (le-leb _ _ (omega arith)) (every_weaker (λ row. leb row.size (i * 4294967295)) _ rows (λ row g. let q = leb-true _ _ g in le-leb _ _ (omega arith)) s2),
    )
