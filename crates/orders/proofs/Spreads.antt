-- What joins the free list leaves the ordering, and what is handed out goes back; a cut takes one from the free list and one from the tip.
use Rattle.std.proofs.Common.{◌≡◌, ℕ, suc, ◌+◌, ◌-◌, ◌*◌, ◌/◌, ◌<◌, ◌≤◌, Bool, true, false, not, eqb, ltb, List, [], ◌∷◌, length, ℤ, is_some, Some, None, Ok, Err, Option, sym, refl, ap, ◌∙◌, true≢false, mul-div_cancel, arith}
use Rattle.std.specs.Option.{option_map}
use Rattle.std.proofs.lemmas.Bool.{and_parts, eqb-false, not-true}
use Rattle.table.specs.Order.{unsigned_lawful, signed_lawful}
use Rattle.table.specs.Rows.{find, insert_row, remove_row, own_key}
use Rattle.table.proofs.Laws.{length_insert_new, length_insert_old, length_remove}
use Rattle.host.specs.Meaning.{Answer, code_of, layer_of}
use Rattle.segment.specs.Rows.{ordering_key, fault_key}
use Rattle.segment.specs.declared.rows.FaultRow.{FaultRow}
use Rattle.segment.specs.declared.rows.OrderingRow.{OrderingRow}
use Rattle.segment.specs.declared.state.State.{State}
use Rattle.segment.specs.declared.state.State.TheVariants as is
use Rattle.rules.specs.Books.{Books, state_of, offset_of}
use Rattle.rules.specs.Freeing.{without_lsn, unordered, put_free, is_free_offset, can_cut, remembered, lowered}
use Rattle.rules.specs.Stabilizing.{is_free}
use Rattle.rules.specs.HandingOut.{in_use, risen, rest_of, handed_out}
use Rattle.orders.specs.Within.{Within}
use Rattle.orders.specs.Looks.{label, ordered_at, offers, Looks}
use Rattle.orders.specs.Spread.{Spread}
use Rattle.orders.proofs.Every.{end_parts, suc_times, last_place}
use Rattle.orders.proofs.Bounds.{size_positive}
use Rattle.std.specs.Ordering.{nat_cmp, int_cmp}

pub some_of : {X : Type 0} (o : Option X) → is_some o ≡ true → (x : X) × (o ≡ Some x)
some_of None h = absurd (true≢false (sym h))
some_of (Some x) h = (x, refl)

pub none_of : {X : Type 0} (o : Option X) → is_some o ≡ false → o ≡ None
none_of None h = refl
none_of (Some x) h = absurd (true≢false h)

mapped_some : {X Y : Type 0} (f : X → Y) (o : Option X) (y : Y) → option_map f o ≡ Some y → (x : X) × (o ≡ Some x)
mapped_some f None y e = let z : ◌≡◌ {A = ℕ} 0 1 = cc in absurd (omega arith)
mapped_some f (Some x) y e = (x, refl)

one_less : (rows : List OrderingRow) (s : State) (lsn : ℤ) (row : OrderingRow) → is_free s ≡ true → label s ≡ Some lsn → find ordering_key int_cmp rows lsn ≡ Some row → length (unordered s rows) + 1 ≡ length rows
one_less rows (is.Free f) lsn row h e g = ap (λ o. length (without_lsn o rows) + 1) e ∙ length_remove ordering_key signed_lawful rows lsn row g
one_less rows (is.Active a) lsn row h e g = absurd (true≢false (sym h))
one_less rows (is.Inactive i) lsn row h e g = absurd (true≢false (sym h))
one_less rows (is.Draining d) lsn row h e g = absurd (true≢false (sym h))

-- a segment in the ordering is not on the free list
pub not_offered : (n : ℕ) (lsn : ℤ) (b : Books) → ordered_at b lsn ≡ Some n → Looks b → find own_key nat_cmp b.free (offset_of b n) ≡ None
not_offered n lsn b p h = on (offers b n) refl
  where
    on : (t : Bool) → offers b n ≡ t → find own_key nat_cmp b.free (offset_of b n) ≡ None
    on true e = absurd (h.apart n lsn e p)
    on false e = none_of _ e

pub freed_spread : (n : ℕ) (lsn : ℤ) (b : Books) → is_free (state_of b n) ≡ true → label (state_of b n) ≡ Some lsn → ordered_at b lsn ≡ Some n → Looks b → Spread b → Spread (put_free n b)
freed_spread n lsn b f e p h s =
    let r = mapped_some _ (find ordering_key int_cmp b.ordering lsn) n p in
    let less = one_less b.ordering (state_of b n) lsn r.0 f e r.1 in
    let more = length_insert_new own_key unsigned_lawful b.free (offset_of b n) (not_offered n lsn b p h) in
    let rows = s.rows in
    record { rows = omega arith; faults = s.faults }

pub remembered_most : (offset : ℕ) (a : Answer) (rows : List FaultRow) → length (remembered offset a rows) ≤ length rows + 1
remembered_most offset (Ok u) rows = omega arith
remembered_most offset (Err e) rows = on (find fault_key nat_cmp rows offset) refl
  where
    row : FaultRow
    row = record { offset = offset; code = code_of e; layer = layer_of e }

    on : (o : Option FaultRow) → find fault_key nat_cmp rows offset ≡ o → length (insert_row fault_key nat_cmp rows (record { offset = offset; code = code_of e; layer = layer_of e })) ≤ length rows + 1
    on None g = let l = length_insert_new fault_key unsigned_lawful rows row g in omega arith
    on (Some x) g = let l = length_insert_old fault_key unsigned_lawful rows row x g in omega arith

pub last_below : (b : Books) → can_cut b ≡ true → Within b → (last : ℕ) × (suc last ≡ b.tip / b.size) × ((b.tip - b.size) / b.size ≡ last)
last_below b c w =
    let t = end_parts b.size (length b.segments) b.tip w.tip in
    let nonzero = eqb-false b.tip 0 (not-true _ (and_parts (not (eqb b.tip 0)) _ c).0) in
    let k = last_place (b.tip / b.size) b.size b.tip t.0 nonzero in
    (k.0, k.1, ap (λ x. x / b.size) k.2 ∙ mul-div_cancel k.0 (size_positive b w))

-- one offset less on the list
pub cut_less : (b : Books) → can_cut b ≡ true → length (remove_row own_key nat_cmp b.free (b.tip - b.size)) + 1 ≡ length b.free
cut_less b c =
    let is_on = (and_parts (ltb 1 (length b.free)) (is_free_offset b (b.tip - b.size)) (and_parts (not (eqb b.tip 0)) _ c).1).1 in
    let x = some_of (find own_key nat_cmp b.free (b.tip - b.size)) is_on in
    length_remove own_key unsigned_lawful b.free (b.tip - b.size) x.0 x.1

pub lowered_spread : (b : Books) (a : Answer) → can_cut b ≡ true → Within b → Spread b → Spread (lowered b a)
lowered_spread b a c w s =
    let k = last_below b c w in
    let k1 = k.1 in
    let k2 = k.2 in
    let less = cut_less b c in
    let most = remembered_most (b.tip - b.size) a b.faults in
    let rows = s.rows in
    let faults = s.faults in
    record { rows = omega arith; faults = omega arith }

pub least_spread : (lsn : ℤ) (offset : ℕ) (rest : List ℕ) (b : Books) → in_use b lsn ≡ false → b.free ≡ offset ∷ rest → length b.segments ≤ length (handed_out lsn offset b).segments → Spread b → Spread (handed_out lsn offset b)
least_spread lsn offset rest b i e l s =
    let more = length_insert_new ordering_key signed_lawful b.ordering (record { lsn = lsn; offset = offset }) (none_of _ i) in
    let tip : risen b.free b.tip b.size ≡ b.tip = ap (λ x. risen x b.tip b.size) e in
    let same : risen b.free b.tip b.size / b.size ≡ b.tip / b.size = ap (λ x. x / b.size) tip in
    let free : length b.free ≡ suc (length rest) = ap length e in
    let left : length (rest_of b.free) ≡ length rest = ap (λ x. length (rest_of x)) e in
    let rows = s.rows in
    let faults = s.faults in
    record { rows = omega arith; faults = omega arith }

pub tip_spread : (lsn : ℤ) (b : Books) → in_use b lsn ≡ false → b.free ≡ [] → b.faults ≡ [] → b.tip / b.size < length (handed_out lsn b.tip b).segments → Within b → Spread b → Spread (handed_out lsn b.tip b)
tip_spread lsn b i e f l w s =
    let t = end_parts b.size (length b.segments) b.tip w.tip in
    let more = length_insert_new ordering_key signed_lawful b.ordering (record { lsn = lsn; offset = b.tip }) (none_of _ i) in
    let grown : risen b.free b.tip b.size ≡ suc (b.tip / b.size) * b.size = ap (λ x. risen x b.tip b.size) e ∙ (ap (λ m. m + b.size) (sym t.0) ∙ sym (suc_times (b.tip / b.size) b.size)) in
    let next : risen b.free b.tip b.size / b.size ≡ suc (b.tip / b.size) = ap (λ x. x / b.size) grown ∙ mul-div_cancel (suc (b.tip / b.size)) (size_positive b w) in
    let free : length b.free ≡ 0 = ap length e in
    let left : length (rest_of b.free) ≡ 0 = ap (λ x. length (rest_of x)) e in
    let none : length b.faults ≡ 0 = ap length f in
    let rows = s.rows in
    record { rows = omega arith; faults = omega arith }
