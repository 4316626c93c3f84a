-- Segments enter the ordering in turn: those that are left make the ordering that all of them make.
use Rattle.std.proofs.Common.{◌≡◌, ℕ, suc, ◌+◌, ◌*◌, ◌^◌, ◌<◌, ◌≤◌, false, cond, List, length, get_or, drop, ℤ, is_some, None, Ok, Err, Result, sym, ap, ◌∙◌, mul-le-mul, add-one, arith}
use Rattle.std.proofs.lemmas.List.{at_drop_more, at_drop_all, get_or-map}
use Rattle.std.proofs.lemmas.Bool.{leb-true}
use Rattle.table.specs.Order.{signed_lawful}
use Rattle.table.specs.Rows.{find, insert_row}
use Rattle.table.proofs.Laws.{length_insert_new}
use Rattle.segment.specs.Rows.{ordering_key}
use Rattle.segment.specs.declared.rows.OrderingRow.{OrderingRow}
use Rattle.segment.specs.declared.segment.Segment.{Segment}
use Rattle.segment.specs.declared.state.Active.{Active}
use Rattle.segment.specs.declared.state.State.{State}
use Rattle.segment.specs.declared.state.State.TheVariants as is
use Rattle.rules.specs.declared.refusal.Refusal.{Refusal}
use Rattle.rules.specs.declared.refusal.Refusal.TheVariants as no
use Rattle.rules.specs.Books.{Books, unused}
use Rattle.rules.specs.Starting.{order_state, order_then, order_all}
use Rattle.orders.specs.Within.{Within}
use Rattle.ledger.specs.States.{states}
use Rattle.recovery.proofs.PlanParts.{tip_fits}
use Rattle.std.specs.Ordering.{int_cmp}

-- an Active segment whose LSN is new
pub enters : (offset : ℕ) (s : State) (a : Active) (rows more : List OrderingRow) (lsn : ℤ) → lsn ≡ a.lsn → s ≡ is.Active a → find ordering_key int_cmp rows lsn ≡ None → more ≡ insert_row ordering_key int_cmp rows (record { lsn = lsn; offset = offset }) → Ok more ≡ order_state offset s rows
enters offset s a rows more lsn e q none h =
    let new : is_some (find ordering_key int_cmp rows a.lsn) ≡ false = ap is_some (ap (find ordering_key int_cmp rows) (sym e) ∙ none) in
    let put : List OrderingRow = insert_row ordering_key int_cmp rows (record { lsn = a.lsn; offset = offset }) in
    let here : Ok put ≡ order_state offset (is.Active a) rows = sym (ap (λ t. cond {A = Result (List OrderingRow) Refusal} t (Err no.SameLsn) (Ok put)) new) in
    ap Ok (h ∙ ap (λ z. insert_row ordering_key int_cmp rows (record { lsn = z; offset = offset })) e) ∙ (here ∙ ap (λ x. order_state offset x rows) (sym q))

-- there is room for one row more
pub room_for : (offset limit : ℕ) (rows : List OrderingRow) (lsn : ℤ) → find ordering_key int_cmp rows lsn ≡ None → length rows < limit → length (insert_row ordering_key int_cmp rows (record { lsn = lsn; offset = offset })) ≤ limit
room_for offset limit rows lsn none l = let one = length_insert_new ordering_key signed_lawful rows (record { lsn = lsn; offset = offset }) none in omega arith

pub one_more : (offset : ℕ) (rows more : List OrderingRow) (lsn : ℤ) → find ordering_key int_cmp rows lsn ≡ None → more ≡ insert_row ordering_key int_cmp rows (record { lsn = lsn; offset = offset }) → length more ≤ length rows + 1
one_more offset rows more lsn none e = let one = ap length e ∙ length_insert_new ordering_key signed_lawful rows (record { lsn = lsn; offset = offset }) none in omega arith

pub state_read : (segments : List Segment) (n : ℕ) (s : Segment) → n < length segments → (get_or segments n s).state ≡ get_or (states segments) n unused
state_read segments n s l = sym (get_or-map (λ x. x.state) segments n s unused l)

module _ (size n : ℕ) (all : List State) (rows : List OrderingRow) (made : Result (List OrderingRow) Refusal) (inv : order_all size n (drop n all) rows ≡ made) where
  step : n < length all → order_all size n (drop n all) rows ≡ order_then (order_state (n * size) (get_or all n unused) rows) (order_all size (n + 1) (drop (n + 1) all))
  step l =
      let one : order_all size n (drop n all) rows ≡ order_then (order_state (n * size) (get_or all n unused) rows) (order_all size (suc n) (drop (n + 1) all)) = at_drop_more (λ rest. order_all size n rest rows) all n unused l in
      one ∙ ap (λ k. order_then (order_state (n * size) (get_or all n unused) rows) (order_all size k (drop (n + 1) all))) (sym (add-one n))

  pub order_more : (more : List OrderingRow) → n < length all → Ok more ≡ order_state (n * size) (get_or all n unused) rows → order_all size (n + 1) (drop (n + 1) all) more ≡ made
  order_more more l e = ap (λ o. order_then o (order_all size (n + 1) (drop (n + 1) all))) e ∙ (sym (step l) ∙ inv)

  pub order_stop : (r : Refusal) → n < length all → Err r ≡ order_state (n * size) (get_or all n unused) rows → Err r ≡ made
  order_stop r l e = ap (λ o. order_then o (order_all size (n + 1) (drop (n + 1) all))) e ∙ (sym (step l) ∙ inv)

  pub order_end : length all ≤ n → Ok rows ≡ made
  order_end l = sym (at_drop_all (λ rest. order_all size n rest rows) all n l) ∙ inv

-- ---- room and range
pub offset_fits : (n count size : ℕ) → n < count → count * size < 2 ^ 64 → n * size < 2 ^ 64
offset_fits n count size l h = let k : n * size ≤ count * size = mul-le-mul (omega arith) (omega arith) in omega arith

pub end_fits : (b : Books) → Within b → length b.segments * b.size < 2 ^ 64
end_fits b w = tip_fits b.size (length b.segments) w.size (leb-true _ _ w.reached)
