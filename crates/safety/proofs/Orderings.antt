-- Start: the ordering has exactly the Active segments, so the recovered books keep the invariant with every Free segment still to be listed.
use Rattle.std.proofs.Common.{◌≡◌, ℕ, zero, suc, ◌+◌, ◌*◌, ◌/◌, ◌<◌, Bool, true, false, cond, not, ◌&&◌, ltb, ◌⊎◌, List, [], ◌∷◌, length, get_or, ℤ, pos, negsuc, nat_abs, is_some, Some, None, Ok, Err, Option, Result, sym, refl, ap, ◌∙◌, subst, inl, inr, mul-div_cancel, arith}
use lib.Signed.{non_neg, le_z}
use Rattle.std.proofs.lemmas.Bool.{cases_eq, eq-eqb, ne_eqb, and_parts, true≢false, ltb-true}
use Rattle.std.proofs.lemmas.List.{get_or_past}
use Rattle.table.specs.Order.{signed_lawful}
use Rattle.table.specs.Rows.{every, find, insert_row, ascending, own_key}
use Rattle.table.proofs.Laws.{ascending_insert}
use Rattle.segment.specs.Rows.{ordering_key, freeable_key, by_signed}
use Rattle.segment.specs.declared.rows.OrderingRow.{OrderingRow}
use Rattle.segment.specs.declared.rows.FreeableRow.{FreeableRow}
use Rattle.segment.specs.declared.state.State.{State}
use Rattle.segment.specs.declared.state.State.TheVariants as is
use Rattle.rules.specs.declared.refusal.Refusal.{Refusal}
use Rattle.rules.specs.declared.refusal.Refusal.TheVariants as no
use Rattle.rules.specs.Books.{Books, unused, state_of, with_ordering}
use Rattle.rules.specs.Recount.{Recount, upd}
use Rattle.rules.specs.Starting.{order_state, order_then, order_all}
use Rattle.safety.proofs.Plain.{Seg, seg_is_free, active, lsn_of, latest, is_none, the, here, mapped, greatest, mem, plain, counted, seen, above}
use Rattle.safety.proofs.Views.{Inv}
use Rattle.safety.proofs.Looks.{number_in, seg_of, on_of, ord_of, keep_of, ord_insert}
use Rattle.safety.proofs.Steps.{Setting, view_of, Plus, Positive, Tallied, Whole}
use Rattle.safety.proofs.Recovers.{Fresh, Raw}
use Rattle.std.specs.Ordering.{nat_cmp, int_cmp}

abbrev Rows : Type 0
Rows = Result (List OrderingRow) Refusal

pub record Out (size k : ℕ) (segs : List State) (acc out : List OrderingRow) : Type 0 where
  pub up : ascending ordering_key int_cmp acc ≡ true → ascending ordering_key int_cmp out ≡ true
  pub keeps : (l n : ℕ) → ord_of size acc l ≡ Some n → ord_of size out l ≡ Some n
  pub enters : (j l : ℕ) → active (seen (get_or segs j unused)) ≡ Some l → ord_of size out l ≡ Some (k + j)
  pub from : (l n : ℕ) → ord_of size out l ≡ Some n → (ord_of size acc l ≡ Some n) ⊎ ((j : ℕ) × (n ≡ k + j) × (active (seen (get_or segs j unused)) ≡ Some l))

rows_same : (a c : List OrderingRow) → ◌≡◌ {A = Rows} (Ok a) (Ok c) → a ≡ c
rows_same a c e = cc

rows_never : {P : Type 0} (x : Refusal) (c : List OrderingRow) → ◌≡◌ {A = Rows} (Err x) (Ok c) → P
rows_never x c e = absurd (let z : ◌≡◌ {A = ℕ} 0 1 = cc in omega arith)

-- a state that is not Active adds nothing
skipped : (size k : ℕ) (s : State) (segs : List State) (acc out : List OrderingRow) → active (seen s) ≡ None → Out size (suc k) segs acc out → Out size k (s ∷ segs) acc out
skipped size k s segs acc out e ih = record {
  up = ih.up;
  keeps = ih.keeps;
  enters = λ j l f. on j l f;
  from = λ l n f. elim (ih.from l n f) [ inl q ↦ inl q | inr q ↦ inr (suc q.0, omega (arith, q.1), q.2) ];
}
  where
    on : (j l : ℕ) → active (seen (get_or (s ∷ segs) j unused)) ≡ Some l → ord_of size out l ≡ Some (k + j)
    on zero l f = absurd (let z : ◌≡◌ {A = ℕ} 0 1 = cc in omega arith)
    on (suc j) l f = ih.enters j l f ∙ ap Some (omega arith)

none_from : (size : ℕ) (acc : List OrderingRow) (l : ℕ) → is_some (find ordering_key int_cmp acc (pos l)) ≡ false → ord_of size acc l ≡ None
none_from size acc l e = on (find ordering_key int_cmp acc (pos l)) e
  where
    on : (o : Option OrderingRow) → is_some o ≡ false → mapped (number_in size) o ≡ None
    on None e = refl
    on (Some x) e = absurd (true≢false e)

keep_upd : (ord : ℕ → Option ℕ) (x k l n : ℕ) → ord x ≡ None → ord l ≡ Some n → upd ord x (Some k) l ≡ Some n
keep_upd ord x k l n e f = grind arith

from_upd : (ord : ℕ → Option ℕ) (x k l n : ℕ) → upd ord x (Some k) l ≡ Some n → (ord l ≡ Some n) ⊎ ((n ≡ k) × (l ≡ x))
from_upd ord x k l n e = on (cases_eq l x)
  where
    on : (l ≡ x) ⊎ (l ≡ x → ⊥) → (ord l ≡ Some n) ⊎ ((n ≡ k) × (l ≡ x))
    on (inl q) = inr (let a : upd ord x (Some k) l ≡ Some k = rw (eq-eqb l x q) refl in let c : Some n ≡ Some k = sym e ∙ a in ap the c, q)
    on (inr q) = inl (let a : upd ord x (Some k) l ≡ ord l = rw (ne_eqb l x q) refl in sym a ∙ e)

entered_row : (size k x : ℕ) (s : State) (segs : List State) (acc out : List OrderingRow) → 0 < size → active (seen s) ≡ Some x → ord_of size acc x ≡ None → Out size (suc k) segs (insert_row ordering_key int_cmp acc (record { lsn = pos x; offset = k * size })) out → Out size k (s ∷ segs) acc out
entered_row size k x s segs acc out sm at new ih =
    let ins : ord_of size (insert_row ordering_key int_cmp acc (record { lsn = pos x; offset = k * size })) ≡ upd (ord_of size acc) x (Some k) = ord_insert size acc x (k * size) ∙ ap (λ z. upd (ord_of size acc) x (Some z)) (mul-div_cancel k sm) in
    record {
      up = λ u. ih.up (ascending_insert ordering_key signed_lawful acc (record { lsn = pos x; offset = k * size }) u);
      keeps = λ l n f. ih.keeps l n (ap (λ (g : ℕ → Option ℕ). g l) ins ∙ keep_upd (ord_of size acc) x k l n new f);
      enters = λ j l f. on ins j l f;
      from = λ l n f. elim (ih.from l n f) [ inl q ↦ elim (from_upd (ord_of size acc) x k l n (sym (ap (λ (g : ℕ → Option ℕ). g l) ins) ∙ q)) [ inl z ↦ inl z | inr z ↦ inr (0, omega (arith, z.0), at ∙ ap Some (sym z.1)) ] | inr q ↦ inr (suc q.0, omega (arith, q.1), q.2) ];
    }
  where
    on : ord_of size (insert_row ordering_key int_cmp acc (record { lsn = pos x; offset = k * size })) ≡ upd (ord_of size acc) x (Some k) → (j l : ℕ) → active (seen (get_or (s ∷ segs) j unused)) ≡ Some l → ord_of size out l ≡ Some (k + j)
    on ins zero l f =
        let q : x ≡ l = ap the (sym at ∙ f) in
        let here : upd (ord_of size acc) x (Some k) x ≡ Some k = rw (eq-eqb x x refl) refl in
        subst (λ z. ord_of size out z ≡ Some (k + 0)) q (ih.keeps x k (ap (λ (g : ℕ → Option ℕ). g x) ins ∙ here) ∙ ap Some (omega arith))
    on ins (suc j) l f = ih.enters j l f ∙ ap Some (omega arith)

pub order_out : (size k : ℕ) (segs : List State) (acc out : List OrderingRow) → 0 < size → ((j : ℕ) → Positive (get_or segs j unused)) → order_all size k segs acc ≡ Ok out → Out size k segs acc out
order_out size k [] acc out sm ps e = subst (λ z. Out size k [] acc z) (rows_same acc out e) (record { up = λ u. u; keeps = λ l n f. f; enters = λ j l f. absurd (let z : ◌≡◌ {A = ℕ} 0 1 = cc in omega arith); from = λ l n f. inl f })
order_out size k (s ∷ segs) acc out sm ps e = on s refl (λ acc2 f. order_out size (suc k) segs acc2 out sm (λ j. ps (suc j)) f) e
  where
    on : (z : State) → s ≡ z → ((acc2 : List OrderingRow) → order_all size (suc k) segs acc2 ≡ Ok out → Out size (suc k) segs acc2 out) → order_then (order_state (k * size) z acc) (order_all size (suc k) segs) ≡ Ok out → Out size k (s ∷ segs) acc out
    on (is.Free f) q ih e = skipped size k s segs acc out (ap (λ z. active (seen z)) q) (ih acc e)
    on (is.Inactive i) q ih e = skipped size k s segs acc out (ap (λ z. active (seen z)) q) (ih acc e)
    on (is.Draining d) q ih e = skipped size k s segs acc out (ap (λ z. active (seen z)) q) (ih acc e)
    on (is.Active a) q ih e = by (is_some (find ordering_key int_cmp acc a.lsn)) refl e
      where
        pl : Plus a.lsn
        pl = (subst Positive q (ps 0)).0

        by : (t : Bool) → is_some (find ordering_key int_cmp acc a.lsn) ≡ t → order_then (cond {A = Rows} t (Err no.SameLsn) (Ok (insert_row ordering_key int_cmp acc (record { lsn = a.lsn; offset = k * size })))) (order_all size (suc k) segs) ≡ Ok out → Out size k (s ∷ segs) acc out
        by true t e = rows_never no.SameLsn out e
        by false t e = entered_row size k (nat_abs a.lsn) s segs acc out sm (ap (λ z. active (seen z)) q) (none_from size acc (nat_abs a.lsn) (ap (λ z. is_some (find ordering_key int_cmp acc z)) (sym pl) ∙ t)) (ih (insert_row ordering_key int_cmp acc (record { lsn = pos (nat_abs a.lsn); offset = k * size })) (ap (λ z. order_all size (suc k) segs (insert_row ordering_key int_cmp acc (record { lsn = z; offset = k * size }))) (sym pl) ∙ e))

-- ---- the invariant, every Free segment still to be listed
abbrev pub waiting_from : Books → ℕ → Bool
waiting_from b n = seg_is_free (seg_of b.segments n) && ltb n (b.tip / b.size)

abbrev pub at_start : Books → (ℤ → Bool) → Setting
at_start b fine = record { waiting = waiting_from b; fine = fine }

fresh_positive : (lsn : ℤ) (s : State) → Plus lsn → Fresh lsn s → Positive s
fresh_positive lsn (is.Free f) p e = subst Rattle.safety.proofs.Steps.PlusOpt (sym e) tt
fresh_positive lsn (is.Active a) p e = (subst Plus (sym e.0) p, subst Plus (sym e.1) refl)
fresh_positive lsn (is.Inactive i) p e = absurd e
fresh_positive lsn (is.Draining d) p e = absurd e

fresh_tallied : (lsn : ℤ) (s : State) (x y : ℕ) → Fresh lsn s → Tallied s x y
fresh_tallied lsn (is.Free f) x y e = tt
fresh_tallied lsn (is.Active a) x y e = tt
fresh_tallied lsn (is.Inactive i) x y e = absurd e
fresh_tallied lsn (is.Draining d) x y e = absurd e

fresh_open : (lsn : ℤ) (s : State) → Fresh lsn s → seg_is_free (seen s) ≡ false → (active (seen s) ≡ Some (nat_abs lsn)) × (lsn_of (seen s) ≡ Some (nat_abs lsn)) × (latest (seen s) ≡ 0)
fresh_open lsn (is.Free f) e n = absurd (true≢false n)
fresh_open lsn (is.Active a) e n = (ap (λ z. Some (nat_abs z)) e.0, ap (λ z. Some (nat_abs z)) e.0, ap nat_abs e.1)
fresh_open lsn (is.Inactive i) e n = absurd e
fresh_open lsn (is.Draining d) e n = absurd e

active_lsn : (s : Seg) (l : ℕ) → active s ≡ Some l → (lsn_of s ≡ Some l) × (seg_is_free s ≡ false)
active_lsn s l e = (grind arith, grind arith)

some_none : {P : Type 0} (o : Option ℕ) (t : ℕ) → o ≡ None → o ≡ Some t → P
some_none o t e f = absurd (let z : ◌≡◌ {A = ℕ} 0 1 = cc in omega arith)

all_waiting : (f l : Bool) → false ≡ (l && (f && (true && not (f && l))))
all_waiting true true = refl
all_waiting true false = refl
all_waiting false true = refl
all_waiting false false = refl

pub ordered_good : (b : Books) (r : Recount) (out : List OrderingRow) (fine : ℤ → Bool) → Raw b r → order_all b.size 0 b.segments b.ordering ≡ Ok out → Whole (with_ordering out b) × Inv (view_of (at_start (with_ordering out b) fine) (with_ordering out b)) (counted r) (λ n. None)
ordered_good b r out fine w e =
    let ps : (m : ℕ) → Positive (state_of b m) = λ m. fresh_positive (r.lsn m) (state_of b m) (w.signs m) (w.fresh m) in
    let o : Out b.size 0 b.segments b.ordering out = order_out b.size 0 b.segments b.ordering out w.some ps e in
    let tips : b.tip / b.size ≡ length b.segments = ap (λ z. z / b.size) w.tip ∙ mul-div_cancel (length b.segments) w.some in
    let fr : (l n : ℕ) → ord_of b.size out l ≡ Some n → active (seg_of b.segments n) ≡ Some l = λ l n f. elim (o.from l n f) [ inl q ↦ some_none (ord_of b.size b.ordering l) n (ap (λ z. ord_of b.size z l) w.ordering) q | inr q ↦ subst (λ z. active (seg_of b.segments z) ≡ Some l) (sym (q.1 ∙ omega arith)) q.2 ] in
    let nokeep : (t l : ℕ) → keep_of b.freeable t l ≡ false = λ t l. ap (λ z. keep_of z t l) w.freeable in
    let none : (n k : ℕ) → mem k (plain (r.noted n)) ≡ false = λ n k. ap (λ z. mem k (plain z)) (w.noted n) in (
      record {
        some = w.some;
        free_up = ap (ascending own_key nat_cmp) w.free;
        ord_up = o.up (ap (ascending ordering_key int_cmp) w.ordering);
        pages_up = w.pages_up;
        keep_up = ap (ascending freeable_key by_signed) w.freeable;
        room = omega (arith, tips);
        tip_even = w.tip ∙ ap (λ z. z * b.size) (sym tips);
        free_even = ap (every (Rattle.safety.proofs.Steps.even b.size)) w.free;
        counts = λ m. fresh_tallied (r.lsn m) (state_of b m) _ _ (w.fresh m);
        signs = ps;
        keep_signs = ap (every (λ (row : FreeableRow). non_neg row.lsn)) w.freeable;
        stored_sign = ap (le_z (negsuc 0)) w.level;
      },
      record {
        exact = λ n. ap (λ z. on_of b.size z n) w.free ∙ all_waiting (seg_is_free (seg_of b.segments n)) (ltb n (b.tip / b.size));
        todo_free = λ n t. (and_parts (seg_is_free (seg_of b.segments n)) (ltb n (b.tip / b.size)) t).0;
        todo_low = λ n t. ltb-true n (b.tip / b.size) (and_parts (seg_is_free (seg_of b.segments n)) (ltb n (b.tip / b.size)) t).1;
        todo_held = λ n t. refl;
        past = λ n l. ap (λ s. seg_is_free (seen s)) (get_or_past b.segments n unused (omega (arith, tips, l)));
        past_held = λ n l. refl;
        ord_seg = λ l n f. (active_lsn (seg_of b.segments n) l (fr l n f)).0;
        seg_ord = λ n f. let q : _ = fresh_open (r.lsn n) (state_of b n) (w.fresh n) f in o.enters n (the (lsn_of (seg_of b.segments n))) (q.0 ∙ ap Some (sym (ap the q.1))) ∙ ap Some (omega arith);
        free_ord = λ l n f g. absurd (true≢false (sym g ∙ (active_lsn (seg_of b.segments n) l (fr l n f)).1));
        shut_low = λ l n f g. absurd (true≢false (sym g ∙ ap is_none (fr l n f)));
        held_free = λ n t f. some_none None t refl f;
        held_by = λ n t f. some_none None t refl f;
        held_ord = λ n t f. some_none None t refl f;
        held_keep = λ n t f. some_none None t refl f;
        keep_ord = λ t l f. absurd (true≢false (sym f ∙ nokeep t l));
        keep_held = λ t l f. absurd (true≢false (sym f ∙ nokeep t l));
        rows = w.rows;
        empty = λ n p f. ap here (w.bare n p f);
        bare = λ n p f g. w.bare n p f;
        newest = λ n f. (fresh_open (r.lsn n) (state_of b n) (w.fresh n) f).2 ∙ sym (ap (λ z. greatest (plain z)) (w.noted n));
        noted = λ n k f g. absurd (true≢false (sym f ∙ none n k));
        safe = λ n k f g x. absurd (true≢false (sym x ∙ none n k));
        same_lsn = λ n f. (fresh_open (r.lsn n) (state_of b n) (w.fresh n) f).1;
        same_stored = ap above w.stored ∙ sym (ap above w.level);
      },
    )
