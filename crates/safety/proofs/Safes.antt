-- From what holds between calls to the parts of what is promised of a call.
use Rattle.std.proofs.Common.{◌≡◌, ℕ, zero, suc, ◌*◌, ◌/◌, ◌<◌, ◌≤◌, Bool, true, false, cond, ◌&&◌, T, ltb, leb, ◌⊎◌, List, [], ◌∷◌, ℤ, pos, negsuc, nat_abs, ◌≤ℤ◌, is_some, Some, None, Ok, Err, Option, Result, Ordering, Less, Equal, Greater, sym, refl, ap, ◌∙◌, subst, inl, inr, lt_of_mul-lt-mul_right, mul-lt-mul_of_pos_right, arith}
use lib.Signed.{le_z, non_neg, le_z_yes}
use Rattle.std.specs.Cmp.{ranks}
use Rattle.std.specs.Ordering.{is_le, MatchOrdering, nat_cmp}
use Rattle.std.specs.List.{ContainsAt as Has}
use Rattle.std.proofs.lemmas.Bool.{cases_eq, cases_lt, eq-eqb, eqb-true, and_parts, and_from, true≢false, not-true, ltb-true, lt-ltb, leb-true, or_cases}
use Rattle.table.specs.Order.{unsigned_lawful}
use Rattle.table.specs.Rows.{every, find, ascending, own_key}
use Rattle.table.proofs.Ends.{first_least}
use Rattle.table.proofs.Laws.{has_find, find_has, find_key}
use Rattle.table.proofs.Orders.{every_has}
use Rattle.host.specs.Meaning.{Answer, asked_cut, asked_remove}
use Rattle.host.specs.declared.request.Request.{Request}
use Rattle.segment.specs.Signs.{same_z}
use Rattle.segment.specs.declared.rows.FaultRow.{FaultRow}
use Rattle.segment.specs.declared.state.State.{State}
use Rattle.segment.specs.declared.state.State.TheVariants as is
use Rattle.rules.specs.declared.refusal.Refusal.{Refusal}
use Rattle.rules.specs.declared.refusal.Refusal.TheVariants as no
use Rattle.rules.specs.Books.{Books, state_of}
use Rattle.rules.specs.Calls as call
use Rattle.rules.specs.HandingOut.{unaligned, in_use, at_tip, offered, handed_out, next_by, next_at, cut_fault}
use Rattle.rules.specs.Links.{out_of_range}
use Rattle.rules.specs.Recount.{Recount}
use Rattle.rules.specs.Runs.{Next, Gave, Refused, replied, reply, Log, recorded}
use Rattle.rules.specs.Safety.{BytesTrue, LiveBytesAreTrue, FreeListIsExact, LeastIsAnswered, Emptied, GivenUp, WithBooks}
use Rattle.safety.proofs.Plain.{seg_is_free, is_none, mem, plain, above}
use Rattle.safety.proofs.Views.{Holders}
use Rattle.safety.proofs.Looks.{seg_of, on_of}
use Rattle.safety.proofs.Steps.{Whole, even, clear}
use Rattle.safety.proofs.Frames.{Weighs}
use Rattle.safety.proofs.Accepts.{Sound, Accepted, or_none, link_accepted, replace_accepted}
use Rattle.safety.proofs.Holding.{at_none, none_held, free_is}
use Rattle.safety.proofs.Calls.{fine_in, fine_of, Kept, Quiet, Along, Cleared}
use Rattle.safety.proofs.Hands.{Offered, offer_tip, offer_first}
use Rattle.safety.proofs.Ever.{ran}

-- ---- live bytes
weighs_true : (live : ℤ) (s : State) → Weighs live s → BytesTrue live s
weighs_true live (is.Free f) w = tt
weighs_true live (is.Active a) w = w.1
weighs_true live (is.Inactive i) w = w
weighs_true live (is.Draining d) w = tt

pub bytes_true : (ob : Option Books) (r : Recount) (holds : ℕ → ℕ → Bool) → Along ob r holds → WithBooks ob (λ b. LiveBytesAreTrue b r)
bytes_true None r holds a = tt
bytes_true (Some b) r holds a = λ n. weighs_true (r.live n) (state_of b n) (a.sound.bytes n)

-- ---- the free list
module _ (b : Books) (r : Recount) (holds : ℕ → ℕ → Bool) (k : Kept b r holds) where
  w : Whole b
  w = k.sound.whole

  even_of : (offset : ℕ) → Has b.free offset → offset ≡ offset / b.size * b.size
  even_of offset h = eqb-true offset (offset / b.size * b.size) (every_has (even b.size) b.free offset w.free_even h)

  listed : (offset : ℕ) → Has b.free offset → (ltb (offset / b.size) (b.tip / b.size) ≡ true) × (seg_is_free (seg_of b.segments (offset / b.size)) ≡ true) × (is_none (k.now (offset / b.size)) ≡ true)
  listed offset h =
      let n : ℕ = offset / b.size in
      let on : on_of b.size b.free n ≡ true = ap (λ o. is_some (find own_key nat_cmp b.free o)) (sym (even_of offset h)) ∙ ap is_some (has_find own_key unsigned_lawful b.free offset w.free_up h) in
      let p : _ = and_parts (ltb n (b.tip / b.size)) (seg_is_free (seg_of b.segments n) && (is_none (k.now n) && true)) (sym (k.sound.inv.exact n) ∙ on) in
      let q : _ = and_parts (seg_is_free (seg_of b.segments n)) (is_none (k.now n) && true) p.1 in
      (p.0, q.0, (and_parts (is_none (k.now n)) true q.1).0)

  some_has : (free : List ℕ) (o : ℕ) (x : Option ℕ) → find own_key nat_cmp free o ≡ x → is_some x ≡ true → Has free o
  some_has free o None e f = absurd (true≢false (sym f))
  some_has free o (Some y) e f = subst (λ z. Has free z) (find_key own_key unsigned_lawful free o y e) (find_has own_key unsigned_lawful free o y e)

  pub list_exact : FreeListIsExact b holds
  list_exact = record {
    ascends = w.free_up;
    whole = even_of;
    below = λ offset h. subst (λ o. o < b.tip) (sym (even_of offset h)) (subst (λ t. offset / b.size * b.size < t) (sym w.tip_even) (mul-lt-mul_of_pos_right (ltb-true (offset / b.size) (b.tip / b.size) (listed offset h).0) w.some));
    unused = λ offset h. free_is (state_of b (offset / b.size)) ∙ (listed offset h).1;
    unheld = λ offset t h. k.linked (offset / b.size) t ∙ at_none (k.now (offset / b.size)) t (listed offset h).2;
    all = λ n low fr un.
        let l : n < b.tip / b.size = lt_of_mul-lt-mul_right b.size (subst (λ t. n * b.size < t) w.tip_even low) in
        some_has b.free (n * b.size) (find own_key nat_cmp b.free (n * b.size)) refl
        (k.sound.inv.exact n ∙ and_from (ltb n (b.tip / b.size)) _ (lt-ltb n (b.tip / b.size) l) (and_from (seg_is_free (seg_of b.segments n)) _ (sym (free_is (state_of b n)) ∙ fr) (and_from (is_none (k.now n)) true (none_held (k.now n) (λ t. sym (k.linked n t) ∙ un t)) refl)));
  }

pub free_exact : (ob : Option Books) (r : Recount) (holds : ℕ → ℕ → Bool) → Along ob r holds → WithBooks ob (λ b. FreeListIsExact b holds)
free_exact None r holds a = tt
free_exact (Some b) r holds a = list_exact b r holds a

-- ---- nothing lies in a segment that is Free and unheld, and its replacements are stable
plain_mem : (base : ℤ) (xs : List ℤ) → Has xs base → mem (nat_abs base) (plain xs) ≡ true
plain_mem base [] (i, l, at) = absurd (omega arith)
plain_mem base (x ∷ xs) (zero, l, at) = subst (λ z. mem (nat_abs base) (nat_abs z ∷ plain xs) ≡ true) (sym (at x)) (first (nat_abs base) (plain xs))
  where
    first : (n : ℕ) (ns : List ℕ) → mem n (n ∷ ns) ≡ true
    first n ns = grind arith
plain_mem base (x ∷ xs) (suc i, l, at) = later (nat_abs base) (nat_abs x) (plain xs) (plain_mem base xs (i, omega arith, at))
  where
    later : (n m : ℕ) (ns : List ℕ) → mem n ns ≡ true → mem n (m ∷ ns) ≡ true
    later n m ns e = grind arith

stable_le : (base stored : ℤ) → non_neg base ≡ true → nat_abs base < above stored → base ≤ℤ stored
stable_le (pos k) (pos s) e l = le_z_yes (subst T (sym (Rattle.std.proofs.lemmas.Bool.le-leb k s (omega arith))) tt)
stable_le (pos k) (negsuc s) e l = absurd (omega arith)
stable_le (negsuc k) stored e l = absurd (true≢false (sym e))

pub emptied : (b : Books) (r : Recount) (h : Holders) → Sound b r h → (n : ℕ) → seg_is_free (seg_of b.segments n) ≡ true → is_none (h n) ≡ true → Emptied r n
emptied b r h s n fr un = record {
  left = λ p. s.inv.rows n p ∙ s.inv.empty n p fr;
  stable = λ base hb. stable_le base r.stored (every_has non_neg (r.noted n) base (s.noted_signs n) hb) (subst (λ z. nat_abs base < z) (sym s.inv.same_stored) (s.inv.safe n (nat_abs base) fr un (plain_mem base (r.noted n) hb)));
}

quiet_emptied : (r : Recount) (holds : ℕ → ℕ → Bool) → Quiet r holds → (n : ℕ) → Emptied r n
quiet_emptied r holds q n = record { left = q.lies n; stable = λ base hb. absurd (no_has base (subst (λ l. Has l base) (q.noted n) hb)) }
  where
    no_has : (base : ℤ) → Has [] base → ⊥
    no_has base (i, l, at) = omega arith

-- ---- the log
pub cut_safe : (ob : Option Books) (r : Recount) (holds : ℕ → ℕ → Bool) (log : Log) → Along ob r holds → Cleared ob r log → (offset n : ℕ) → Has log (asked_cut offset, Ok tt) → offset ≤ n * r.size → Emptied r n
cut_safe None r holds log a cl offset n h l = quiet_emptied r holds a n
cut_safe (Some b) r holds log a cl offset n h l =
    let t : b.tip ≤ offset = leb-true b.tip offset (every_has (clear (fine_of r) b.tip) log (asked_cut offset, Ok tt) cl h) in
    let u : b.tip / b.size * b.size ≤ n * b.size = subst (λ z. z ≤ n * b.size) a.sound.whole.tip_even (subst (λ z. b.tip ≤ n * z) a.sound.size (omega arith)) in
    let v : b.tip / b.size ≤ n = elim (cases_lt n (b.tip / b.size)) [ inl q ↦ absurd (let z : n * b.size < b.tip / b.size * b.size = mul-lt-mul_of_pos_right q a.sound.whole.some in omega arith) | inr q ↦ q ] in
    emptied b r a.now a.sound n (a.sound.inv.past n v) (a.sound.inv.past_held n v)

same_true : (a c : ℤ) → same_z a c ≡ true → a ≡ c
same_true = Rattle.safety.proofs.Accepts.same_true

fine_back : (stored : ℤ) (given : List (ℤ × ℤ)) (blob : ℤ) → fine_in stored given blob ≡ true → (base : ℤ) × Has given (blob, base) × (base ≤ℤ stored)
fine_back stored [] blob e = absurd (true≢false (sym e))
fine_back stored (x ∷ xs) blob e = on (fine_back stored xs blob) (or_cases (same_z x.0 blob && le_z x.1 stored) (fine_in stored xs blob) e)
  where
    on : (fine_in stored xs blob ≡ true → (base : ℤ) × Has xs (blob, base) × (base ≤ℤ stored)) → ((same_z x.0 blob && le_z x.1 stored) ≡ true) ⊎ (fine_in stored xs blob ≡ true) → (base : ℤ) × Has (x ∷ xs) (blob, base) × (base ≤ℤ stored)
    on ih (inl q) =
        let p : _ = and_parts (same_z x.0 blob) (le_z x.1 stored) q in
        (x.1, (0, omega arith, λ d. λ i. (same_true x.0 blob p.0 i, x.1)), le_z_yes (subst T (sym p.1) tt))
    on ih (inr q) = let r : _ = ih q in (r.0, Rattle.safety.proofs.Deacts.has_later x xs (blob, r.0) r.1, r.2)

pub removed_safe : (ob : Option Books) (r : Recount) (log : Log) → Cleared ob r log → (blob : ℤ) → Has log (asked_remove blob, Ok tt) → GivenUp r blob
removed_safe None r log cl blob h = fine_back r.stored r.given blob (every_has (clear (fine_of r) 0) log (asked_remove blob, Ok tt) cl h)
removed_safe (Some b) r log cl blob h = fine_back r.stored r.given blob (every_has (clear (fine_of r) b.tip) log (asked_remove blob, Ok tt) cl h)

-- ---- what next answers
abbrev From : Books → ℕ → Type 0
From b offset = ((b.free ≡ []) × (offset ≡ b.tip)) ⊎ ((xs : List ℕ) × (b.free ≡ offset ∷ xs))

gave_same : (x y : ℕ) → Gave x ≡ Gave y → y ≡ x
gave_same x y e = cc

module _ (b : Books) (offset : ℕ) where
  never : {P : Type 0} (e : Refusal) → Refused e ≡ Gave offset → P
  never e q = absurd (let z : ◌≡◌ {A = ℕ} 0 1 = cc in omega arith)

  by_gave : (lsn : ℤ) (o : ℕ) (t : Bool) → From b o → reply Gave (cond {A = Result ℕ Refusal × Books} t (Err no.BelowOffset, b) (Ok o, handed_out lsn o b)).0 ≡ Gave offset → From b offset
  by_gave lsn o true f e = never no.BelowOffset e
  by_gave lsn o false f e = subst (From b) (sym (gave_same o offset e)) f

  tip_gave : (lsn : ℤ) → b.free ≡ [] → (faults : List FaultRow) → reply Gave (next_by lsn (at_tip b faults)).0 ≡ Gave offset → From b offset
  tip_gave lsn f [] e = on (leb (256 * b.size) b.tip) e
    where
      on : (t : Bool) → reply Gave (next_by lsn (cond t (Err no.FileFull, b) (Ok b.tip, b))).0 ≡ Gave offset → From b offset
      on true e = never no.FileFull e
      on false e = by_gave lsn b.tip (ltb (nat_abs lsn) b.tip) (inl (f, refl)) e
  tip_gave lsn f (row ∷ rows) e = never (no.Host (cut_fault row)) e

  free_gave : (lsn : ℤ) (free : List ℕ) → b.free ≡ free → reply Gave (next_by lsn (offered b free)).0 ≡ Gave offset → From b offset
  free_gave lsn [] f e = tip_gave lsn f b.faults e
  free_gave lsn (x ∷ xs) f e = by_gave lsn x (ltb (nat_abs lsn) x) (inr (xs, f)) e

  at_gave : (lsn : ℤ) (s t : Bool) → reply Gave (cond {A = Result ℕ Refusal × Books} s (Err no.Unaligned, b) (cond t (Err no.LsnInUse, b) (next_by lsn (offered b b.free)))).0 ≡ Gave offset → From b offset
  at_gave lsn true t e = never no.Unaligned e
  at_gave lsn false true e = never no.LsnInUse e
  at_gave lsn false false e = free_gave lsn b.free refl e

module _ {M : Type 0} (respond : M → Request → Answer × M) (slot extent : M → ℕ) where
  next_from : (b : Books) (m : M) (lsn : ℤ) (offset : ℕ) → (ran respond slot extent (Some b) m (Next lsn)).0 ≡ Gave offset → From b offset
  next_from b m lsn offset = on (out_of_range lsn)
    where
      on : (t : Bool) → (replied Gave (cond t (Err no.LsnRange, Some b, (m, [])) (call.next_with (recorded respond) (λ y. slot y.0) (λ y. extent y.0) (next_at lsn b) (m, [])))).0 ≡ Gave offset → From b offset
      on true e = never b offset no.LsnRange e
      on false e = at_gave b offset lsn (unaligned b.size lsn) (in_use b lsn) e

  le_rank : (x y : ℕ) (o : Ordering) → MatchOrdering o (x < y) (x ≡ y) (y < x) → is_le o ≡ true → x ≤ y
  le_rank x y Less r e = omega (arith, r)
  le_rank x y Equal r e = omega (arith, r)
  le_rank x y Greater r e = absurd (true≢false (sym e))

  least_from : (b : Books) (r : Recount) (holds : ℕ → ℕ → Bool) (offset : ℕ) → Kept b r holds → From b offset → LeastIsAnswered b offset
  least_from b r holds offset k (inl f) = record { least = λ other h. absurd (no_has other (subst (λ l. Has l other) f.0 h)); listed = inr f }
    where
      no_has : (o : ℕ) → Has [] o → ⊥
      no_has o (i, l, at) = omega arith
  least_from b r holds offset k (inr f) = record {
    least = λ other h. le_rank offset other (nat_cmp offset other) (ranks offset other) (first_least own_key unsigned_lawful b.free offset other k.sound.whole.free_up (ap Rattle.table.specs.Rows.first_of f.1) h);
    listed = inl (subst (λ l. Has l offset) (sym f.1) (Rattle.safety.proofs.Deacts.has_first offset f.0));
  }

  pub least_answered : (ob : Option Books) (m : M) (r : Recount) (holds : ℕ → ℕ → Bool) → Along ob r holds → (lsn : ℤ) (offset : ℕ) → (ran respond slot extent ob m (Next lsn)).0 ≡ Gave offset → WithBooks ob (λ b. LeastIsAnswered b offset)
  least_answered None m r holds a lsn offset e = tt
  least_answered (Some b) m r holds a lsn offset e = least_from b r holds offset a (next_from b m lsn offset e)

  emptied_from : (b : Books) (r : Recount) (holds : ℕ → ℕ → Bool) (offset : ℕ) → Kept b r holds → From b offset → Emptied r (offset / b.size)
  emptied_from b r holds offset k (inl f) = let o : Offered b k.now (b.tip / b.size) = offer_tip b r k.now k.sound in subst (λ z. Emptied r (z / b.size)) (sym f.1) (emptied b r k.now k.sound (b.tip / b.size) o.free o.unheld)
  emptied_from b r holds offset k (inr f) = let o : Offered b k.now (offset / b.size) = offer_first b r k.now offset f.0 k.sound f.1 in emptied b r k.now k.sound (offset / b.size) o.free o.unheld

  pub handed_safe : (ob : Option Books) (m : M) (r : Recount) (holds : ℕ → ℕ → Bool) → Along ob r holds → (lsn : ℤ) (offset : ℕ) → (ran respond slot extent ob m (Next lsn)).0 ≡ Gave offset → Emptied r (offset / r.size)
  handed_safe None m r holds a lsn offset e = quiet_emptied r holds a (offset / r.size)
  handed_safe (Some b) m r holds a lsn offset e = subst (λ z. Emptied r (offset / z)) (sym a.sound.size) (emptied_from b r holds offset a (next_from b m lsn offset e))
