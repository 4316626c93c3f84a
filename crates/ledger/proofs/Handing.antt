-- What is known where a segment is handed out: the books after it keep what books keep, so there is room.
use Rattle.std.proofs.Common.{◌≡◌, ℕ, ◌≤◌, Bool, false, cond, ◌&&◌, eqb, ltb, leb, length, ℤ, nat_abs, is_some, not, ◌%◌, Ok, Err, Option, Result, sym, ap, ◌∙◌, subst, arith}
use lib.Count.{ones}
use Rattle.std.proofs.lemmas.Bool.{and_parts, leb-true, eq-eqb, le-ltb}
use Rattle.std.specs.Ordering.{int_cmp}
use Rattle.table.specs.Rows.{find}
use Rattle.segment.specs.Rows.{ordering_key}
use Rattle.segment.specs.declared.rows.OrderingRow.{OrderingRow}
use Rattle.rules.specs.declared.refusal.Refusal.{Refusal}
use Rattle.rules.specs.declared.refusal.Refusal.TheVariants as no
use Rattle.rules.specs.Books.{Books}
use Rattle.rules.specs.HandingOut.{unaligned, in_use, offered, handed_out, next_by, next_at}
use Rattle.rules.specs.Links.{out_of_range}
use Rattle.orders.specs.Share.{Shared}
use Rattle.orders.specs.Within.{Within}
use Rattle.orders.proofs.HandsOut.{next_keeps}
use Rattle.orders.proofs.Rooms.{have_room}
use Rattle.orders.proofs.ShareSteps.{share_steps}

-- ---- the numbers of the books
pub record Numbers (b : Books) : Type 0 where
  pub most : b.size ≤ 16777216
  pub reached : length b.segments ≤ 256

pub numbers : (b : Books) → Within b → Numbers b
numbers b w =
    let s = and_parts (leb 256 b.size) (leb b.size 16777216 && eqb (ones b.size) 1) w.size in
    record { most = leb-true _ _ (and_parts (leb b.size 16777216) (eqb (ones b.size) 1) s.1).0; reached = leb-true (length b.segments) 256 w.reached }

-- ---- handing out
handed_shared : (lsn : ℤ) (offset : ℕ) (b c : Books) → out_of_range lsn ≡ false → unaligned b.size lsn ≡ false → in_use b lsn ≡ false → offered b b.free ≡ (Ok offset, c) → ltb (nat_abs lsn) offset ≡ false → Shared b → Shared (handed_out lsn offset c)
handed_shared lsn offset b c r u i e q h = subst Shared (ap (λ x. x.1) is) (next_keeps share_steps lsn b r h)
  where
    is : next_at lsn b ≡ (Ok offset, handed_out lsn offset c)
    is =
        ap (λ t. cond {A = Result ℕ Refusal × Books} t (Err no.Unaligned, b) (cond (in_use b lsn) (Err no.LsnInUse, b) (next_by lsn (offered b b.free)))) u
        ∙ (ap (λ t. cond {A = Result ℕ Refusal × Books} t (Err no.LsnInUse, b) (next_by lsn (offered b b.free))) i
        ∙ (ap (next_by lsn) e ∙ ap (λ t. cond {A = Result ℕ Refusal × Books} t (Err no.BelowOffset, c) (Ok offset, handed_out lsn offset c)) q))

-- there is room for the segment and its row, by what the call found: z is the LSN, and at its position
pub handed_room : (lsn z : ℤ) (at offset : ℕ) (b c : Books) (o : Option OrderingRow) (t : Bool) (r : Result ℕ Refusal) → z ≡ lsn → at ≡ nat_abs z → out_of_range lsn ≡ false → at % b.size ≡ 0 → o ≡ find ordering_key int_cmp b.ordering z → t ≡ is_some o → t ≡ false → (r, c) ≡ offered b b.free → r ≡ Ok offset → offset ≤ at → Shared b → (length (handed_out z offset c).segments ≤ 256) × (length (handed_out z offset c).ordering ≤ 256)
handed_room lsn z at offset b c o t r ez ea range aligned eo et free er was low h =
    let u : unaligned b.size z ≡ false = ap not (eq-eqb (nat_abs z % b.size) 0 (ap (λ n. n % b.size) (sym ea) ∙ aligned)) in
    let i : in_use b z ≡ false = ap is_some (sym eo) ∙ (sym et ∙ free) in
    let q : ltb (nat_abs z) offset ≡ false = le-ltb (nat_abs z) offset (subst (λ n. offset ≤ n) ea low) in
    let k = have_room _ (handed_shared z offset b c (ap out_of_range ez ∙ range) u i (sym er ∙ ap (λ r. (r, c)) was) q h).whole in
    let k1 = k.ordering in
    let k2 = k.reached in
    (k2, omega arith)
