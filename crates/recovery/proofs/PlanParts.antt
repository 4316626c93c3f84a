-- What a plan keeps that the checks let pass.
use Rattle.std.proofs.Common.{◌≡◌, ℕ, ◌*◌, ◌^◌, ◌<◌, ◌≤◌, true, eqb, leb, Some, None, Ok, Err, Option, sym, refl, subst, mul-le-mul, arith}
use lib.Count.{ones}
use Rattle.std.proofs.lemmas.Bool.{and_parts, leb-true}
use Rattle.rules.specs.declared.refusal.Refusal.{Refusal}
use Rattle.rules.specs.Starting.{Plan, is_segment_size}
use Rattle.orders.proofs.BoundStarts.{within_beginning}
use Rattle.orders.proofs.Fresh.{begins_fresh}
use Rattle.recovery.specs.Begun.{Accepted, begun}
use Rattle.recovery.specs.Plans.{planned}
use Rattle.recovery.specs.Recoverable.{Recoverable}

pub begun_keeps : (s : Plan) (count : ℕ) → Accepted s count → Recoverable (begun s count)
begun_keeps s count a = subst (λ k. Recoverable (begun s k)) (sym a.3) (record { within = within_beginning.begins s a.0 a.1 a.2; ordering = (begins_fresh s a.1).ordering })

pub tip_fits : (size count : ℕ) → is_segment_size size ≡ true → count ≤ 256 → count * size < 2 ^ 64
tip_fits size count h l =
    let m = leb-true size 16777216 (and_parts (leb size 16777216) (eqb (ones size) 1) (and_parts (leb 256 size) _ h).1).0 in
    let k : count * size ≤ 256 * 16777216 = mul-le-mul l m in
    omega arith

-- ---- the answer of the checks
pub planned_err : (o : Option Refusal) (count : ℕ) (e : Refusal) → Err e ≡ planned o count → o ≡ Some e
planned_err None count e h = absurd (cc)
planned_err (Some f) count e h = cc

pub planned_ok : (o : Option Refusal) (count n : ℕ) → Ok n ≡ planned o count → (o ≡ None) × (n ≡ count)
planned_ok None count n h = (refl, cc)
planned_ok (Some f) count n h = absurd (cc)
