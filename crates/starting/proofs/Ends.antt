-- How a start ends: refused by the checks or by the host, or with the books that the rules leave.
use Rattle.std.proofs.Common.{◌≡◌, ℕ, IfOk, Some, None, Ok, Err, Option, Result, sym, refl, ap, ◌∙◌, subst}
use Rattle.host.specs.Meaning.{Answer}
use Rattle.host.specs.declared.request.Request.{Request}
use Rattle.rules.specs.declared.refusal.Refusal.{Refusal}
use Rattle.rules.specs.Books.{Books}
use Rattle.rules.specs.Starting.{Plan, plan_refusal, freed_after, start_by, started}
use Rattle.orders.specs.Always.{IfAny}
use Rattle.orders.specs.Share.{Shared}
use Rattle.orders.proofs.Starts.{started_keeps}
use Rattle.orders.proofs.ShareSteps.{share_beginning}
use Rattle.recovery.specs.Begun.{recovered_if}
use Rattle.starting.specs.Starts.{Recovered, books_kept, ended}

-- what the checks let pass is recovered
pub passed_recovered : (s : Plan) (slot extent : ℕ) (b : Books) → Ok b ≡ recovered_if (plan_refusal s slot extent) s extent → Recovered b
passed_recovered s slot extent b e = on (plan_refusal s slot extent) refl e
  where
    on : (o : Option Refusal) → plan_refusal s slot extent ≡ o → Ok b ≡ recovered_if o s extent → Recovered b
    on None f h = (s, slot, extent, f, sym h)
    on (Some r) f h = absurd (cc)

if_kept : (r : Result (Unit {0}) Refusal) (b : Books) → IfAny Shared (books_kept r b) → IfOk r (λ _. Shared b)
if_kept (Ok u) b h = h
if_kept (Err e) b h = tt

module _ {M : Type 0} (respond : M → Request → Answer × M) where
  -- a start is what comes after its recovery
  pub start_after : (o : Option Refusal) (s : Plan) (extent : ℕ) (m : M) → freed_after respond (recovered_if o s extent) m ≡ start_by respond o s extent m
  start_after None s extent m = refl
  start_after (Some r) s extent m = refl

  -- books that a start leaves are kept
  pub start_kept : (s : Plan) (slot extent : ℕ) (m k : M) (c : Books) (r : Result (Unit {0}) Refusal) (b : Books) → Ok c ≡ recovered_if (plan_refusal s slot extent) s extent → ended r b k ≡ freed_after respond (Ok c) m → IfOk r (λ _. Shared b)
  start_kept s slot extent m k c r b q e =
      let whole : ended r b k ≡ started respond s slot extent m = e ∙ (ap (λ o. freed_after respond o m) q ∙ start_after (plan_refusal s slot extent) s extent m) in
      if_kept r b (subst (λ (o : Result (Unit {0}) Refusal × Option Books × M). IfAny Shared o.1) (sym whole) (started_keeps share_beginning respond s slot extent m))
