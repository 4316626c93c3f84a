-- What the checks refuse is refused, and what they pass is accepted.
use Rattle.std.proofs.Common.{Err, sym, ap, ◌∙◌}
use Rattle.std.proofs.lemmas.Result.{err_from_is_err_and}
use Rattle.rules.specs.Starting.{plan_refusal, segment_count}
use Rattle.ledger.specs.Ledgers.{books_of}
use Rattle.recovery.specs.Begun.{recovered_if}
use Rattle.recovery.specs.Outcomes.{outcome}
use Rattle.recovery.specs.Plans.{plan_of}
use Rattle.recovery.proofs.PlanParts.{planned_err, planned_ok}
use Rattle.recovery.proofs.whole.recover.Goals as goal

pub returns-in_err-count : goal.returns-in_err-count
returns-in_err-count c =
    let s = plan_of c.args.plan.now in
    let p = err_from_is_err_and c.from_residual.result c.from_residual.ensures.1 in
    let e = planned_err (plan_refusal s c.args.slot c.args.extent) (segment_count s c.args.extent) p.0 (ap Err p.2 ∙ c.in_err-count.ensures) in
    ap (λ r. outcome r (books_of c.args.ledger.now)) p.1 ∙ sym (ap (λ o. recovered_if o s c.args.extent) e)

pub recover_with-requires : goal.recover_with-requires
recover_with-requires c =
    let s = plan_of c.args.plan.now in
    let e = planned_ok (plan_refusal s c.args.slot c.args.extent) (segment_count s c.args.extent) c.in_ok-count.count c.in_ok-count.ensures in
    (c.args.slot, c.args.extent, e.0, e.1)
