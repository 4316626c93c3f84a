-- The books before any row keep what rows need.
use Rattle.std.proofs.Common.{sym, subst}
use Rattle.recovery.specs.Plans.{plan_of}
use Rattle.recovery.specs.Recoverable.{Recoverable}
use Rattle.recovery.proofs.PlanParts.{begun_keeps}
use Rattle.recovery.proofs.whole.recover_with.Goals as goal

pub recover_pages-requires-clause-kept : goal.recover_pages-requires-clause-kept
recover_pages-requires-clause-kept c = subst Recoverable (sym c.begin.ensures) (begun_keeps (plan_of c.args.plan.now) c.args.count c.requires)
