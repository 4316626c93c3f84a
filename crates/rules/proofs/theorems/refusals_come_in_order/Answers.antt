-- The runs are computed.
use Rattle.rules.proofs.Refused.{refusals_come_in_order}
use Rattle.rules.proofs.theorems.refusals_come_in_order.Goals as goal

pub returns : goal.returns
returns c = refusals_come_in_order
