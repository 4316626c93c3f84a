-- The runs are computed.
use Rattle.rules.proofs.Worked.{worked_runs_come_out}
use Rattle.rules.proofs.theorems.worked_runs_come_out.Goals as goal

pub returns : goal.returns
returns c = worked_runs_come_out
