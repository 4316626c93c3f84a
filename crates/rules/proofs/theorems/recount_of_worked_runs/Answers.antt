use Rattle.rules.proofs.Recounted.{recount_of_worked_runs}
use Rattle.rules.proofs.theorems.recount_of_worked_runs.Goals as goal

pub returns : goal.returns
returns c = recount_of_worked_runs
