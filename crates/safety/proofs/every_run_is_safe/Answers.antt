use Rattle.safety.proofs.Runs.{always_safe}
use Rattle.safety.proofs.every_run_is_safe.Goals as goal

pub returns : goal.returns
returns g c = always_safe g.H.Host.respond g.H.Host.slot g.H.Host.extent g.H.Host.holds g.met.H.Host.obeys
