use Rattle.orders.proofs.Refuses.{refusals_leave_all}
use Rattle.orders.proofs.keeps.refusals_leave_all.Goals as goal

pub returns : goal.returns
returns g c = refusals_leave_all g.H.Host.respond g.H.Host.slot g.H.Host.extent
