-- Every step keeps the room equations with all the rest.
use Rattle.orders.proofs.WholeSteps.{whole_steps, whole_beginning}
use Rattle.orders.proofs.Runs.{call_keeps, always}
use Rattle.orders.proofs.keeps.books_stay_spread.Goals as goal

pub returns : goal.returns
returns g c = record {
  kept = call_keeps g.H.Host.respond g.H.Host.slot g.H.Host.extent whole_steps whole_beginning;
  always = always g.H.Host.respond g.H.Host.slot g.H.Host.extent whole_steps whole_beginning;
}
