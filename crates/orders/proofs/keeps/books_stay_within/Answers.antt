-- Every step keeps the bounds, so every call and every run does.
use Rattle.orders.proofs.BoundStarts.{within_steps, within_beginning}
use Rattle.orders.proofs.Runs.{call_keeps, always}
use Rattle.orders.proofs.keeps.books_stay_within.Goals as goal

pub returns : goal.returns
returns g c = record {
  kept = call_keeps g.H.Host.respond g.H.Host.slot g.H.Host.extent within_steps within_beginning;
  always = always g.H.Host.respond g.H.Host.slot g.H.Host.extent within_steps within_beginning;
}
