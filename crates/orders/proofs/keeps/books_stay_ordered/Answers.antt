-- Every step keeps the order, so every call and every run does.
use Rattle.orders.proofs.Orders.{ordered_steps, ordered_beginning}
use Rattle.orders.proofs.Runs.{call_keeps, always}
use Rattle.orders.proofs.keeps.books_stay_ordered.Goals as goal

pub returns : goal.returns
returns g c = record {
  kept = call_keeps g.H.Host.respond g.H.Host.slot g.H.Host.extent ordered_steps ordered_beginning;
  always = always g.H.Host.respond g.H.Host.slot g.H.Host.extent ordered_steps ordered_beginning;
}
