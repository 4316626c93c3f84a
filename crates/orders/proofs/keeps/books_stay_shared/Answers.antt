-- Every step keeps the share of Free segments with all the rest.
use Rattle.orders.proofs.ShareSteps.{share_steps, share_beginning}
use Rattle.orders.proofs.Runs.{call_keeps, always}
use Rattle.orders.proofs.keeps.books_stay_shared.Goals as goal

pub returns : goal.returns
returns g c = record {
  kept = call_keeps g.H.Host.respond g.H.Host.slot g.H.Host.extent share_steps share_beginning;
  always = always g.H.Host.respond g.H.Host.slot g.H.Host.extent share_steps share_beginning;
}
