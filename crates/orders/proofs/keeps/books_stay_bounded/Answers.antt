-- Every step keeps look-ups and counts; the counts bound each other.
use Rattle.orders.proofs.BookSteps.{book_steps, book_beginning, bounded_if_any}
use Rattle.orders.proofs.Runs.{call_keeps, always}
use Rattle.orders.proofs.keeps.books_stay_bounded.Goals as goal

pub returns : goal.returns
returns g c = record {
  kept = call_keeps g.H.Host.respond g.H.Host.slot g.H.Host.extent book_steps book_beginning;
  always = λ cs m. bounded_if_any _ (always g.H.Host.respond g.H.Host.slot g.H.Host.extent book_steps book_beginning cs m);
}
