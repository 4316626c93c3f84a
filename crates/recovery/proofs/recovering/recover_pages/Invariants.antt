-- The pages that are left give what all pages give.
use Rattle.std.proofs.Common.{◌≡◌, drop}
use Rattle.rules.specs.Starting.{recover_pages}
use Rattle.ledger.specs.Ledgers.{books_of}
use Rattle.recovery.specs.Recoverable.{Recoverable}
use Rattle.recovery.proofs.recovering.recover_pages.Given as goal

abbrev pub invariant-loop-page : goal.invariant-loop-page
invariant-loop-page l = Recoverable (books_of l.ledger) × (recover_pages l.plan.header_len l.page (drop l.page l.plan.snapshot.directory.now) l.plan.snapshot.rows.now (books_of l.ledger) ≡ recover_pages l.plan.header_len 0 l.plan.snapshot.directory.now l.plan.snapshot.rows.now (books_of l.initial.ledger))
