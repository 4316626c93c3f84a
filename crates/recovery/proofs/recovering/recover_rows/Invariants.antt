-- The rows that are left give what all rows give.
use Rattle.std.proofs.Common.{◌≡◌, drop}
use Rattle.rules.specs.Starting.{recover_rows}
use Rattle.ledger.specs.Ledgers.{books_of}
use Rattle.recovery.specs.Recoverable.{Recoverable}
use Rattle.recovery.proofs.recovering.recover_rows.Given as goal

abbrev pub invariant-loop-row : goal.invariant-loop-row
invariant-loop-row l = Recoverable (books_of l.ledger) × (recover_rows l.header_len l.page (drop l.row-index l.rows) (books_of l.ledger) ≡ recover_rows l.header_len l.page l.rows (books_of l.initial.ledger))
