-- The books that an accountant has, and its host.
use Rattle.std.specs.Prelude.{Option}
use Rattle.rules.specs.Books.{Books}
use Rattle.ledger.specs.Ledgers.{books_of}
use Rattle.accountant.specs.Kept.{books_if}
use Rattle.accountant.specs.declared.accountant.SegmentAccountant.{SegmentAccountant}

abbrev pub books_in : {H : Type 0} → SegmentAccountant H → Option Books
books_in a = books_if a.started (books_of a.world.ledger)

abbrev pub host_in : {H : Type 0} → SegmentAccountant H → H
host_in a = a.world.host
