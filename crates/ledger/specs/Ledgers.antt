-- The books that a ledger holds.
use Rattle.table.specs.Held.{held}
use Rattle.rules.specs.Books.{Books, books}
use Rattle.ledger.specs.States.{states_of}
use Rattle.ledger.specs.declared.ledger.Ledger.{Ledger}

abbrev pub books_of : Ledger → Books
books_of l =
    books l.segment_size (states_of l.segments) l.tip l.max_stabilized_lsn (held l.free) (held l.ordering) (held l.pages) (held l.blobs) (held l.freeable) (held l.listed) (held l.faults)
