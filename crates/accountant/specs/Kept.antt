-- The books that an accountant has: none before an accepted start.
use Rattle.std.specs.Prelude.{Bool, true, false, Some, None, Option}
use Rattle.rules.specs.Books.{Books}

abbrev pub books_if : Bool → Books → Option Books
books_if true b = Some b
books_if false b = None
