-- What the books keep while rows are recovered: order, bounds, and no ordering yet.
use Rattle.std.specs.Prelude.{◌≡◌, []}
use Rattle.rules.specs.Books.{Books}
use Rattle.orders.specs.Within.{KeptWithin}

pub record Recoverable (b : Books) : Type 0 where
  pub within : KeptWithin b
  pub ordering : b.ordering ≡ []
