-- The Free segments below the tip are those on the free list and those held back.
use Rattle.std.specs.Prelude.{◌≡◌, ◌+◌, length}
use Rattle.rules.specs.Books.{Books}
use Rattle.rules.specs.Stabilizing.{free_below_tip}
use Rattle.orders.specs.Spread.{Whole}

pub record Shared (b : Books) : Type 0 where
  pub whole : Whole b
  pub share : free_below_tip b ≡ length b.free + length b.freeable
