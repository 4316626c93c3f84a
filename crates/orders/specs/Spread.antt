-- The room equations: where the segments below the tip are, and the remembered faults.
use Rattle.std.specs.Prelude.{◌≡◌, ◌+◌, ◌/◌, ◌≤◌, length}
use Rattle.rules.specs.Books.{Books}
use Rattle.orders.specs.Counts.{Counting}

pub record Spread (b : Books) : Type 0 where
  -- each segment below the tip is on the free list or in the ordering
  pub rows : length b.free + length b.ordering ≡ b.tip / b.size
  -- each remembered fault is of a segment past the tip
  pub faults : length b.faults + b.tip / b.size ≤ length b.segments

pub record Whole (b : Books) : Type 0 where
  pub counting : Counting b
  pub spread : Spread b
