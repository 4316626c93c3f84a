-- How many rows the tables without a refusal hold.
use Rattle.std.specs.Prelude.{◌≤◌, length}
use Rattle.rules.specs.Books.{Books}

-- no more than the segments reached, and no more freeable rows than ordering rows
pub record Rooms (b : Books) : Type 0 where
  pub free : length b.free ≤ length b.segments
  pub ordering : length b.ordering ≤ length b.segments
  pub freeable : length b.freeable ≤ length b.ordering
  pub listed : length b.listed ≤ length b.segments
  pub faults : length b.faults ≤ length b.segments
  pub reached : length b.segments ≤ 256
