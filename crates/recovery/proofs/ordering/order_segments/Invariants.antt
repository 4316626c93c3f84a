-- The segments that are left make the ordering that all make; there is a row at most for each one passed.
use Rattle.std.proofs.Common.{◌≡◌, ◌+◌, ◌≤◌, length, drop}
use Rattle.table.specs.Held.{held}
use Rattle.rules.specs.Starting.{order_all}
use Rattle.ledger.specs.States.{states}
use Rattle.recovery.proofs.ordering.order_segments.Given as goal

abbrev pub invariant-loop-n : goal.invariant-loop-n
invariant-loop-n l =
    (length (held l.ordering) ≤ length (held l.initial.ordering) + l.n)
    × (order_all l.segment_size l.n (drop l.n (states l.segments)) (held l.ordering) ≡ order_all l.segment_size 0 (states l.segments) (held l.initial.ordering))
