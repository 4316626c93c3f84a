-- The rows before place i are changed, and the others as they were.
use Rattle.std.proofs.Common.{◌≡◌, ◌++◌, map, take, drop}
use Rattle.table.specs.Held.{held}
use Rattle.closing.proofs.Stepping.{queued_in}
use Rattle.closing.proofs.queueing.queue_all.Given as goal

abbrev pub invariant-loop-i : goal.invariant-loop-i
invariant-loop-i g l = held l.pages ≡ map (queued_in l.n) (take l.i (held l.initial.pages)) ++ drop l.i (held l.initial.pages)
