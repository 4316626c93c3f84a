-- As many unused segments as turns.
use Rattle.std.proofs.Common.{◌≡◌, replicate}
use Rattle.rules.specs.Books.{unused}
use Rattle.ledger.specs.States.{states_of}
use Rattle.recovery.proofs.blanks.fill_unused.Given as goal

abbrev pub invariant-loop-i : goal.invariant-loop-i
invariant-loop-i l = states_of l.segments ≡ replicate l._i unused
