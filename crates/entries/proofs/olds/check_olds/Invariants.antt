-- The segments passed so far are not refused: what is left decides.
use Rattle.std.proofs.Common.{◌≡◌, drop}
use Rattle.rules.specs.Links.{link_of}
use Rattle.rules.specs.Replacing.{olds_refusal}
use Rattle.ledger.specs.Ledgers.{books_of}
use Rattle.entries.specs.Sums.{pairs}
use Rattle.entries.proofs.olds.check_olds.Given as goal

abbrev pub invariant-loop-old : goal.invariant-loop-old
invariant-loop-old l = olds_refusal (link_of l.page l.new (books_of l.ledger)) l.page l.base (pairs (drop l.old-index l.olds)) ≡ olds_refusal (link_of l.page l.new (books_of l.ledger)) l.page l.base (pairs l.olds)
