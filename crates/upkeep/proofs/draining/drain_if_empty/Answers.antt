-- What is drained is Inactive, and the test is that of the rule.
use Rattle.std.proofs.Common.{sym, ◌∙◌}
use Rattle.rules.specs.Books.{state_of}
use Rattle.ledger.specs.Ledgers.{books_of}
use Rattle.upkeep.proofs.Reached.{inactive_of, drained_inactive, drain_then, drain_else}
use Rattle.upkeep.proofs.draining.drain_if_empty.Goals as goal

pub start_draining-requires : goal.start_draining-requires
start_draining-requires c =
    let b = books_of c.args.ledger.now in
    record { kept = c.requires; inactive = drained_inactive b.size (state_of b c.args.n) (sym c.if-is_drained.ensures) }

pub returns-then-is_drained : goal.returns-then-is_drained
returns-then-is_drained c =
    let b = books_of c.args.ledger.now in
    let t = sym c.if-is_drained.ensures in
    let x = inactive_of (state_of b c.args.n) (drained_inactive b.size (state_of b c.args.n) t) in
    c.start_draining.ensures x.0 x.1 ∙ sym (drain_then c.args.n x.0 b x.1 t)

pub returns-else-is_drained : goal.returns-else-is_drained
returns-else-is_drained c =
    let b = books_of c.args.ledger.now in
    sym (drain_else c.args.n (state_of b c.args.n) b (sym c.if-is_drained.ensures))
