-- The free list and what is held back make the Free segments below the tip.
use Rattle.std.proofs.Common.{◌≡◌, true}
use Rattle.rules.specs.Stabilizing.{free_below_tip, inactive_count, much_is_free}
use Rattle.ledger.specs.Ledgers.{books_of}
use Rattle.closing.proofs.Sharing.{drains_last}
use Rattle.closing.proofs.shares.share_drains.Goals as goal

pub returns-then-much_is_free : goal.returns-then-much_is_free
returns-then-much_is_free c =
    let b = books_of c.args.ledger.now in
    let much : much_is_free (free_below_tip b) (inactive_count b) ≡ true = cc in
    drains_last b c.last_inactive.result much c.last_inactive.ensures
