-- Each row is in range where all are.
use Rattle.std.proofs.lemmas.Bool.{not-true}
use Rattle.table.proofs.Orders.{every_at}
use Rattle.recovery.specs.Plans.{in_range}
use Rattle.recovery.proofs.recovering.recover_rows.Goals as goal

pub recover_row-requires-clause-lsn : goal.recover_row-requires-clause-lsn
recover_row-requires-clause-lsn c = not-true _ (every_at in_range c.args.rows.now c.loop-row.row-index _ c.requires.lsns c.loop-row-test.true)
