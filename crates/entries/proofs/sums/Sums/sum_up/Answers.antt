-- The walk adds one entry a turn.
use Rattle.table.specs.Held.{held}
use Rattle.ledger.specs.Ledgers.{books_of}
use Rattle.entries.proofs.Summing.{summed_more, summed_fits}
use Rattle.entries.proofs.sums.Sums.sum_up.Goals as goal

pub add_old-requires-clause-fits : goal.add_old-requires-clause-fits
add_old-requires-clause-fits c = summed_fits (books_of c.args.ledger.now) c.args.olds.now c.loop-old.old-index _ (held c.loop-old.self.rows) c.requires.few c.requires.small c.loop-old-test.true c.loop-old.invariant

pub loop-old-preserved : goal.loop-old-preserved
loop-old-preserved c = summed_more (books_of c.args.ledger.now) c.args.olds.now c.loop-old.old-index _ (held c.loop-old.self.rows) _ c.requires.small c.loop-old-test.true c.loop-old.invariant c.add_old.ensures
