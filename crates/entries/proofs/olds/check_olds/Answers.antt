-- One step of the walk, its early end and its end.
use Rattle.std.proofs.Common.{w64}
use Rattle.std.proofs.lemmas.Int.{to_z-of_z}
use Rattle.std.proofs.lemmas.Result.{err_from_is_err_and}
use Rattle.rules.specs.Links.{link_of}
use Rattle.ledger.specs.Ledgers.{books_of}
use Rattle.entries.proofs.Walking.{olds_more, olds_stop, olds_end}
use Rattle.entries.proofs.olds.check_olds.Goals as goal

pub returns-in_err-check_at : goal.returns-in_err-check_at
returns-in_err-check_at c =
    let l = link_of c.args.page c.args.new.now (books_of c.args.ledger.now) in
    let z = to_z-of_z w64 c.args.base c.ranges.base in
    let p = err_from_is_err_and c.from_residual.result c.from_residual.ensures.1 in
    rw (p.1, p.2) (olds_stop l c.args.page c.args.olds.now c.loop-old.old-index c.args.base _ _ z z _ c.loop-old-test.true c.loop-old.invariant _ c.in_err-check_at.ensures)

pub loop-old-preserved : goal.loop-old-preserved
loop-old-preserved c =
    let l = link_of c.args.page c.args.new.now (books_of c.args.ledger.now) in
    let z = to_z-of_z w64 c.args.base c.ranges.base in
    olds_more l c.args.page c.args.olds.now c.loop-old.old-index c.args.base _ _ z z _ c.loop-old-test.true c.loop-old.invariant c.in_ok-check_at.ensures

pub returns : goal.returns
returns c =
    let l = link_of c.args.page c.args.new.now (books_of c.args.ledger.now) in
    olds_end l c.args.page c.args.olds.now c.loop-old.old-index c.args.base _ (to_z-of_z w64 c.args.base c.ranges.base) c.loop-old-test.false c.loop-old.invariant
