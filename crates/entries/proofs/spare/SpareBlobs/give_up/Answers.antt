-- The walk begins with the rows as they were, and gives up one blob a turn at most.
use Rattle.std.proofs.Common.{arith}
use Rattle.table.specs.Held.{held}
use Rattle.entries.proofs.Gives.{given_none, given_more, given_end}
use Rattle.entries.proofs.spare.SpareBlobs.give_up.Goals as goal

pub loop-old-init : goal.loop-old-init
loop-old-init c = given_none c.args.n c.args.keep c.args.olds.now (held c.args.self.now.rows)

pub give-requires : goal.give-requires
give-requires c =
    let l = c.loop-old-test.true in
    let room = c.requires in
    let s = c.loop-old.invariant.1 in
    omega (arith, l, room, s)

pub loop-old-preserved : goal.loop-old-preserved
loop-old-preserved c = given_more c.args.n c.args.keep c.args.olds.now (held c.args.self.now.rows) c.loop-old.old-index _ (held c.loop-old.self.rows) _ c.loop-old-test.true c.loop-old.invariant c.give.ensures

pub returns : goal.returns
returns c = given_end c.args.n c.args.keep c.args.olds.now (held c.args.self.now.rows) c.loop-old.old-index (held c.loop-old.self.rows) c.loop-old-test.false c.loop-old.invariant
