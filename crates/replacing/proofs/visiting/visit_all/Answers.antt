-- One visit is one step of the rule, and the rule ends where no segment is left.
use Rattle.std.proofs.Common.{w64}
use Rattle.std.proofs.lemmas.Int.{to_z-of_z}
use Rattle.upkeep.specs.Worlds.{seen}
use Rattle.replacing.proofs.Visits.{going_starts, going_passes, going_next, going_ends}
use Rattle.replacing.proofs.visiting.visit_all.Goals as goal

pub loop-sum-init : goal.loop-sum-init
loop-sum-init g c = going_starts g.H.Host.respond c.args.page c.args.base _ c.args.sums.now (seen g.H.Host.model c.args.world.now) (to_z-of_z w64 c.args.base c.ranges.base) c.requires.kept c.requires.order c.requires.passes

pub visit-requires-clause-passes : goal.visit-requires-clause-passes
visit-requires-clause-passes g c =
    let z = to_z-of_z w64 c.args.base c.ranges.base in
    going_passes g.H.Host.respond c.args.page c.args.base _ _ z z c.args.sums.now c.loop-sum.sum-index _ (seen g.H.Host.model c.loop-sum.world) _ c.loop-sum-test.true c.loop-sum.invariant

pub loop-sum-preserved : goal.loop-sum-preserved
loop-sum-preserved g c =
    let z = to_z-of_z w64 c.args.base c.ranges.base in
    going_next g.H.Host.respond c.args.page c.args.base _ _ z z c.args.sums.now c.loop-sum.sum-index _ (seen g.H.Host.model c.loop-sum.world) _ c.loop-sum-test.true c.loop-sum.invariant (seen g.H.Host.model c.visit.new.world) c.requires.range c.visit.ensures

pub returns : goal.returns
returns g c = going_ends g.H.Host.respond c.args.page c.args.base _ c.args.sums.now c.loop-sum.sum-index (seen g.H.Host.model c.loop-sum.world) (seen g.H.Host.model c.args.world.now) (to_z-of_z w64 c.args.base c.ranges.base) c.loop-sum-test.false c.loop-sum.invariant
