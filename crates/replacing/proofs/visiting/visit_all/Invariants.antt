-- The visits still to be made lead from here to where all of them lead from the entry.
use Rattle.std.proofs.Common.{drop}
use Rattle.rules.specs.Replacing.{visited}
use Rattle.entries.specs.Sums.{pairs}
use Rattle.upkeep.specs.Worlds.{seen}
use Rattle.replacing.proofs.Visits.{Going}
use Rattle.replacing.proofs.visiting.visit_all.Given as goal

abbrev pub invariant-loop-sum : goal.invariant-loop-sum
invariant-loop-sum g l = Going g.H.Host.respond l.page l.base (pairs (drop l.sum-index l.sums)) (seen g.H.Host.model l.world) (visited g.H.Host.respond l.page l.base (pairs l.sums) (seen g.H.Host.model l.initial.world))
