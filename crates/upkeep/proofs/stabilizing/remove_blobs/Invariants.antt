-- What is left to remove from here is what was to be removed at the entry.
use Rattle.std.proofs.Common.{◌≡◌, drop}
use Rattle.rules.specs.Stabilizing.{remove_blobs}
use Rattle.upkeep.proofs.stabilizing.remove_blobs.Given as goal

abbrev pub invariant-loop-row : goal.invariant-loop-row
invariant-loop-row g l = remove_blobs g.H.Host.respond (drop l.row-index l.rows) (g.H.Host.model l.host) ≡ remove_blobs g.H.Host.respond l.rows (g.H.Host.model l.initial.host)
