-- The rows of the range are those above the old level and up to the new one; there are at most as many as the ordering has.
use Rattle.std.proofs.Common.{◌≡◌, ℤ, pos, ◌+ℤ◌, arith, w64, SFits, to_z, of_z, rules}
use Rattle.std.proofs.lemmas.Int.{ints}
use Rattle.table.specs.Held.{held}
use Rattle.segment.specs.Rows.{ordering_key}
use Rattle.closing.proofs.LaterRange.{between_most, ripe_range}
use Rattle.closing.proofs.ripening.gathering.gather_ripe.Goals as goal
use Rattle.std.specs.Ordering.{int_cmp}

pub refill-requires : goal.refill-requires
refill-requires c =
    let l = c.args.ledger.now in
    let k = between_most ordering_key int_cmp (held l.ordering) _ _ c.between.result.now c.between.ensures in
    omega (arith, l.ordering.few, c.args.into.now.room)

pub returns : goal.returns
returns c =
    let l = c.args.ledger.now in
    let old : ℤ = l.max_stabilized_lsn in
    let new : ℤ = c.args.level in
    let fits : SFits w64 old = search rules in
    let a : to_z w64 (of_z w64 (to_z w64 (of_z w64 old) +ℤ pos 1)) ≡ old +ℤ pos 1 = omega (arith, ints, c.requires.old) in
    let b : to_z w64 (of_z w64 (to_z w64 (of_z w64 new) +ℤ pos 1)) ≡ new +ℤ pos 1 = omega (arith, ints, c.requires.new, c.ranges.level) in
    let r = ripe_range old new (held l.ordering) in
    cc
