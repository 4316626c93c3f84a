-- The rows before the range and behind it are of other segments, and those in it of this one.
use Rattle.std.proofs.Common.{◌≡◌, ◌<◌, ◌++◌, not, map, take, drop, length, ap, ◌∙◌, arith}
use Rattle.table.specs.Held.{held}
use Rattle.rules.specs.Pages.{is_in, new_row}
use Rattle.closing.proofs.Stepping.{over_front, over_behind, queued_in, other_alone, queued_more, outside_range, inside_range}
use Rattle.closing.proofs.queueing.queue_all.Goals as goal

pub loop-i-init : goal.loop-i-init
loop-i-init g c =
    let n = c.args.n in
    let rows = held c.args.pages.now in
    let start = c.first_part_bounds-start.result.0 in
    let out = outside_range n start c.first_part_bounds-start.result.1 c.rows.result.now rows c.rows.ensures c.first_part_bounds-start.ensures.rest in
    over_front (queued_in n) (λ row. not (is_in n row)) (other_alone n) start rows out.0

pub loop-i-preserved : goal.loop-i-preserved
loop-i-preserved g c =
    let n = c.args.n in
    let i = c.loop-i.i in
    let rows = held c.args.pages.now in
    let b = ap length c.rows.ensures in
    let there : i < length rows = omega (arith, c.first_part_bounds-start.ensures.within) in
    let mine = inside_range n c.first_part_bounds-start.result.0 c.first_part_bounds-start.result.1 i c.rows.result.now rows (new_row 0 0) c.rows.ensures c.first_part_bounds-start.ensures.part c.loop-i.auto.i c.loop-i-test.true c.first_part_bounds-start.ensures.within.1 in
    queued_more n i rows _ _ (new_row 0 0) there mine c.loop-i.invariant c.queue_at.ensures

pub returns : goal.returns
returns g c =
    let n = c.args.n in
    let rows = held c.args.pages.now in
    let out = outside_range n c.first_part_bounds-start.result.0 c.first_part_bounds-start.result.1 c.rows.result.now rows c.rows.ensures c.first_part_bounds-start.ensures.rest in
    let last : c.loop-i.i ≡ c.first_part_bounds-start.result.1 = omega (arith, c.first_part_bounds-start.ensures.within) in
    c.loop-i.invariant ∙ ap (λ k. map (queued_in n) (take k rows) ++ drop k rows) last ∙ over_behind (queued_in n) (λ row. not (is_in n row)) (other_alone n) c.first_part_bounds-start.result.1 rows out.1
