-- One step of the walk, its early end and its end.
use Rattle.std.proofs.Common.{◌*◌, ◌<◌, ◌≤◌, length, Err, sym, ap, ◌∙◌, subst, arith}
use Rattle.std.proofs.lemmas.List.{length-map}
use Rattle.std.proofs.lemmas.Result.{err_from_is_err_and}
use Rattle.table.specs.Held.{held}
use Rattle.segment.specs.declared.segment.Segment.{Segment}
use Rattle.rules.specs.Starting.{order_state}
use Rattle.ledger.specs.States.{states}
use Rattle.recovery.specs.Outcomes.{outcome}
use Rattle.recovery.proofs.OrderWalks.{state_read, order_more, order_stop, order_end, offset_fits}
use Rattle.recovery.proofs.ordering.order_segments.Goals as goal

pub overflow_mul-n : goal.overflow_mul-n
overflow_mul-n c = let k = offset_fits c.loop-n.n (length c.args.segments.now) c.args.segment_size c.loop-n-test.true c.requires.fits in omega arith

pub returns-in_err-order_state : goal.returns-in_err-order_state
returns-in_err-order_state c =
    let p = err_from_is_err_and c.from_residual.result c.from_residual.ensures.1 in
    let all = states c.args.segments.now in
    let n = c.loop-n.n in
    let size = c.args.segment_size in
    let low = subst (λ k. n < k) (sym (length-map c.args.segments.now (λ s. s.state))) c.loop-n-test.true in
    let state = ap (λ (s : Segment). s.state) c.index-segments-n.is ∙ state_read c.args.segments.now n c.index-segments-n.result c.loop-n-test.true in
    let e = c.in_err-order_state.ensures in
    record {
      rows = ap (λ r. outcome r (held c.order_state.new.ordering)) p.1 ∙ order_stop size n all (held c.loop-n.ordering) _ c.loop-n.invariant.1 p.0 low (ap Err p.2 ∙ (e.rows ∙ ap (λ s. order_state (n * size) s (held c.loop-n.ordering)) state));
    }

pub loop-n-preserved : goal.loop-n-preserved
loop-n-preserved c =
    let all = states c.args.segments.now in
    let n = c.loop-n.n in
    let size = c.args.segment_size in
    let low = subst (λ k. n < k) (sym (length-map c.args.segments.now (λ s. s.state))) c.loop-n-test.true in
    let state = ap (λ (s : Segment). s.state) c.index-segments-n.is ∙ state_read c.args.segments.now n c.index-segments-n.result c.loop-n-test.true in
    let e = c.in_ok-order_state.ensures in
    let m = e.more in
    let k = c.loop-n.invariant.0 in
    (omega arith, order_more size n all (held c.loop-n.ordering) _ c.loop-n.invariant.1 (held c.order_state.new.ordering) low (e.rows ∙ ap (λ s. order_state (n * size) s (held c.loop-n.ordering)) state))

pub returns : goal.returns
returns c =
    let past = subst (λ k. k ≤ c.loop-n.n) (sym (length-map c.args.segments.now (λ s. s.state))) c.loop-n-test.false in
    record { rows = order_end c.args.segment_size c.loop-n.n (states c.args.segments.now) (held c.loop-n.ordering) _ c.loop-n.invariant.1 past }
