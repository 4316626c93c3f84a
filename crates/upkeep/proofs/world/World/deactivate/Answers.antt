-- The rule by its cases: the segment is not Active, a removal is refused, or the segment is closed.
use Rattle.std.proofs.Common.{Ok, Err, sym, ap, ◌∙◌, w64}
use Rattle.std.proofs.lemmas.Result.{err_from_is_err_and}
use Rattle.std.proofs.lemmas.Int.{to_z-of_z}
use Rattle.rules.specs.Books.{world, state_of}
use Rattle.rules.specs.Stabilizing.{number_of_lsn, blobs_of, remove_blobs, deactivate_state, deactivated}
use Rattle.upkeep.specs.Worlds.{seen}
use Rattle.upkeep.proofs.Closes.{active_of, idle, deactivated_at}
use Rattle.upkeep.proofs.world.World.deactivate.Goals as goal

pub returns-then-not-is_active_at : goal.returns-then-not-is_active_at
unfolding deactivated
returns-then-not-is_active_at g c =
    let w = seen g.H.Host.model c.args.self.now in
    let n = c.number_of_lsn-n.ensures ∙ ap (number_of_lsn w.books) (to_z-of_z w64 c.args.lsn c.ranges.lsn) in
    sym (idle g.H.Host.respond c.number_of_lsn-n.result (state_of w.books c.number_of_lsn-n.result) w (sym c.is_active_at.ensures ∙ c.if-not-is_active_at.true))
    ∙ ap (λ k. deactivate_state g.H.Host.respond k (state_of w.books k) w) n

pub returns-in_err-remove_blobs : goal.returns-in_err-remove_blobs
returns-in_err-remove_blobs g c =
    let w = seen g.H.Host.model c.args.self.now in
    let x = active_of (state_of w.books c.number_of_lsn-n.result) (sym c.is_active_at.ensures ∙ c.if-not-is_active_at.false) in
    let p = err_from_is_err_and c.from_residual.result c.from_residual.ensures.1 in
    ap (λ r. (r, world w.books (g.H.Host.model c.remove_blobs.new.host))) (p.1 ∙ ap Err p.2)
    ∙ deactivated_at g.H.Host.respond _ _ _ w x.0 _ _ _ _ c.number_of_lsn-n.ensures (to_z-of_z w64 c.args.lsn c.ranges.lsn) x.1 c.blobs_of.ensures c.remove_blobs.ensures c.in_err-remove_blobs.was

pub returns : goal.returns
returns g c =
    let w = seen g.H.Host.model c.args.self.now in
    let x = active_of (state_of w.books c.number_of_lsn-n.result) (sym c.is_active_at.ensures ∙ c.if-not-is_active_at.false) in
    ap (λ v. (Ok tt, v)) (c.close.ensures x.0 x.1)
    ∙ deactivated_at g.H.Host.respond _ _ _ w x.0 _ _ _ _ c.number_of_lsn-n.ensures (to_z-of_z w64 c.args.lsn c.ranges.lsn) x.1 c.blobs_of.ensures c.remove_blobs.ensures c.in_ok-remove_blobs.was
