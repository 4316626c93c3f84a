-- One deactivation is one step of the fold, and keeps what the books keep.
use Rattle.std.proofs.Common.{get_or, pos, Err, sym, refl, ap, ◌∙◌, subst, w64, rules, to_z, of_z}
use Rattle.std.proofs.lemmas.Result.{err_from_is_err_and}
use Rattle.std.proofs.lemmas.Int.{to_z-of_z}
use Rattle.segment.specs.declared.rows.OrderingRow.{OrderingRow}
use Rattle.rules.specs.Stabilizing.{deactivated, then_deactivated, deactivate_all}
use Rattle.orders.specs.Share.{Shared}
use Rattle.orders.proofs.ShareSteps.{share_steps}
use Rattle.orders.proofs.Stabilizes.{deactivated_keeps}
use Rattle.upkeep.specs.Worlds.{seen}
use Rattle.upkeep.proofs.Folds.{fold_more, fold_stop, fold_end}
use Rattle.upkeep.proofs.world.World.deactivate_all.Goals as goal

no_row : OrderingRow
no_row = record { lsn = pos 0; offset = 0 }

pub returns-in_err-deactivate : goal.returns-in_err-deactivate
unfolding deactivate_all no_row
returns-in_err-deactivate g c =
    let row : OrderingRow = get_or c.args.rows.now c.loop-row.row-index no_row in
    let p = err_from_is_err_and c.from_residual.result c.from_residual.ensures.1 in
    ap (λ r. (r, seen g.H.Host.model c.deactivate.new.self)) (p.1 ∙ ap Err p.2)
    ∙ fold_stop (λ row. row.lsn) (deactivated g.H.Host.respond) (deactivate_all g.H.Host.respond) (then_deactivated g.H.Host.respond) (λ s. refl) (λ x xs s. refl) (λ f s. refl) (λ f e s. refl) c.args.rows.now c.loop-row.row-index (seen g.H.Host.model c.loop-row.self) _ c.loop-row.invariant.1 no_row _ _ _ c.loop-row-test.true (to_z-of_z w64 row.lsn (search rules)) c.deactivate.ensures c.in_err-deactivate.field-0.0 c.in_err-deactivate.was

pub loop-row-preserved : goal.loop-row-preserved
unfolding deactivate_all no_row
loop-row-preserved g c =
    let row : OrderingRow = get_or c.args.rows.now c.loop-row.row-index no_row in (
      subst (λ o. Shared o.1.books) (sym c.deactivate.ensures) (deactivated_keeps g.H.Host.respond share_steps (to_z w64 (of_z w64 row.lsn)) (seen g.H.Host.model c.loop-row.self) c.loop-row.invariant.0),
      fold_more (λ row. row.lsn) (deactivated g.H.Host.respond) (deactivate_all g.H.Host.respond) (then_deactivated g.H.Host.respond) (λ s. refl) (λ x xs s. refl) (λ f s. refl) (λ f e s. refl) c.args.rows.now c.loop-row.row-index (seen g.H.Host.model c.loop-row.self) _ c.loop-row.invariant.1 no_row _ _ _ c.loop-row-test.true (to_z-of_z w64 row.lsn (search rules)) c.deactivate.ensures c.in_ok-deactivate.was,
    )

pub returns : goal.returns
unfolding deactivate_all
returns g c = fold_end (λ row. row.lsn) (deactivated g.H.Host.respond) (deactivate_all g.H.Host.respond) (then_deactivated g.H.Host.respond) (λ s. refl) (λ x xs s. refl) (λ f s. refl) (λ f e s. refl) c.args.rows.now c.loop-row.row-index (seen g.H.Host.model c.loop-row.self) _ c.loop-row.invariant.1 c.loop-row-test.false
