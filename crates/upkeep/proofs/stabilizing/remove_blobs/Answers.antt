-- One removal is one step of the fold.
use Rattle.std.proofs.Common.{get_or, pos, Err, refl, ap, ◌∙◌, w64, rules}
use Rattle.std.proofs.lemmas.Result.{err_from_is_err_and}
use Rattle.std.proofs.lemmas.Int.{to_z-of_z}
use Rattle.host.specs.Meaning.{asked_remove}
use Rattle.segment.specs.declared.rows.BlobRow.{BlobRow}
use Rattle.rules.specs.Replacing.{blob_row}
use Rattle.rules.specs.Stabilizing.{remove_blobs, removed_by}
use Rattle.upkeep.proofs.Folds.{fold_more, fold_stop, fold_end}
use Rattle.upkeep.proofs.stabilizing.remove_blobs.Goals as goal

pub returns-in_err-remove : goal.returns-in_err-remove
returns-in_err-remove g c =
    let row : BlobRow = get_or c.args.rows.now c.loop-row.row-index (blob_row 0 (pos 0)) in
    let p = err_from_is_err_and c.from_residual.result c.from_residual.ensures.1 in
    ap (λ r. (r, g.H.Host.model c.remove.new.self)) (p.1 ∙ ap Err p.2)
    ∙ fold_stop (λ row. row.blob) (λ z m. g.H.Host.respond m (asked_remove z)) (remove_blobs g.H.Host.respond) (removed_by g.H.Host.respond) (λ s. refl) (λ x xs s. refl) (λ f s. refl) (λ f e s. refl) c.args.rows.now c.loop-row.row-index (g.H.Host.model c.loop-row.host) _ c.loop-row.invariant (blob_row 0 (pos 0)) _ _ _ c.loop-row-test.true (to_z-of_z w64 row.blob (search rules)) c.remove.ensures c.in_err-remove.field-0.0 c.in_err-remove.was

pub loop-row-preserved : goal.loop-row-preserved
loop-row-preserved g c =
    let row : BlobRow = get_or c.args.rows.now c.loop-row.row-index (blob_row 0 (pos 0)) in
    fold_more (λ row. row.blob) (λ z m. g.H.Host.respond m (asked_remove z)) (remove_blobs g.H.Host.respond) (removed_by g.H.Host.respond) (λ s. refl) (λ x xs s. refl) (λ f s. refl) (λ f e s. refl) c.args.rows.now c.loop-row.row-index (g.H.Host.model c.loop-row.host) _ c.loop-row.invariant (blob_row 0 (pos 0)) _ _ _ c.loop-row-test.true (to_z-of_z w64 row.blob (search rules)) c.remove.ensures c.in_ok-remove.was

pub returns : goal.returns
returns g c = fold_end (λ row. row.blob) (λ z m. g.H.Host.respond m (asked_remove z)) (remove_blobs g.H.Host.respond) (removed_by g.H.Host.respond) (λ s. refl) (λ x xs s. refl) (λ f s. refl) (λ f e s. refl) c.args.rows.now c.loop-row.row-index (g.H.Host.model c.loop-row.host) _ c.loop-row.invariant c.loop-row-test.false
