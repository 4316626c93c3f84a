use Rattle.std.proofs.Common.{◌≡◌, ◌<◌, length, get_or, ℤ, pos, sym, ap, ◌∙◌, arith, w64, SFits, rules}
use Rattle.std.proofs.lemmas.List.{at_drop_all}
use Rattle.std.proofs.lemmas.Int.{to_z-of_z}
use Rattle.table.specs.Held.{held}
use Rattle.table.specs.Rows.{insert_row}
use Rattle.memory_host.specs.Blobs.{pointer, by_pointer, row_of, with_all}
use Rattle.memory_host.specs.Held.{blobs_of}
use Rattle.memory_host.proofs.Entering.{has_room, one_more, next_entered}
use Rattle.memory_host.proofs.blob_set.BlobSet.enter.Goals as goal

pub loop-blob-preserved : goal.loop-blob-preserved
loop-blob-preserved c =
    let set = c.loop-blob.self in
    let rows = held set.table in
    let i = c.loop-blob.blob-index in
    let bs = c.args.list.now in
    let b : ℤ = get_or bs i (pos 0) in
    let fits : SFits w64 b = search rules in
    let room : length rows < 1024 = omega (arith, c.loop-blob.invariant.0, c.requires) in
    let put : held c.insert.new.self ≡ insert_row pointer by_pointer rows (row_of b) =
    has_room c.insert.result _ _ _ _ _ c.insert.ensures.cases room ∙ ap (λ z. insert_row pointer by_pointer rows (row_of z)) (to_z-of_z w64 b fits) in
    (omega (arith, ap length put, one_more rows b, c.loop-blob.invariant.0), next_entered (blobs_of set) _ bs i c.loop-blob-test.true put ∙ c.loop-blob.invariant.1)

pub returns : goal.returns
returns c = sym (at_drop_all (with_all (blobs_of c.loop-blob.self)) c.args.list.now c.loop-blob.blob-index c.loop-blob-test.false) ∙ c.loop-blob.invariant.1
