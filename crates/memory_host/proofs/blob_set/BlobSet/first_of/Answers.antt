use Rattle.std.proofs.Common.{◌≡◌, take, ap, ◌∙◌, arith}
use Rattle.memory_host.specs.Blobs.{none, is_held, with_all, first_blobs}
use Rattle.memory_host.specs.Held.{blobs_of}
use Rattle.memory_host.proofs.Entering.{first_among, held_entered}
use Rattle.memory_host.proofs.Same.{same_blobs}
use Rattle.memory_host.proofs.blob_set.BlobSet.first_of.Goals as goal

pub returns : goal.returns
returns c =
    let bs = c.args.list.now in
    let n = c.min.result in
    let first : take n bs ≡ take 1024 bs = first_among bs 1024 n (omega (arith, c.min.ensures)) in
    let rows : blobs_of c.enter.new.self ≡ first_blobs bs =
    c.enter.ensures ∙ ap (λ s. with_all s (take n bs)) (same_blobs _ none c.in_ok-table.ensures) ∙ ap (with_all none) first in
    record { rows = rows; members = λ b. ap (λ s. is_held s b) rows ∙ held_entered none (take 1024 bs) b }
