-- Blobs are the same if their rows are: that the rows ascend has one proof.
use Rattle.std.proofs.Common.{◌≡◌, List, ap, subst}
use mathlib.Core.Bool.{Bool-set}
use Rattle.memory_host.specs.Blobs.{Ascending, Blobs}
use Rattle.memory_host.specs.declared.blob.Blob.{Blob}

abbrev blobs : (rows : List Blob) → Ascending rows → Blobs
blobs rows up = record { rows = rows; up = up }

pub same_blobs : (s t : Blobs) → s.rows ≡ t.rows → s ≡ t
same_blobs s t e = subst (λ x. (up : Ascending x) → s ≡ blobs x up) e (λ up. ap (blobs s.rows) (Bool-set _ _ s.up up)) t.up
