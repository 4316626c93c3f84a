-- What is entered so far, with what is yet to come, is what the whole list gives.
use Rattle.std.proofs.Common.{◌≡◌, ◌+◌, ◌≤◌, length, drop}
use Rattle.table.specs.Held.{held}
use Rattle.memory_host.specs.Blobs.{with_all}
use Rattle.memory_host.specs.Held.{blobs_of}
use Rattle.memory_host.proofs.blob_set.BlobSet.enter.Given as goal

abbrev pub invariant-loop-blob : goal.invariant-loop-blob
invariant-loop-blob l =
    (length (held l.self.table) ≤ length (held l.initial.self.table) + l.blob-index)
    × (with_all (blobs_of l.self) (drop l.blob-index l.list) ≡ with_all (blobs_of l.initial.self) l.list)
