use Rattle.std.proofs.Common.{rules}
use Rattle.memory_host.proofs.Same.{same_blobs}
use Rattle.memory_host.proofs.blob_set.BlobSet.remove.Goals as goal

pub returns : goal.returns
returns c = same_blobs _ _ (search rules)
