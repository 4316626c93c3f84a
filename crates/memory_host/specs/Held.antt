-- The blobs that a set of them holds.
use Rattle.table.specs.Held.{held}
use Rattle.memory_host.specs.Blobs.{Blobs}
use Rattle.memory_host.specs.declared.blob_set.BlobSet.{BlobSet}

abbrev pub blobs_of : BlobSet → Blobs
blobs_of s = record { rows = held s.table; up = s.table.up }
