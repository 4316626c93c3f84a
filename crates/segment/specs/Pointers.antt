-- What a pointer points to.
use Rattle.std.specs.Prelude.{ℕ, ℤ, Some, None, Option}
use Rattle.segment.specs.declared.disk_pointer.DiskPtr.{DiskPtr}
use Rattle.segment.specs.declared.disk_pointer.DiskPtr.TheVariants as ptr

abbrev pub inline : ℕ → DiskPtr
inline offset = ptr.Inline offset

abbrev pub blob : ℕ → ℤ → DiskPtr
blob offset name = ptr.Blob offset name

-- the offset in the log file
abbrev pub lid_of : DiskPtr → ℕ
lid_of (ptr.Inline offset) = offset
lid_of (ptr.Blob offset name) = offset

abbrev pub blob_of : DiskPtr → Option ℤ
blob_of (ptr.Inline offset) = None
blob_of (ptr.Blob offset name) = Some name
