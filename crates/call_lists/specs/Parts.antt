-- What the fields of a pointer, an info and a row say, where they can be read.
use Rattle.std.specs.Prelude.{◌≡◌, ℕ, List, Ok, codes}
use Rattle.segment.specs.declared.cache_info.CacheInfo.{CacheInfo}
use Rattle.segment.specs.declared.disk_pointer.DiskPtr.{DiskPtr}
use Rattle.segment.specs.declared.disk_pointer.DiskPtr.TheVariants.{Inline, Blob}
use Rattle.segment.specs.declared.snapshot.SnapshotRow.{SnapshotRow}
use Rattle.call_lists.specs.Numbers.{Unsigned, UnsignedOf, Signed}

-- a dash in place of the blob stands for an inline pointer
abbrev pub Pointer : List ℕ → List ℕ → DiskPtr → Type 0
Pointer offset blob (Inline o) = Unsigned offset (Ok o) × (blob ≡ codes "-")
Pointer offset blob (Blob o b) = Unsigned offset (Ok o) × Signed blob (Ok b)

pub record Info (ts lsn offset blob size : List ℕ) (i : CacheInfo) : Type 0 where
  pub ts_is : Unsigned ts (Ok i.ts)
  pub lsn_is : Signed lsn (Ok i.lsn)
  pub pointer_is : Pointer offset blob i.pointer
  pub size_is : Unsigned size (Ok i.log_size)

pub record Row (kind lsn offset blob size : List ℕ) (r : SnapshotRow) : Type 0 where
  pub kind_is : UnsignedOf 8 kind (Ok r.kind)
  pub lsn_is : Signed lsn (Ok r.lsn)
  pub pointer_is : Pointer offset blob r.pointer
  pub size_is : Unsigned size (Ok r.size)
