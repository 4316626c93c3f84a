-- The memory host: a length, a segment size and blobs. It grants all.
use Rattle.std.specs.Prelude.{ℕ, ◌+◌, ◌-◌, ◌^◌, min, max, Bool, List, ℤ, None, Ok, Option}
use Rattle.memory_host.specs.Blobs.{Blobs, is_held, without, first_blobs}
use Rattle.memory_host.specs.Held.{blobs_of}
use Rattle.host.specs.Meaning.{Answer}
use Rattle.host.specs.declared.request.Request.{Request}
use Rattle.host.specs.declared.request.Request.TheVariants.{Cut, Fill, Remove}
use Rattle.memory_host.specs.declared.memory.MemoryHost.{MemoryHost}

pub record MemoryModel : Type 0 where
  pub extent : ℕ
  pub slot : ℕ
  pub blobs : Blobs

abbrev pub memory_model : MemoryHost → MemoryModel
memory_model h = record { extent = h.length; slot = h.segment_size; blobs = blobs_of h.blobs }

abbrev pub memory_made : ℕ → ℕ → List ℤ → MemoryModel
memory_made s l bs = record { extent = l; slot = s; blobs = first_blobs bs }

abbrev pub memory_holds : MemoryModel → ℤ → Bool
memory_holds m = is_held m.blobs

abbrev pub memory_respond : MemoryModel → Request → Answer × MemoryModel
memory_respond m (Cut o) = (Ok tt, record { extent = min m.extent o; slot = m.slot; blobs = m.blobs })
memory_respond m (Fill o) = (Ok tt, record { extent = max m.extent (min (o + m.slot) (2 ^ 64 - 1)); slot = m.slot; blobs = m.blobs })
memory_respond m (Remove b) = (Ok tt, record { extent = m.extent; slot = m.slot; blobs = without m.blobs b })

-- it writes no request down
abbrev pub memory_taken : MemoryModel → Option Request × MemoryModel
memory_taken m = (None, m)
