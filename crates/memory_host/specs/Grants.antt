-- The memory host has the meaning, and so has the queue host over it: one is granted all, the other what finds a place.
use Rattle.std.specs.Prelude.{Bool, true, false, cond, is_some, Err, refl}
use Rattle.std.proofs.Common.{sym, ap, arith}
use Rattle.table.specs.Order.{signed_lawful}
use Rattle.table.proofs.Laws.{find_remove_same, find_remove_other}
use Rattle.memory_host.specs.Blobs.{pointer}
use Rattle.host.specs.Meaning.{Sight, Obeys, Refused, refusal, sight}
use Rattle.memory_host.specs.Memory.{MemoryModel, memory_holds, memory_respond}
use Rattle.memory_host.specs.Queue.{QueueModel, has_place, noted, queue_respond}
use Rattle.host.specs.declared.request.Request.{Request}
use Rattle.host.specs.declared.request.Request.TheVariants.{Cut, Fill, Remove}

pub memory_obeys : (m : MemoryModel) (q : Request) → Obeys (sight (λ m. m.extent) memory_holds (λ m. m.slot)) m q (memory_respond m q)
memory_obeys m (Cut o) = record { extent_is = refl; blobs_are = λ b. refl; slot_stays = refl }
memory_obeys m (Fill o) = record { extent_is = refl; blobs_are = λ b. refl; slot_stays = refl }
memory_obeys m (Remove b) = record {
  extent_is = refl;
  blobs_are = (ap is_some (find_remove_same pointer signed_lawful m.blobs.rows b m.blobs.up), λ d n. ap is_some (find_remove_other pointer signed_lawful m.blobs.rows b d m.blobs.up (λ e. n (sym e))));
  slot_stays = refl;
}

-- a request that is refused with code 2, and nothing changes
full_refused : (s : Sight) (q : Request) → Refused s q (refusal q 2 0) s
full_refused s (Cut o) = record { unchanged = record { extent_stays = refl; blobs_stay = λ b. refl; slot_stays = refl }; request_is = refl; code_least = omega arith; code_most = omega arith; layer_most = omega arith }
full_refused s (Fill o) = record { unchanged = record { extent_stays = refl; blobs_stay = λ b. refl; slot_stays = refl }; request_is = refl; code_least = omega arith; code_most = omega arith; layer_most = omega arith }
full_refused s (Remove b) = record { unchanged = record { extent_stays = refl; blobs_stay = λ b. refl; slot_stays = refl }; request_is = refl; code_least = omega arith; code_most = omega arith; layer_most = omega arith }

abbrev queue_sight : QueueModel → Sight
queue_sight = sight (λ m. m.memory.extent) (λ m. memory_holds m.memory) (λ m. m.memory.slot)

pub queue_obeys : (m : QueueModel) (q : Request) → Obeys queue_sight m q (queue_respond m q)
queue_obeys m q = on (has_place m.queued)
  where
    on : (t : Bool) → Obeys queue_sight m q (cond t ((memory_respond m.memory q).0, record { memory = (memory_respond m.memory q).1; queued = noted m.queued q }) (Err (refusal q 2 0), m))
    on true = memory_obeys m.memory q
    on false = full_refused (queue_sight m) q
