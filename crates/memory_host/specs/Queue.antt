-- The queue host: a memory host that also writes each request into a list of at most 64, oldest first, for another program to take.
use Rattle.std.specs.Prelude.{ℕ, Bool, cond, List, [], ◌∷◌, ◌++◌, length, ℤ, Some, None, Err, vec_items, Option, nat_lt}
use Rattle.host.specs.Meaning.{Answer, refusal}
use Rattle.memory_host.specs.Memory.{MemoryModel, memory_model, memory_respond, memory_made}
use Rattle.host.specs.declared.request.Request.{Request}
use Rattle.memory_host.specs.declared.queue.QueueHost.{QueueHost}

pub record QueueModel : Type 0 where
  pub memory : MemoryModel
  pub queued : List Request

abbrev pub queue_model : QueueHost → QueueModel
queue_model h = record { memory = memory_model h.memory; queued = vec_items h.requests }

abbrev pub has_place : List Request → Bool
has_place qs = nat_lt (length qs) 64

-- the list with one request more, if there is a place for it
abbrev pub noted : List Request → Request → List Request
noted qs q = cond (has_place qs) (qs ++ q ∷ []) qs

-- a full list refuses with code 2, and nothing changes; else the request is written down and counts as done
abbrev pub queue_respond : QueueModel → Request → Answer × QueueModel
queue_respond m q = cond (has_place m.queued) ((memory_respond m.memory q).0, record { memory = (memory_respond m.memory q).1; queued = noted m.queued q }) (Err (refusal q 2 0), m)

-- the oldest request of a list, and the list without it
abbrev pub oldest : List Request → Option Request
oldest [] = None
oldest (q ∷ qs) = Some q

abbrev pub later : List Request → List Request
later [] = []
later (q ∷ qs) = qs

abbrev pub queue_taken : QueueModel → Option Request × QueueModel
queue_taken m = (oldest m.queued, record { memory = m.memory; queued = later m.queued })

abbrev pub queue_made : ℕ → ℕ → List ℤ → QueueModel
queue_made s l bs = record { memory = memory_made s l bs; queued = [] }
