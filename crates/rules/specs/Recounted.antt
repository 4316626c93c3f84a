-- The recount, and who holds whom back, on the worked runs.
use Rattle.std.specs.Prelude.{◌≡◌, true, false, List, [], ◌∷◌, ◌++◌, pos, negsuc}
use Rattle.memory_host.specs.Memory.{MemoryModel, memory_made, memory_respond}
use Rattle.rules.specs.Runs.{Call, Start, Next, Stabilize}
use Rattle.rules.specs.Safety.{Moment, new, after_calls}
use Rattle.rules.specs.Worked.{empty_plan, replaced_once}

abbrev pub moment : List Call → Moment MemoryModel
moment cs = after_calls memory_respond (λ m. m.slot) (λ m. m.extent) (new memory_respond (λ m. m.slot) (λ m. m.extent) (memory_made 512 0 [])) (Start empty_plan ∷ cs)

pub record RecountOfWorkedRuns : Type 0 where
  -- page 7 was written into segment 0 and replaced in segment 1, whose LSN is 512; nothing is stable
  pub bytes_left : (moment replaced_once).count.live 0 ≡ pos 0
  pub bytes_there : (moment replaced_once).count.live 1 ≡ pos 300
  pub page_left : (moment replaced_once).count.lies 0 7 ≡ false
  pub page_there : (moment replaced_once).count.lies 1 7 ≡ true
  pub base_noted : (moment replaced_once).count.noted 0 ≡ pos 512 ∷ []
  pub nothing_stored : (moment replaced_once).count.stored ≡ negsuc 0
  -- segment 0 alone is stable: segment 1 holds it back
  pub held_back : (moment (replaced_once ++ (Stabilize (pos 1023) ∷ []))).holds 0 1 ≡ true
  pub first_stored : (moment (replaced_once ++ (Stabilize (pos 1023) ∷ []))).count.stored ≡ pos 0
  -- both are stable: nothing holds it back, and once it is handed out again nothing is noted for it
  pub released : (moment (replaced_once ++ (Stabilize (pos 1024) ∷ []))).holds 0 1 ≡ false
  pub second_stored : (moment (replaced_once ++ (Stabilize (pos 1024) ∷ []))).count.stored ≡ pos 512
  pub noted_no_more : (moment (replaced_once ++ (Stabilize (pos 1024) ∷ (Next (pos 1024) ∷ [])))).count.noted 0 ≡ []
  pub new_lsn : (moment (replaced_once ++ (Stabilize (pos 1024) ∷ (Next (pos 1024) ∷ [])))).count.lsn 0 ≡ pos 1024
