-- The worked runs (docs/RULES.md, section 14): call lists over a memory host at S = 512, their replies, and what is then in the books.
use Rattle.std.specs.Prelude.{◌≡◌, ℕ, zero, suc, ◌*◌, List, [], ◌∷◌, ◌++◌, pos, Some, None, Ok, Option}
use Rattle.host.specs.Meaning.{asked_cut}
use Rattle.memory_host.specs.Memory.{MemoryModel, memory_made, memory_respond}
use Rattle.segment.specs.Pointers.{inline}
use Rattle.segment.specs.declared.cache_info.CacheInfo.{CacheInfo}
use Rattle.segment.specs.declared.state.State.{State}
use Rattle.segment.specs.declared.state.State.TheVariants as is
use Rattle.rules.specs.Books.{Books, state_of}
use Rattle.rules.specs.Runs.{Call, Start, Link, Replace, Next, Stabilize, Pop, Reply, Done, Gave, Popped, Refused, run_from, Log, recorded}
use Rattle.rules.specs.Starting.{Plan}
use Rattle.rules.specs.declared.refusal.Refusal.TheVariants as no

-- an empty snapshot
abbrev pub empty_plan : Plan
empty_plan = record { size = 512; header = 32; stable = None; active = None; directory = []; rows = [] }

-- an entry of the log, at an LSN and an offset, of so many bytes
abbrev pub entry : ℕ → ℕ → ℕ → CacheInfo
entry lsn offset size = record { ts = 0; lsn = pos lsn; pointer = inline offset; log_size = size }

-- a run on an empty file, over a memory host that also writes down what it is asked
abbrev pub played : List Call → List Reply × Option Books × (MemoryModel × Log)
played cs = run_from (recorded memory_respond) (λ m. m.0.slot) (λ m. m.0.extent) (Start empty_plan ∷ cs) None (memory_made 512 0 [], [])

-- ---- what is said of the end of a run
pub data Fact : Type 0 where
  tip_is : ℕ → Fact
  free_are : List ℕ → Fact
  listed_are : List ℕ → Fact
  segment_is : ℕ → State → Fact
  asked_are : Log → Fact

abbrev pub HoldsIn : Books → Log → Fact → Type 0
HoldsIn b log (tip_is tip) = b.tip ≡ tip
HoldsIn b log (free_are offsets) = b.free ≡ offsets
HoldsIn b log (listed_are offsets) = b.listed ≡ offsets
HoldsIn b log (segment_is n s) = state_of b n ≡ s
HoldsIn b log (asked_are asked) = log ≡ asked

abbrev pub Holds : Option Books → Log → Fact → Type 0
Holds None log fact = ⊥
Holds (Some b) log fact = HoldsIn b log fact

abbrev pub AllHold : Option Books → Log → List Fact → Type 0
AllHold b log [] = Unit {0}
AllHold b log (fact ∷ facts) = Holds b log fact × AllHold b log facts

pub record Case : Type 0 where
  pub calls : List Call
  pub replies : List Reply
  pub facts : List Fact

abbrev pub case : List Call → List Reply → List Fact → Case
case cs rs fs = record { calls = cs; replies = rs; facts = fs }

abbrev pub ComesOut : Case → Type 0
ComesOut c = ((played c.calls).0 ≡ Done ∷ c.replies) × AllHold (played c.calls).1 (played c.calls).2.1 c.facts

abbrev pub AllComeOut : List Case → Type 0
AllComeOut [] = Unit {0}
AllComeOut (c ∷ cs) = ComesOut c × AllComeOut cs

-- ---- states
abbrev pub active : ℕ → ℕ → ℕ → ℕ → State
active lsn linked deferred latest = is.Active (record { lsn = pos lsn; rss = linked; deferred_replaced_rss = deferred; latest_replacement_lsn = pos latest })

abbrev pub inactive : ℕ → ℕ → ℕ → ℕ → ℕ → State
inactive lsn live pages left latest = is.Inactive (record { lsn = pos lsn; rss = live; max_pids = pages; replaced_pids = left; latest_replacement_lsn = pos latest })

abbrev pub draining : ℕ → ℕ → ℕ → ℕ → State
draining lsn pages left latest = is.Draining (record { lsn = pos lsn; max_pids = pages; replaced_pids = left; latest_replacement_lsn = pos latest })

abbrev pub free : ℕ → State
free lsn = is.Free (record { previous_lsn = Some (pos lsn) })

-- ---- the runs
-- two segments; page 7 is written into the first and replaced in the second
abbrev pub replaced_once : List Call
replaced_once = Next (pos 0) ∷ (Next (pos 512) ∷ (Link 7 (entry 16 16 300) ∷ (Replace 7 (pos 520) (entry 16 16 300 ∷ []) (entry 520 520 300) ∷ [])))

abbrev pub replaced_replies : List Reply
replaced_replies = Gave 0 ∷ (Gave 512 ∷ (Done ∷ (Done ∷ [])))

-- a page of this size in segment 0, which is then deactivated
abbrev pub one_page : ℕ → List Call
one_page size = Next (pos 0) ∷ (Next (pos 512) ∷ (Link 1 (entry 0 0 size) ∷ (Stabilize (pos 1023) ∷ (Pop ∷ []))))

-- segments n, n + 1, .. of a page each: handed out and linked
abbrev pub pages_from : ℕ → ℕ → List Call
pages_from n zero = []
pages_from n (suc k) = Next (pos (n * 512)) ∷ (Link n (entry (n * 512) (n * 512) 300) ∷ pages_from (suc n) k)

-- the pages n, n + 1, .. are replaced in segment 13
abbrev pub moved_from : ℕ → ℕ → List Call
moved_from n zero = []
moved_from n (suc k) = Replace n (pos 6656) (entry (n * 512) (n * 512) 300 ∷ []) (entry 6656 6656 0) ∷ moved_from (suc n) k

abbrev pub pages_replies : ℕ → ℕ → List Reply
pages_replies n zero = []
pages_replies n (suc k) = Gave (n * 512) ∷ (Done ∷ pages_replies (suc n) k)

abbrev pub dones : ℕ → List Reply
dones zero = []
dones (suc k) = Done ∷ dones k

-- six segments with a page each, seven whose pages went to segment 13 and that it holds back
abbrev pub half_held_back : List Call
half_held_back = pages_from 0 13 ++ (Next (pos 6656) ∷ (moved_from 6 7 ++ (Stabilize (pos 6656) ∷ (Pop ∷ []))))

abbrev pub worked_runs : List Case
worked_runs =
    -- 1 to 3: two segments are handed out at the tip; the replaced bytes are deferred
    case replaced_once replaced_replies (segment_is 0 (active 0 300 300 512) ∷ (segment_is 1 (active 512 300 0 0) ∷ (tip_is 1024 ∷ [])))
    -- 4: nothing is stable yet; then segment 0 is Free and held back by segment 1, so that the file is extended
    ∷ (case (replaced_once ++ (Stabilize (pos 511) ∷ [])) (replaced_replies ++ (Done ∷ [])) (segment_is 0 (active 0 300 300 512) ∷ [])
    ∷ (case (replaced_once ++ (Stabilize (pos 1023) ∷ (Next (pos 1024) ∷ []))) (replaced_replies ++ (Done ∷ (Gave 1024 ∷ []))) (segment_is 0 (free 0) ∷ (free_are [] ∷ (tip_is 1536 ∷ [])))
    -- 5: with segment 1 stable too, segment 0 is free and is handed out again
    ∷ (case (replaced_once ++ (Stabilize (pos 1024) ∷ [])) (replaced_replies ++ (Done ∷ [])) (free_are (0 ∷ []) ∷ (segment_is 1 (inactive 512 300 1 0 0) ∷ []))
    ∷ (case (replaced_once ++ (Stabilize (pos 1024) ∷ (Next (pos 1024) ∷ []))) (replaced_replies ++ (Done ∷ (Gave 0 ∷ []))) (free_are [] ∷ (segment_is 0 (active 1024 0 0 0) ∷ (tip_is 1024 ∷ [])))
    -- 6: 261 live bytes drain, 262 do not
    ∷ (case (one_page 261) (Gave 0 ∷ (Gave 512 ∷ (Done ∷ (Done ∷ (Popped (Some (1, 0)) ∷ []))))) (segment_is 0 (draining 0 1 0 0) ∷ (listed_are (0 ∷ []) ∷ []))
    ∷ (case (one_page 262) (Gave 0 ∷ (Gave 512 ∷ (Done ∷ (Done ∷ (Popped None ∷ []))))) (segment_is 0 (inactive 0 262 1 0 0) ∷ (listed_are [] ∷ []))
    -- 7: the tip is 1,536 and 512 is free when 1,024 is freed: the file is cut there
    ∷ (case (Next (pos 0) ∷ (Next (pos 512) ∷ (Next (pos 1024) ∷ (Link 1 (entry 0 0 300) ∷ (Stabilize (pos 1536) ∷ [])))))
    (Gave 0 ∷ (Gave 512 ∷ (Gave 1024 ∷ (Done ∷ (Done ∷ [])))))
    (tip_is 1024 ∷ (free_are (512 ∷ []) ∷ (asked_are ((asked_cut 1024, Ok tt) ∷ []) ∷ [])))
    -- 8: any LSN from the offset on will do; one below it, or between two segments, will not
    ∷ (case (Next (pos 512) ∷ (Next (pos 0) ∷ (Next (pos 513) ∷ []))) (Gave 0 ∷ (Refused no.BelowOffset ∷ (Refused no.Unaligned ∷ []))) (tip_is 512 ∷ [])
    -- live bytes leave out what was replaced while the segment was Active: 200 of 500 bytes are live, and it drains
    ∷ (case (Next (pos 0) ∷ (Next (pos 512) ∷ (Link 1 (entry 0 0 300) ∷ (Link 2 (entry 0 0 200) ∷ (Replace 1 (pos 512) (entry 0 0 300 ∷ []) (entry 512 512 300) ∷ (Stabilize (pos 1023) ∷ (Pop ∷ [])))))))
    (Gave 0 ∷ (Gave 512 ∷ (Done ∷ (Done ∷ (Done ∷ (Done ∷ (Popped (Some (2, 0)) ∷ [])))))))
    (segment_is 0 (draining 0 2 1 512) ∷ [])
    -- seven segments held back count as Free beside six Inactive ones, though none is on the free list: segment 5 drains
    ∷ (case half_held_back (pages_replies 0 13 ++ (Gave 6656 ∷ (dones 7 ++ (Done ∷ (Popped (Some (5, 2560)) ∷ []))))) (free_are [] ∷ (segment_is 5 (draining 2560 1 0 0) ∷ (segment_is 12 (free 6144) ∷ [])))
    ∷ []))))))))))

abbrev pub WorkedRunsComeOut : Type 0
WorkedRunsComeOut = AllComeOut worked_runs
