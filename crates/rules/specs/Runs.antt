-- Runs: a new accountant over a host, and any list of calls.
use Rattle.std.specs.Prelude.{ℕ, List, [], ◌∷◌, ◌++◌, ℤ, Ok, Err, Option, Result}
use Rattle.host.specs.Meaning.{Answer}
use Rattle.host.specs.declared.request.Request.{Request}
use Rattle.segment.specs.declared.cache_info.CacheInfo.{CacheInfo}
use Rattle.rules.specs.declared.refusal.Refusal.{Refusal}
use Rattle.rules.specs.Books.{Books}
use Rattle.rules.specs.Calls as call
use Rattle.rules.specs.Starting.{Plan}

pub data Call : Type 0 where
  Start : Plan → Call
  Link : ℕ → CacheInfo → Call
  Replace : ℕ → ℤ → List CacheInfo → CacheInfo → Call
  Next : ℤ → Call
  Stabilize : ℤ → Call
  Pop : Call

pub data Reply : Type 0 where
  -- start, link, replace and stabilize
  Done : Reply
  -- the offset that next answers
  Gave : ℕ → Reply
  -- what pop answers: a page and its segment's offset, or none
  Popped : Option (ℕ × ℕ) → Reply
  Refused : Refusal → Reply

abbrev pub reply : {X : Type 0} → (X → Reply) → Result X Refusal → Reply
reply f (Ok x) = f x
reply f (Err refusal) = Refused refusal

abbrev pub replied : {X M : Type 0} → (X → Reply) → call.Outcome X M → Reply × Option Books × M
replied f o = (reply f o.0, o.1, o.2)

module _ {M : Type 0} (respond : M → Request → Answer × M) (slot extent : M → ℕ) where
  -- one call
  abbrev pub step : Call → Option Books → M → Reply × Option Books × M
  step (Start s) b m = replied (λ u. Done) (call.start respond slot extent s b m)
  step (Link p info) b m = replied (λ u. Done) (call.link respond slot extent p info b m)
  step (Replace p lsn olds new) b m = replied (λ u. Done) (call.replace respond slot extent p lsn olds new b m)
  step (Next lsn) b m = replied Gave (call.next respond slot extent lsn b m)
  step (Stabilize lsn) b m = replied (λ u. Done) (call.stabilize respond slot extent lsn b m)
  step Pop b m = replied Popped (call.pop respond slot extent b m)

  abbrev pub then_run : (Option Books → M → List Reply × Option Books × M) → Reply × Option Books × M → List Reply × Option Books × M
  then_run rest o = (o.0 ∷ (rest o.1 o.2).0, (rest o.1 o.2).1, (rest o.1 o.2).2)

  -- the replies, the books and the host after a list of calls
  unfoldable pub run_from : List Call → Option Books → M → List Reply × Option Books × M
  run_from [] b m = ([], b, m)
  run_from (c ∷ cs) b m = then_run (run_from cs) (step c b m)

-- ---- what is asked of the host: the same rules over a host that also writes down each request with its answer
abbrev pub Log : Type 0
Log = List (Request × Answer)

module _ {M : Type 0} where
  abbrev pub noted : Log → Request → Answer × M → Answer × (M × Log)
  noted log q a = (a.0, (a.1, log ++ (q, a.0) ∷ []))

  abbrev pub recorded : (M → Request → Answer × M) → M × Log → Request → Answer × (M × Log)
  recorded respond s q = noted s.1 q (respond s.0 q)
