-- What holds of the books after every call, and after every run.
use Rattle.std.specs.Prelude.{ℕ, List, Some, None, Option}
use Rattle.host.specs.Meaning.{Answer}
use Rattle.host.specs.declared.request.Request.{Request}
use Rattle.rules.specs.Books.{Books}
use Rattle.rules.specs.Runs.{Call, step, run_from}

-- of the books, if there are any: there are none before an accepted start
abbrev pub IfAny : (Books → Type 0) → Option Books → Type 0
IfAny P None = Unit {0}
IfAny P (Some b) = P b

module _ {M : Type 0} (respond : M → Request → Answer × M) (slot extent : M → ℕ) where
  -- no call takes it away
  abbrev pub Kept : (Books → Type 0) → Type 0
  Kept P = (c : Call) (b : Option Books) (m : M) → IfAny P b → IfAny P (step respond slot extent c b m).1

  -- it holds after any calls, over a host in any state
  abbrev pub Always : (Books → Type 0) → Type 0
  Always P = (cs : List Call) (m : M) → IfAny P (run_from respond slot extent cs None m).1
