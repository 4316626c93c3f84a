-- A call that is refused, but not by the host, leaves the books and the host as they were.
use Rattle.std.specs.Prelude.{◌≡◌, ℕ, None, Option}
use Rattle.host.specs.Meaning.{Answer}
use Rattle.host.specs.declared.request.Request.{Request}
use Rattle.rules.specs.declared.refusal.Refusal.{Refusal}
use Rattle.rules.specs.Books.{Books}
use Rattle.rules.specs.Refusals.{fault_in}
use Rattle.rules.specs.Runs.{Call, Refused, step}

module _ {M : Type 0} (respond : M → Request → Answer × M) (slot extent : M → ℕ) where
  abbrev pub RefusalsLeaveAll : Type 0
  RefusalsLeaveAll =
      (c : Call) (b : Option Books) (m : M) (r : Refusal) → (step respond slot extent c b m).0 ≡ Refused r → fault_in r ≡ None → ((step respond slot extent c b m).1 ≡ b) × ((step respond slot extent c b m).2 ≡ m)
