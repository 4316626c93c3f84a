-- A call is safe, whatever led to the books and the host that it finds.
use Rattle.std.specs.Prelude.{◌≡◌, ℕ, Bool, List, ℤ, Option}
use Rattle.host.specs.Meaning.{Answer}
use Rattle.host.specs.declared.request.Request.{Request}
use Rattle.rules.specs.Books.{Books}
use Rattle.rules.specs.Runs.{Call}
use Rattle.rules.specs.Safety.{Safe, new, after_calls}

module _ {M : Type 0} (respond : M → Request → Answer × M) (slot extent : M → ℕ) (held : M → ℤ → Bool) where
  abbrev pub Safely : Option Books → M → Call → Type 0
  Safely b m c =
      (first : M) (cs : List Call) → (after_calls respond slot extent (new respond slot extent first) cs).books ≡ b → (after_calls respond slot extent (new respond slot extent first) cs).host ≡ m
      → Safe respond slot extent held (after_calls respond slot extent (new respond slot extent first) cs) c
