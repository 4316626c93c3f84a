-- What the books keep, in and out of the accountant.
use Rattle.std.proofs.Common.{◌≡◌, Bool, true, false, Some, Option, sym, subst, true≢false}
use mathlib.Core.Logic.{∥∥₁_elim}
use Rattle.rules.specs.Books.{Books}
use Rattle.orders.specs.Always.{IfAny}
use Rattle.orders.specs.Share.{Shared}
use Rattle.accountant.specs.Kept.{books_if}
use Rattle.accountant.proofs.Props.{shared_prop}

-- an accountant that was started has books that keep all
pub taken_out : (t : Bool) (b : Books) → t ≡ true → ∥ IfAny Shared (books_if t b) ∥₁ → Shared b
taken_out true b e k = ∥∥₁_elim k (shared_prop b) (λ s. s)
taken_out false b e k = absurd (true≢false (sym e))

-- and still has, where a call leaves books that keep all
pub still_kept : (t : Bool) (b after : Books) (o : Option Books) → t ≡ true → ∥ IfAny Shared (books_if t b) ∥₁ → Some after ≡ o → (Shared b → IfAny Shared o) → ∥ IfAny Shared (books_if t after) ∥₁
still_kept true b after o e k q keeps = ∣ subst (IfAny Shared) (sym q) (keeps (taken_out true b e k)) ∣₁
still_kept false b after o e k q keeps = ∣ tt ∣₁
