-- The states of a ledger's segments, written one by one.
use Rattle.std.proofs.Common.{◌≡◌, ℕ, ◌<◌, List, length, set, sym, ap, ◌∙◌, subst, length-set}
use Rattle.std.proofs.lemmas.List.{set-set}
use Rattle.segment.specs.declared.state.State.{State}

-- a segment that is moved out, changed and written back
pub rewritten : (xs out after : List State) (i : ℕ) (s z : State) → out ≡ set xs i z → after ≡ set out i s → after ≡ set xs i s
rewritten xs out after i s z e f = f ∙ (ap (λ l. set l i s) e ∙ set-set xs i z s)

pub still_reached : (xs out : List State) (i : ℕ) (z : State) → out ≡ set xs i z → i < length xs → i < length out
still_reached xs out i z e h = subst (λ l. i < l) (sym (ap length e ∙ length-set xs i z)) h
