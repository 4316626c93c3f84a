-- The fail layer, over any host: it passes n requests on, refuses the one after, and passes all later ones.
use Rattle.std.specs.Prelude.{ℕ, zero, suc, ◌+◌, min, Bool, true, false, cond, Some, None, Ok, Err, Option}
use Rattle.host.specs.Meaning.{Answer, refusal}
use Rattle.host.specs.declared.request.Request.{Request}
use Rattle.host.specs.declared.request.HostFault.{HostFault}
use Rattle.host.specs.declared.request.HostFault.TheVariants.{Cut, Fill, Remove}
use Rattle.host.specs.declared.fail.FailLayer.{FailLayer}

-- How many requests pass before the refusal, or none once it has come. Whether the next one passes, and what is left then.
abbrev pub passes_on : Option ℕ → Bool
passes_on None = true
passes_on (Some zero) = false
passes_on (Some (suc n)) = true

abbrev pub left_after : Option ℕ → Option ℕ
left_after None = None
left_after (Some zero) = None
left_after (Some (suc n)) = Some n

-- one layer more, 255 at most
abbrev pub layer_above : ℕ → ℕ
layer_above l = min (l + 1) 255

-- a fault from below
abbrev pub raised : HostFault → HostFault
raised (Cut o c l) = Cut o c (layer_above l)
raised (Fill o c l) = Fill o c (layer_above l)
raised (Remove b c l) = Remove b c (layer_above l)

abbrev pub raised_answer : Answer → Answer
raised_answer (Ok u) = Ok u
raised_answer (Err e) = Err (raised e)

module _ {M : Type 0} where
  abbrev pub handed_up : Option ℕ → Answer × M → Answer × (Option ℕ × M)
  handed_up o a = (raised_answer a.0, (o, a.1))

  abbrev pub fail_respond : (M → Request → Answer × M) → Option ℕ × M → Request → Answer × (Option ℕ × M)
  fail_respond respond s q = cond (passes_on s.0) (handed_up (left_after s.0) (respond s.1 q)) (Err (refusal q 9 0), (left_after s.0, s.1))

  -- a request is taken from the host below
  abbrev pub fail_taken : (M → Option Request × M) → Option ℕ × M → Option Request × (Option ℕ × M)
  fail_taken taken s = ((taken s.1).0, (s.0, (taken s.1).1))

  -- the state of a layer, by that of the host below
  abbrev pub fail_model : {H : Type 0} → (H → M) → FailLayer H → Option ℕ × M
  fail_model model f = (f.left, model f.below)
