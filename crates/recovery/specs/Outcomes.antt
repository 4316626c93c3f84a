-- What a step of the recovery gives: the books after it, or the refusal. A refused start keeps no books, so nothing is said of those.
use Rattle.std.specs.Prelude.{Ok, Err, Result}
use Rattle.rules.specs.declared.refusal.Refusal.{Refusal}

abbrev pub outcome : {X : Type 0} → Result (Unit {0}) Refusal → X → Result X Refusal
outcome (Ok u) after = Ok after
outcome (Err refusal) after = Err refusal
