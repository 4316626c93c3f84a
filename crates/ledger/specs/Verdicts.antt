-- What a check answers: nothing, or the refusal.
use Rattle.std.specs.Prelude.{Some, None, Ok, Err, Option, Result}
use Rattle.rules.specs.declared.refusal.Refusal.{Refusal}

abbrev pub verdict : Option Refusal → Result (Unit {0}) Refusal
verdict None = Ok tt
verdict (Some refusal) = Err refusal
