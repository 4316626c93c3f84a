-- A request as a call list and a transcript write it.
use Rattle.std.specs.Prelude.{List, ℕ, ◌++◌, codes}
use Rattle.std.specs.Fmt.{decimal, signed_decimal}
use Rattle.host.specs.declared.request.Request.{Request}
use Rattle.host.specs.declared.request.Request.TheVariants.{Cut, Fill, Remove}

abbrev pub text_of : Request → List ℕ
text_of (Cut o) = codes "cut " ++ decimal o
text_of (Fill o) = codes "fill " ++ decimal o
text_of (Remove b) = codes "remove " ++ signed_decimal b
