-- A host that grants everything and has nothing to say: it stands for any host in a call that asks none.
use Rattle.std.specs.Prelude.{ℕ, Ok}
use Rattle.host.specs.Meaning.{Answer}
use Rattle.host.specs.declared.request.Request.{Request}

abbrev pub silent : Unit {0} → Request → Answer × Unit {0}
silent m request = (Ok tt, m)

abbrev pub nothing : Unit {0} → ℕ
nothing m = 0
