-- The table refuses no row that it has room for.
use Rattle.ledger.proofs.Entering.{entered}
use Rattle.ledger.proofs.room.put.Goals as goal

pub returns : goal.returns
returns g c = entered g.R.Row.keyed g.R.Key.Key.lawful _ _ _ _ c.insert.result c.requires c.insert.ensures.cases
