-- The table has a row of that key, so the new one goes over it.
use Rattle.closing.proofs.Stepping.{over_place}
use Rattle.closing.proofs.queueing.write_at.Goals as goal

pub returns : goal.returns
returns g c = over_place g.R.Row.keyed g.R.Key.Key.lawful _ _ c.args.i _ c.args.row c.insert.result c.args.table.now.up c.requires.there c.requires.same c.insert.ensures.cases
