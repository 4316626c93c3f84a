-- What stands before the part and behind it ascends as all rows do.
use Rattle.std.proofs.Common.{◌≡◌, ◌++◌, take, drop, arith}
use Rattle.std.proofs.lemmas.Grind.{common_steps}
use Rattle.table.proofs.Filters.{ascending_outside}
use Rattle.table.proofs.limited.LimitedTable.remove_part.Goals as goal

pub invariant_of-self-clause-up : goal.invariant_of-self-clause-up
invariant_of-self-clause-up g c =
    let rows = c.args.self.now.rows.items in
    let rest : c.truncate.new.self.items ≡ take c.args.start rows ++ drop c.args.end rows = grind (arith, common_steps) in
    rw rest (ascending_outside g.R.Row.keyed g.R.Key.Key.lawful c.args.start c.args.end rows c.requires.0 c.args.self.now.up)
