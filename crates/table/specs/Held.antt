-- What a table holds. `K` is the type of the keys of its rows. Assumes nothing.
use Rattle.std.specs.Prelude.{ℕ, List, vec_items}
use Rattle.table.specs.declared.key.Key.{Ghosts as KeyGhosts}
use Rattle.table.specs.declared.limited.LimitedTable.{LimitedTable}
use Rattle.table.specs.declared.owner.Table.{Table}
use Rattle.table.specs.declared.row.Row.{Ghosts as RowGhosts}

module _ {X K : Type 0} {r : RowGhosts X K} {k : KeyGhosts K} where
  -- its rows, in order, where the limit is told when it is made
  abbrev pub held_limited : LimitedTable X K r k → List X
  held_limited t = vec_items t.rows

  -- how many rows it may hold
  abbrev pub limit_of : LimitedTable X K r k → ℕ
  limit_of t = t.limit

module _ {X : Type 0} {n : ℕ} {K : Type 0} {r : RowGhosts X K} {k : KeyGhosts K} where
  -- its rows, in order
  abbrev pub held : Table X n K r k → List X
  held t = vec_items t.limited.rows
