-- The rows of the range are those behind the first bound whose keys are below `until`.
use Rattle.std.proofs.Common.{◌≡◌, ℕ, ◌+◌, length, arith}
use Rattle.std.proofs.lemmas.List.{take_rest}
use Rattle.table.specs.Ranges.{between, count_below}
use Rattle.table.proofs.Filters.{ascending_drop}
use Rattle.table.proofs.Between.{bounds_are, range_most, part_lent, rest_left, without_ascends}
use Rattle.ranges.proofs.places.bounds.Goals as goal

pub count_below-count-requires : goal.count_below-count-requires
count_below-count-requires g c = rw (take_rest c.args.rows.now c.count_below-start.result) (ascending_drop g.R.Row.keyed g.R.Key.Key.lawful c.count_below-start.result c.args.rows.now c.requires)

pub returns : goal.returns
returns g c =
    let rows = c.args.rows.now in
    let start = c.count_below-start.result in
    let s = c.count_below-start.ensures.value in
    let n = bounds_are g.R.Row.keyed g.R.Key.Key.lawful rows c.args.from c.args.until _ c.count_below-count.result c.requires s c.count_below-count.ensures.value in
    let most = range_most g.R.Row.keyed g.R.Key.Key.lawful rows c.args.from c.args.until c.requires in
    let v : ◌≡◌ {A = ℕ × ℕ} (start, start + c.count_below-count.result) (count_below g.R.Row.keyed g.R.Key.Key.rank rows c.args.from, count_below g.R.Row.keyed g.R.Key.Key.rank rows c.args.from + length (between g.R.Row.keyed g.R.Key.Key.rank rows c.args.from c.args.until)) = λ i. (s i, s i + n i) in
    record {
      value = v;
      within = (omega arith, omega arith);
      part = part_lent g.R.Row.keyed g.R.Key.Key.lawful rows c.args.from c.args.until _ c.requires v;
      rest = rest_left g.R.Row.keyed g.R.Key.Key.lawful rows c.args.from c.args.until _ c.requires v;
      rest_ascends = without_ascends g.R.Row.keyed g.R.Key.Key.lawful rows c.args.from c.args.until c.requires;
    }
