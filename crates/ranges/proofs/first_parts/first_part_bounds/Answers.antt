-- Rows that ascend have those with a lower first part in front, and then those with this one: each closure tells one end.
use Rattle.std.proofs.Common.{◌∙◌, rules}
use Rattle.std.specs.Ordering.{is_lt, is_le}
use Rattle.std.proofs.lemmas.List.Sorted.{IsPartitionPoint-from_clause}
use Rattle.table.specs.Order.{lexical_lawful}
use Rattle.table.proofs.Filters.{parted, parted_count}
use Rattle.table.proofs.Pairs.{lower_mono, up_to_mono, lower_or_same, first_places}
use Rattle.ranges.proofs.first_parts.first_part_bounds.Goals as goal

pub returns : goal.returns
returns g c =
    let key = g.R.Row.keyed in
    let a = g.A.Key.lawful in
    let b = g.B.Key.lawful in
    let rows = c.args.rows.now in
    let p = c.args.first in
    let low = λ (x : g.row.R.Denot). is_lt (g.A.Key.rank (key x).0 p) in
    let high = λ (x : g.row.R.Denot). is_le (g.A.Key.rank (key x).0 p) in
    let from = c.partition_point-start.ensures in
    let to = c.partition_point-end.ensures in
    let start = parted_count low rows c.partition_point-start.result from.bound (IsPartitionPoint-from_clause low rows _ from.partitioned (parted key (lexical_lawful a b) low (lower_mono key a b p) rows c.requires) (λ x r f called. search rules)) in
    let end = parted_count high rows c.partition_point-end.result to.bound (IsPartitionPoint-from_clause high rows _ to.partitioned (parted key (lexical_lawful a b) high (up_to_mono key a b p) rows c.requires) (λ x r f called. search rules)) in
    let places = first_places key a b rows p _ _ c.requires start end in
    let both = lower_or_same key a b rows p in
    record { value = λ i. (start i, (end ∙ both) i); within = (places.0, to.bound); part = places.1; rest = places.2 }
