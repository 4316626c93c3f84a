-- There is room for one row more, and its blob is a signed number of 64 bits.
use Rattle.std.proofs.Common.{◌≡◌, not, ap, ◌∙◌, arith, w64, SFits, rules}
use Rattle.std.specs.Ordering.{is_lt, int_cmp}
use Rattle.table.specs.Held.{held}
use Rattle.table.specs.Ranges.{floored, least_signed}
use Rattle.table.proofs.Pairs.{above_least_signed}
use Rattle.segment.specs.Rows.{blob_key, by_signed}
use Rattle.orders.proofs.Every.{every_insert}
use Rattle.entries.proofs.Lengths.{length_insert}
use Rattle.entries.proofs.spare.SpareBlobs.put.Goals as goal

pub put-requires : goal.put-requires
put-requires c =
    let more = length_insert blob_key by_signed (held c.args.self.now.rows) c.args.row in
    (omega arith, omega (arith, more, c.requires))

pub invariant_of-self : goal.invariant_of-self
invariant_of-self c =
    let s = c.args.self.now in
    let fits : SFits w64 c.args.row.blob = search rules in
    record { floor = ap (λ rows. floored blob_key int_cmp rows least_signed) c.put.ensures ∙ every_insert (λ row. not (is_lt (int_cmp row.blob least_signed))) blob_key by_signed (held s.rows) c.args.row (ap not (above_least_signed c.args.row.blob fits)) s.floor }
