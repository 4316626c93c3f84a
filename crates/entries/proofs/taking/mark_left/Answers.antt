-- A row over the one that is there adds none.
use Rattle.std.proofs.Common.{sym, refl, arith}
use Rattle.table.specs.Held.{held}
use Rattle.segment.specs.Rows.{page_key}
use Rattle.rules.specs.Pages.{left_row}
use Rattle.orders.proofs.Alone.{page_laws}
use Rattle.entries.proofs.Lengths.{length_over}
use Rattle.entries.proofs.taking.mark_left.Goals as goal

pub put-requires : goal.put-requires
put-requires c =
    let pages = c.args.pages.now in
    let same = length_over page_key page_laws (held pages) (c.args.n, c.args.page) c.in-Some.row (left_row c.in-Some.row) (sym c.in-Some.ensures) refl in
    (omega arith, omega (arith, same, pages.few))
