-- The directory leads to rows that are there.
use Rattle.std.proofs.Common.{◌≡◌, true, get_or, sym, subst}
use Rattle.table.specs.Rows.{every}
use Rattle.segment.specs.Pages.{no_entry}
use Rattle.recovery.specs.Plans.{in_range}
use Rattle.recovery.proofs.Covering.{led_to, part_is}
use Rattle.recovery.proofs.RowWalks.{page_in_range}
use Rattle.recovery.proofs.recovering.recover_page.Goals as goal

pub recover_rows-requires-clause-lsns : goal.recover_rows-requires-clause-lsns
recover_rows-requires-clause-lsns c =
    let d = c.args.plan.now.snapshot.directory.now in
    let rows = c.args.plan.now.snapshot.rows.now in
    subst (λ l. every in_range l ≡ true) (sym (part_is d rows c.in-Some.part.now c.args.page c.requires.covered c.requires.listed c.in-Some.ensures)) (page_in_range (get_or d c.args.page no_entry) rows c.requires.lsns)

pub returns-in-None-clause-books : goal.returns-in-None-clause-books
returns-in-None-clause-books c = absurd (led_to c.args.plan.now.snapshot.directory.now c.args.plan.now.snapshot.rows.now c.args.page c.requires.covered c.requires.listed (sym c.in-None.ensures))
