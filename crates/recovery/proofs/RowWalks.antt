-- The rows of a page are in range where all rows are.
use Rattle.std.proofs.Common.{◌≡◌, true, List, take, drop, sym, subst}
use Rattle.std.proofs.lemmas.List.{take-append-drop}
use Rattle.table.specs.Rows.{every}
use Rattle.segment.specs.declared.snapshot.PageEntry.{PageEntry}
use Rattle.segment.specs.declared.snapshot.SnapshotRow.{SnapshotRow}
use Rattle.ledger.proofs.Walks.{every_parts}
use Rattle.recovery.specs.Plans.{in_range, rows_at}

pub page_in_range : (entry : PageEntry) (rows : List SnapshotRow) → every in_range rows ≡ true → every in_range (rows_at entry rows) ≡ true
page_in_range entry rows h =
    let rest : List SnapshotRow = drop entry.first rows in
    let behind = (every_parts in_range (take entry.first rows) rest (subst (λ l. every in_range l ≡ true) (sym (take-append-drop entry.first rows)) h)).1 in
    (every_parts in_range (take entry.count rest) (drop entry.count rest) (subst (λ l. every in_range l ≡ true) (sym (take-append-drop entry.count rest)) behind)).0
