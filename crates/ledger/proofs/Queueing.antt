-- A queued page is in the table, so that writing its row again takes no room.
use Rattle.std.proofs.Common.{◌≡◌, ℕ, ◌≤◌, true, false, List, length, Some, arith}
use Rattle.std.specs.Ordering.{is_eq, nat_cmp}
use Rattle.std.specs.List.{ContainsAt as Has}
use Rattle.table.specs.Ranges.{of_first}
use Rattle.table.specs.Rows.{first_of, insert_row, ascending}
use Rattle.table.proofs.Ends.{first_has}
use Rattle.table.proofs.Filters.{has_from_kept}
use Rattle.table.proofs.Laws.{has_find, length_insert_old}
use Rattle.segment.specs.Rows.{page_key, by_page}
use Rattle.segment.specs.declared.rows.PageRow.{PageRow}
use Rattle.rules.specs.Pages.{queue_of, queued_row}
use Rattle.orders.proofs.Alone.{page_laws}

queued_has : (n : ℕ) (pages : List PageRow) (row : PageRow) → first_of (queue_of n pages) ≡ Some row → Has pages row
queued_has n pages row e =
    let q = has_from_kept (λ r. r.queued) (of_first page_key nat_cmp pages n) row (first_has (queue_of n pages) row e) in
    (has_from_kept (λ r. is_eq (nat_cmp (page_key r).0 n)) pages row q.0).0

pub unqueued_room : (n limit : ℕ) (pages : List PageRow) (row : PageRow) → ascending page_key by_page pages ≡ true → first_of (queue_of n pages) ≡ Some row → length pages ≤ limit → length (insert_row page_key by_page pages (queued_row false row)) ≤ limit
unqueued_room n limit pages row up e l =
    let f = has_find page_key page_laws pages row up (queued_has n pages row e) in
    let m = length_insert_old page_key page_laws pages (queued_row false row) row f in
    omega arith
