-- The page rows of a segment: which pages were written there, which have left, which are to be rewritten.
use Rattle.std.specs.Prelude.{ℕ, Bool, true, false, cond, not, ◌&&◌, List, map, length, Some, None, filter, Option}
use Rattle.std.specs.Ordering.{is_eq, nat_cmp}
use Rattle.table.specs.Ranges.{of_first}
use Rattle.table.specs.Rows.{find, insert_row}
use Rattle.segment.specs.Rows.{page_key, by_page}
use Rattle.segment.specs.declared.rows.PageRow.{PageRow}

-- the row of page p in segment n
abbrev pub page_row : List PageRow → ℕ → ℕ → Option PageRow
page_row pages n p = find page_key by_page pages (n, p)

abbrev pub is_left : Option PageRow → Bool
is_left None = false
is_left (Some row) = row.left

-- there is a row, and the page has not left
abbrev pub is_lying : Option PageRow → Bool
is_lying None = false
is_lying (Some row) = not row.left

abbrev pub new_row : ℕ → ℕ → PageRow
new_row n p = record { segment = n; page = p; left = false; queued = false }

-- page p is written into segment n: it gets a row if it has none there
abbrev pub written : ℕ → ℕ → List PageRow → Option PageRow → List PageRow
written n p pages None = insert_row page_key by_page pages (new_row n p)
written n p pages (Some row) = pages

abbrev pub left_row : PageRow → PageRow
left_row row = record { segment = row.segment; page = row.page; left = true; queued = row.queued }

-- the page of this row leaves
abbrev pub marked : List PageRow → Option PageRow → List PageRow
marked pages None = pages
marked pages (Some row) = insert_row page_key by_page pages (left_row row)

abbrev pub queued_row : Bool → PageRow → PageRow
queued_row queued row = record { segment = row.segment; page = row.page; left = row.left; queued = queued }

abbrev pub is_in : ℕ → PageRow → Bool
is_in n row = is_eq (nat_cmp row.segment n)

-- the pages of segment n that have not left are queued
abbrev pub all_queued : ℕ → List PageRow → List PageRow
all_queued n pages = map (λ row. cond (is_in n row && not row.left) (queued_row true row) row) pages

-- the rows of segment n, and those of all others
abbrev pub rows_of : ℕ → List PageRow → List PageRow
rows_of n pages = of_first page_key nat_cmp pages n

abbrev pub rows_off : ℕ → List PageRow → List PageRow
rows_off n pages = filter (λ row. not (is_in n row)) pages

abbrev pub page_count : ℕ → List PageRow → ℕ
page_count n pages = length (rows_of n pages)

abbrev pub left_count : ℕ → List PageRow → ℕ
left_count n pages = length (filter (λ row. row.left) (rows_of n pages))

abbrev pub queue_of : ℕ → List PageRow → List PageRow
queue_of n pages = filter (λ row. row.queued) (rows_of n pages)
