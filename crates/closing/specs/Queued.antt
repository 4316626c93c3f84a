-- A page row after its page is queued.
use Rattle.std.specs.Prelude.{true, cond, not}
use Rattle.segment.specs.declared.rows.PageRow.{PageRow}
use Rattle.rules.specs.Pages.{queued_row}

-- it is queued, unless it has left
abbrev pub queued_if : PageRow → PageRow
queued_if row = cond (not row.left) (queued_row true row) row
