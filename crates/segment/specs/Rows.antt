-- The keys of the rows, and their orders.
use Rattle.std.specs.Prelude.{ℕ, ℤ}
use Rattle.std.specs.declared.cmp.Ordering.{Ordering}
use Rattle.table.specs.Order.{lexical}
use Rattle.segment.specs.declared.rows.OrderingRow.{OrderingRow}
use Rattle.segment.specs.declared.rows.PageRow.{PageRow}
use Rattle.segment.specs.declared.rows.BlobRow.{BlobRow}
use Rattle.segment.specs.declared.rows.FreeableRow.{FreeableRow}
use Rattle.segment.specs.declared.rows.FaultRow.{FaultRow}
use Rattle.std.specs.Ordering.{nat_cmp, int_cmp}

abbrev pub ordering_key : OrderingRow → ℤ
ordering_key r = r.lsn

abbrev pub page_key : PageRow → ℕ × ℕ
page_key r = (r.segment, r.page)

abbrev pub blob_key : BlobRow → ℕ × ℤ
blob_key r = (r.segment, r.blob)

abbrev pub freeable_key : FreeableRow → ℕ × ℤ
freeable_key r = (r.segment, r.lsn)

abbrev pub fault_key : FaultRow → ℕ
fault_key r = r.offset

-- by segment, then by page
abbrev pub by_page : ℕ × ℕ → ℕ × ℕ → Ordering
by_page = lexical nat_cmp nat_cmp

-- by segment, then by a signed number
abbrev pub by_signed : ℕ × ℤ → ℕ × ℤ → Ordering
by_signed = lexical nat_cmp int_cmp
