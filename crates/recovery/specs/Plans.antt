-- What start is handed, as the plan that the rules speak of.
use Rattle.std.specs.Prelude.{ℕ, ◌/◌, ◌<◌, Bool, not, List, [], take, drop, Some, None, Ok, Err, Option, Result}
use Rattle.segment.specs.declared.snapshot.PageEntry.{PageEntry}
use Rattle.segment.specs.declared.snapshot.SnapshotRow.{SnapshotRow}
use Rattle.rules.specs.declared.refusal.Refusal.{Refusal}
use Rattle.rules.specs.Links.{out_of_range}
use Rattle.rules.specs.Starting.{Plan}
use Rattle.recovery.specs.declared.plan.Plan.{Plan as Handed}

abbrev pub plan_of : Handed → Plan
plan_of h = record {
  size = h.segment_size;
  header = h.header_len;
  stable = h.snapshot.stable_lsn;
  active = h.snapshot.active_segment;
  directory = h.snapshot.directory.now;
  rows = h.snapshot.rows.now;
}

-- the part of a plan that segments are counted from
abbrev pub sized : ℕ → Option ℕ → Plan
sized size active = record { size = size; header = 0; stable = None; active = active; directory = []; rows = [] }

-- the answer of the checks: the number of segments, or the refusal
abbrev pub planned : Option Refusal → ℕ → Result ℕ Refusal
planned None count = Ok count
planned (Some refusal) count = Err refusal

-- a row whose LSN is accepted
abbrev pub in_range : SnapshotRow → Bool
in_range row = not (out_of_range row.lsn)

-- the rows that an entry of the directory names
abbrev pub rows_at : PageEntry → List SnapshotRow → List SnapshotRow
rows_at entry rows = take entry.count (drop entry.first rows)

-- the active offset, if there is one, lies in one of so many segments
abbrev pub Reaches : ℕ → Option ℕ → ℕ → Type 0
Reaches size None count = Unit {0}
Reaches size (Some active) count = active / size < count
