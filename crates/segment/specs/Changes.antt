-- The changes of a segment's state.
use Rattle.std.specs.Prelude.{ℕ, ◌-◌, ℤ, pos, Some}
use Rattle.segment.specs.declared.state.Free.{Free}
use Rattle.segment.specs.declared.state.Active.{Active}
use Rattle.segment.specs.declared.state.Inactive.{Inactive}
use Rattle.segment.specs.declared.state.Draining.{Draining}

-- handed out to the log, from this LSN on
abbrev pub opened : ℤ → Active
opened lsn = record { lsn = lsn; rss = 0; deferred_replaced_rss = 0; latest_replacement_lsn = pos 0 }

-- stable as a whole, with so many pages, of which so many have left
abbrev pub closed : ℕ → ℕ → Active → Inactive
closed pages left a = record {
  lsn = a.lsn;
  rss = a.rss - a.deferred_replaced_rss;
  max_pids = pages;
  replaced_pids = left;
  latest_replacement_lsn = a.latest_replacement_lsn;
}

abbrev pub drained : Inactive → Draining
drained i = record {
  lsn = i.lsn;
  max_pids = i.max_pids;
  replaced_pids = i.replaced_pids;
  latest_replacement_lsn = i.latest_replacement_lsn;
}

abbrev pub emptied : Draining → Free
emptied d = record { previous_lsn = Some d.lsn }
