-- What a link adds to a state, and what a replacement takes from it.
use Rattle.std.specs.Prelude.{ℕ, ◌+◌, ◌-◌, Bool, true, false, not, ℤ}
use Rattle.std.specs.Int.{int_max}
use Rattle.segment.specs.Signs.{same_z}
use Rattle.segment.specs.declared.state.Active.{Active}
use Rattle.segment.specs.declared.state.Inactive.{Inactive}
use Rattle.segment.specs.declared.state.Draining.{Draining}
use Rattle.segment.specs.declared.state.State.{State}
use Rattle.segment.specs.declared.state.State.TheVariants as is

-- one entry of this size more
abbrev pub linked : ℕ → Active → Active
linked size a = record {
  lsn = a.lsn;
  rss = a.rss + size;
  deferred_replaced_rss = a.deferred_replaced_rss;
  latest_replacement_lsn = a.latest_replacement_lsn;
}

-- replaced from this base on; the bytes count until the segment is deactivated
abbrev pub deferred : ℤ → ℕ → Active → Active
deferred base size a = record {
  lsn = a.lsn;
  rss = a.rss;
  deferred_replaced_rss = a.deferred_replaced_rss + size;
  latest_replacement_lsn = int_max a.latest_replacement_lsn base;
}

abbrev pub lowered : ℤ → ℕ → Inactive → Inactive
lowered base size i = record {
  lsn = i.lsn;
  rss = i.rss - size;
  max_pids = i.max_pids;
  replaced_pids = i.replaced_pids + 1;
  latest_replacement_lsn = int_max i.latest_replacement_lsn base;
}

abbrev pub counted : ℤ → Draining → Draining
counted base d = record {
  lsn = d.lsn;
  max_pids = d.max_pids;
  replaced_pids = d.replaced_pids + 1;
  latest_replacement_lsn = int_max d.latest_replacement_lsn base;
}

-- what taking away makes of each state; nothing lies in a Free segment
abbrev pub taken : ℤ → ℕ → State → State
taken base size (is.Free f) = is.Free f
taken base size (is.Active a) = is.Active (deferred base size a)
taken base size (is.Inactive i) = is.Inactive (lowered base size i)
taken base size (is.Draining d) = is.Draining (counted base d)

-- whether the page leaves: it does not where the replacement lies in the same segment
abbrev pub leaves : ℤ → State → Bool
leaves base (is.Free f) = false
leaves base (is.Active a) = not (same_z a.lsn base)
leaves base (is.Inactive i) = true
leaves base (is.Draining d) = true
