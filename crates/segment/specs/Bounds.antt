-- The bounds that a segment's numbers keep.
use Rattle.std.specs.Prelude.{ℕ, ◌+◌, ◌^◌, Bool, true, ◌&&◌, nat_le, nat_lt}
use Rattle.segment.specs.declared.state.State.{State}
use Rattle.segment.specs.declared.state.State.TheVariants as is

-- deferred ≤ linked ≤ 2^40, and replaced ≤ page count
abbrev pub bounded : State → Bool
bounded (is.Free f) = true
bounded (is.Active a) = nat_le a.deferred_replaced_rss a.rss && nat_le a.rss (2 ^ 40)
bounded (is.Inactive i) = nat_le i.rss (2 ^ 40) && nat_le i.replaced_pids i.max_pids
bounded (is.Draining d) = nat_le d.replaced_pids d.max_pids

-- so many bytes are live there, and a page is left to leave
abbrev pub may_take : ℕ → State → Bool
may_take size (is.Free f) = true
may_take size (is.Active a) = nat_le (a.deferred_replaced_rss + size) a.rss
may_take size (is.Inactive i) = nat_le size i.rss && nat_lt i.replaced_pids i.max_pids
may_take size (is.Draining d) = nat_lt d.replaced_pids d.max_pids
