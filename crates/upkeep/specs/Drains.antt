-- Which segments start draining when they are cleaned, and which have no page left.
use Rattle.std.specs.Prelude.{ℕ, Bool, false, cond, ℤ, Some, None, Option, ◌==◌}
use Rattle.segment.specs.declared.state.State.{State}
use Rattle.segment.specs.declared.state.State.TheVariants as is
use Rattle.rules.specs.Cleaning.{half_empty}

-- Inactive, and at most half of it is live
abbrev pub is_drained : ℕ → State → Bool
is_drained size (is.Free f) = false
is_drained size (is.Active a) = false
is_drained size (is.Inactive i) = half_empty size i
is_drained size (is.Draining d) = false

-- of a Draining segment whose pages have all left, the LSN of its latest replacement
abbrev pub all_left : State → Option ℤ
all_left (is.Free f) = None
all_left (is.Active a) = None
all_left (is.Inactive i) = None
all_left (is.Draining d) = cond (d.replaced_pids == d.max_pids) (Some d.latest_replacement_lsn) None
