-- The segment that is drained by share.
use Rattle.std.specs.Prelude.{◌≡◌, ℕ, ◌<◌, List, length, Some, None, Option}
use Rattle.std.specs.Option.{option_map}
use Rattle.segment.specs.declared.state.Inactive.{Inactive}
use Rattle.segment.specs.declared.state.State.{State}
use Rattle.segment.specs.declared.state.State.TheVariants as is
use Rattle.rules.specs.Books.{Books, state_of}
use Rattle.rules.specs.Cleaning.{start_draining}
use Rattle.rules.specs.Stabilizing.{last_inactive, drained_by_share}

-- the highest number of an Inactive segment, where the first has number n
abbrev pub number_from : ℕ → List State → Option ℕ
number_from n segments = option_map (λ x. x.0) (last_inactive n segments)

-- draining by share does nothing, or starts draining this segment
abbrev pub Drains : Books → Option ℕ → Type 0
Drains b None = drained_by_share b ≡ b
Drains b (Some n) = (i : Inactive) × (n < length b.segments) × (state_of b n ≡ is.Inactive i) × (drained_by_share b ≡ start_draining n i b)
