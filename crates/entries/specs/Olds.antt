-- The check of an old segment, by what is seen of it: its state, and whether the page lies there.
use Rattle.std.specs.Prelude.{ℕ, ◌-◌, Bool, false, not, [], ◌∷◌, ℤ, Some, Option, int_lt, nat_lt}
use Rattle.segment.specs.declared.state.State.{State}
use Rattle.segment.specs.declared.state.State.TheVariants as is
use Rattle.rules.specs.declared.refusal.Refusal.{Refusal}
use Rattle.rules.specs.declared.refusal.Refusal.TheVariants as no
use Rattle.rules.specs.Links.{first_refusal}

-- base too low, page absent, more than live
abbrev pub from_lying : ℤ → ℤ → Bool → Bool → Option Refusal
from_lying base lsn lies more = first_refusal ((int_lt base lsn, no.BaseTooLow) ∷ (not lies, no.PageAbsent) ∷ (more, no.MoreThanLive) ∷ [])

abbrev pub from_seen : ℤ → ℕ → Bool → State → Option Refusal
from_seen base size lies (is.Free f) = Some no.NoSegment
from_seen base size lies (is.Active a) = from_lying base a.lsn lies (nat_lt (a.rss - a.deferred_replaced_rss) size)
from_seen base size lies (is.Inactive i) = from_lying base i.lsn lies (nat_lt i.rss size)
from_seen base size lies (is.Draining d) = from_lying base d.lsn lies false
