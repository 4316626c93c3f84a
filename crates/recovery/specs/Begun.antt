-- The books that a start begins with, and those before any segment is freed, by the number of segments.
use Rattle.std.specs.Prelude.{◌≡◌, ℕ, ◌/◌, List, [], ℤ, pos, Some, None, Err, Option, Result, slice_set}
use Rattle.std.specs.Option.{unwrap_or}
use Rattle.segment.specs.Changes.{opened}
use Rattle.segment.specs.declared.state.State.{State}
use Rattle.segment.specs.declared.state.State.TheVariants as is
use Rattle.rules.specs.declared.refusal.Refusal.{Refusal}
use Rattle.rules.specs.Books.{Books, books}
use Rattle.rules.specs.Starting.{Plan, plan_refusal, segment_count, blank, with_active, and_then, recover_pages, ordered, recovered}

-- the checks let the plan pass, and it has so many segments
abbrev pub Accepted : Plan → ℕ → Type 0
Accepted s count = (slot : ℕ) × (extent : ℕ) × (plan_refusal s slot extent ≡ None) × (count ≡ segment_count s extent)

-- the books without any row
abbrev pub emptied : Books → Books
emptied b = books b.size b.segments b.tip b.stabilized [] [] [] [] [] [] []

-- the states, the segment of the active offset being Active
abbrev pub first_opened : ℕ → Option ℕ → ℤ → List State → List State
first_opened size None base states = states
first_opened size (Some active) base states = slice_set states (active / size) (is.Active (opened base))

-- the books before any row is recovered
abbrev pub begun : Plan → ℕ → Books
begun s count = with_active s.active (unwrap_or s.stable (pos 0)) (blank s count)

-- the books before any segment is freed
abbrev pub recovered_with : Plan → ℕ → Result Books Refusal
recovered_with s count = and_then (recover_pages s.header 0 s.directory s.rows (begun s count)) ordered

-- the same after the checks
abbrev pub recovered_if : Option Refusal → Plan → ℕ → Result Books Refusal
recovered_if None s extent = recovered s extent
recovered_if (Some refusal) s extent = Err refusal
