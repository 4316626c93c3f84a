-- The page counts of closed segments are those of their page rows.
use Rattle.std.specs.Prelude.{◌≡◌, ℕ, true}
use Rattle.table.specs.Rows.{every}
use Rattle.segment.specs.Bounds.{bounded}
use Rattle.segment.specs.declared.state.State.{State}
use Rattle.segment.specs.declared.state.State.TheVariants as is
use Rattle.rules.specs.Books.{Books, state_of}
use Rattle.rules.specs.Pages.{page_count, left_count}
use Rattle.orders.specs.Within.{KeptWithin}
use Rattle.orders.specs.Looks.{Looks}

-- a state beside the number of its segment's page rows and of those marked left
abbrev pub Counted : State → ℕ → ℕ → Type 0
Counted (is.Free f) pages left = Unit {0}
Counted (is.Active a) pages left = Unit {0}
Counted (is.Inactive i) pages left = (i.max_pids ≡ pages) × (i.replaced_pids ≡ left)
Counted (is.Draining d) pages left = (d.max_pids ≡ pages) × (d.replaced_pids ≡ left)

abbrev pub Counts : Books → Type 0
Counts b = (n : ℕ) → Counted (state_of b n) (page_count n b.pages) (left_count n b.pages)

-- order and bounds, look-ups, counts
pub record Counting (b : Books) : Type 0 where
  pub within : KeptWithin b
  pub looks : Looks b
  pub counts : Counts b

-- the same, and every state within the bounds of its numbers
pub record Bounded (b : Books) : Type 0 where
  pub counting : Counting b
  pub bounded : every bounded b.segments ≡ true
