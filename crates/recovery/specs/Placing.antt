-- The part of a row's checks that looks at the state of its segment.
use Rattle.std.specs.Prelude.{ℕ, ◌+◌, ◌^◌, not, [], ◌∷◌, ℤ, Option, nat_lt}
use Rattle.segment.specs.Bases.{base_of}
use Rattle.segment.specs.declared.snapshot.SnapshotRow.{SnapshotRow}
use Rattle.segment.specs.declared.state.State.{State}
use Rattle.rules.specs.declared.refusal.Refusal.{Refusal}
use Rattle.rules.specs.declared.refusal.Refusal.TheVariants as no
use Rattle.rules.specs.Books.{Books, state_of}
use Rattle.rules.specs.Links.{first_refusal, too_large}
use Rattle.rules.specs.Starting.{has_base, bytes_in, row_size, row_segment}

-- so many bytes at this base, in a segment of this state
abbrev pub state_refusal : ℤ → ℕ → State → Option Refusal
state_refusal base size state =
    first_refusal ((not (has_base base state), no.RowBase) ∷ (too_large size, no.TooLarge) ∷ (nat_lt (2 ^ 40) (bytes_in state + size), no.TooLarge) ∷ [])

-- a row, in its segment
abbrev pub opened_refusal : ℕ → SnapshotRow → Books → Option Refusal
opened_refusal header row b = state_refusal (base_of b.size row.lsn) (row_size header row) (state_of b (row_segment b row))
