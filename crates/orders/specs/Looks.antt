-- What the states, the ordering, the free list and the freeable rows say of each other.
use Rattle.std.specs.Prelude.{◌≡◌, ℕ, ◌/◌, ◌<◌, ◌≤◌, Bool, true, false, ℤ, is_some, Some, Option, ◌≢◌}
use Rattle.std.specs.Option.{option_map}
use Rattle.table.specs.Rows.{find}
use Rattle.segment.specs.Rows.{ordering_key, freeable_key, by_signed}
use Rattle.segment.specs.declared.state.State.{State}
use Rattle.segment.specs.declared.state.State.TheVariants as is
use Rattle.rules.specs.Books.{Books, state_of, segment_of, offset_of}
use Rattle.rules.specs.Freeing.{is_free_offset}
use Rattle.rules.specs.Stabilizing.{is_free}
use Rattle.std.specs.Ordering.{int_cmp}

-- the LSN of a state, or the one that it had
abbrev pub label : State → Option ℤ
label (is.Free f) = f.previous_lsn
label (is.Active a) = Some a.lsn
label (is.Inactive i) = Some i.lsn
label (is.Draining d) = Some d.lsn

-- the segment that the ordering has under an LSN
abbrev pub ordered_at : Books → ℤ → Option ℕ
ordered_at b lsn = option_map (λ row. segment_of b row.offset) (find ordering_key int_cmp b.ordering lsn)

-- segment t holds back the segment of this LSN
abbrev pub holds_back : Books → ℕ → ℤ → Bool
holds_back b t lsn = is_some (find freeable_key by_signed b.freeable (t, lsn))

-- segment n may be handed out
abbrev pub offers : Books → ℕ → Bool
offers b n = is_free_offset b (offset_of b n)

-- states, ordering, freeable rows, free list, and the number of segments below the tip
pub record Looking (state : ℕ → State) (place : ℤ → Option ℕ) (holds : ℕ → ℤ → Bool) (free : ℕ → Bool) (below : ℕ) : Type 0 where
  -- an ordering row leads to a segment that has or had its LSN, below the tip
  pub named : (lsn : ℤ) (n : ℕ) → place lsn ≡ Some n → label (state n) ≡ Some lsn
  pub low : (lsn : ℤ) (n : ℕ) → place lsn ≡ Some n → n < below
  -- a segment that is not Free is in the ordering
  pub entered : (n : ℕ) (lsn : ℤ) → is_free (state n) ≡ false → label (state n) ≡ Some lsn → place lsn ≡ Some n
  -- what is held back is Free and in the ordering, and one segment holds it
  pub held : (t : ℕ) (lsn : ℤ) → holds t lsn ≡ true → (n : ℕ) × (place lsn ≡ Some n) × (is_free (state n) ≡ true)
  pub once : (t u : ℕ) (lsn : ℤ) → holds t lsn ≡ true → holds u lsn ≡ true → t ≡ u
  -- a segment on the free list is Free, below the tip, and not in the ordering
  pub idle : (n : ℕ) → free n ≡ true → is_free (state n) ≡ true
  pub within : (n : ℕ) → free n ≡ true → n < below
  pub apart : (n : ℕ) (lsn : ℤ) → free n ≡ true → place lsn ≢ Some n
  -- past the tip every segment is Free
  pub past : (n : ℕ) → below ≤ n → is_free (state n) ≡ true

abbrev pub Looks : Books → Type 0
Looks b = Looking (state_of b) (ordered_at b) (holds_back b) (offers b) (b.tip / b.size)
