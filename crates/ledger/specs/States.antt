-- The states of segments.
use Rattle.std.specs.Prelude.{List, ℕ, map, vec_items, vec_capacity}
use Rattle.segment.specs.declared.segment.Segment.{Segment}
use Rattle.segment.specs.declared.state.State.{State}
use Rattle.ledger.specs.declared.segments.Segments.{Segments}

abbrev pub states : List Segment → List State
states segments = map (λ s. s.state) segments

abbrev pub states_of : Segments → List State
states_of s = states (vec_items s.list)

-- how many segments there is room for
abbrev pub capacity_of : Segments → ℕ
capacity_of s = vec_capacity s.list
