-- What the books keep is a proposition: a fact that a struct may carry.
use Rattle.std.proofs.Common.{◌≡◌, ℕ, true, Some, Option}
use mathlib.Core.HLevel.{is_prop→PathP}
use Rattle.std.proofs.Props.{props}
use Rattle.segment.specs.declared.state.State.{State}
use Rattle.segment.specs.declared.state.State.TheVariants as is
use Rattle.rules.specs.Books.{Books}
use Rattle.rules.specs.Stabilizing.{is_free}
use Rattle.orders.specs.Counts.{Counted}
use Rattle.orders.specs.Share.{Shared}

-- the number that a place names is one
held_prop : (state : ℕ → State) (o : Option ℕ) → IsProp ((n : ℕ) × (o ≡ Some n) × (is_free (state n) ≡ true))
held_prop state o x y =
    let e : x.0 ≡ y.0 = cc in
    let rest = is_prop→PathP (λ i. (o ≡ Some (e i)) × (is_free (state (e i)) ≡ true)) (λ i. hlevel props) (x.1, x.2) (y.1, y.2) in
    λ i. (e i, (rest i).0, (rest i).1)

counted_prop : (s : State) (pages left : ℕ) → IsProp (Counted s pages left)
counted_prop (is.Free f) pages left = hlevel props
counted_prop (is.Active a) pages left = hlevel props
counted_prop (is.Inactive i) pages left = hlevel props
counted_prop (is.Draining d) pages left = hlevel props

pub shared_prop : (b : Books) → IsProp (Shared b)
shared_prop b = hlevel (props, counted_prop, held_prop)
