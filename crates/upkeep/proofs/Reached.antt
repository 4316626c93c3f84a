-- The numbers and the room that a step finds in books that keep their order and bounds.
use Rattle.std.proofs.Common.{◌≡◌, ℕ, ◌*◌, ◌^◌, ◌<◌, ◌≤◌, true, false, cond, length, sym, refl, ap, ◌∙◌, subst, true≢false, mul-le-mul, arith}
use Rattle.std.proofs.lemmas.Bool.{leb-true}
use Rattle.table.specs.Rows.{insert_row, own_key}
use Rattle.segment.specs.declared.state.Inactive.{Inactive}
use Rattle.segment.specs.declared.state.State.{State}
use Rattle.segment.specs.declared.state.State.TheVariants as is
use Rattle.rules.specs.Books.{Books, state_of, offset_of}
use Rattle.rules.specs.Cleaning.{start_draining, drain_by, drain_if_empty}
use Rattle.rules.specs.Stabilizing.{is_inactive}
use Rattle.orders.specs.Within.{Within, KeptWithin}
use Rattle.orders.proofs.Replaces.{reached}
use Rattle.orders.proofs.BoundStarts.{within_steps}
use Rattle.orders.proofs.Rooms.{at_most}
use Rattle.ledger.proofs.Handing.{numbers}
use Rattle.upkeep.specs.Drains.{is_drained}
use Rattle.std.specs.Ordering.{nat_cmp}

-- a segment by its number
pub record Placed (n : ℕ) (b : Books) : Type 0 where
  pub reached : n < length b.segments
  pub small : n < 256
  pub fits : n * b.size < 2 ^ 64

pub placed : (n : ℕ) (b : Books) → Within b → n < length b.segments → Placed n b
placed n b w l =
    let k = numbers b w in
    let r = k.reached in
    let m : n * b.size ≤ 256 * 16777216 = mul-le-mul {n₁ = n} {n₂ = 256} (omega arith) k.most in
    record { reached = l; small = omega arith; fits = omega arith }

-- ---- Inactive segments
pub inactive_of : (s : State) → is_inactive s ≡ true → (i : Inactive) × (s ≡ is.Inactive i)
inactive_of (is.Free f) h = absurd (true≢false (sym h))
inactive_of (is.Active a) h = absurd (true≢false (sym h))
inactive_of (is.Inactive i) h = (i, refl)
inactive_of (is.Draining d) h = absurd (true≢false (sym h))

pub inactive_reached : (n : ℕ) (i : Inactive) (b : Books) → state_of b n ≡ is.Inactive i → n < length b.segments
inactive_reached n i b e = reached b.segments n (is.Inactive i) e (λ q. let z : ◌≡◌ {A = ℕ} 0 1 = cc in omega arith)

pub inactive_placed : (n : ℕ) (b : Books) → KeptWithin b → is_inactive (state_of b n) ≡ true → Placed n b
inactive_placed n b h e = let x = inactive_of (state_of b n) e in placed n b h.1 (inactive_reached n x.0 b x.1)

-- there is a place on the list for a segment that starts draining
pub listed_room : (n : ℕ) (b : Books) → KeptWithin b → is_inactive (state_of b n) ≡ true → length (insert_row own_key nat_cmp b.listed (offset_of b n)) ≤ 256
listed_room n b h e =
    let x = inactive_of (state_of b n) e in
    let k = within_steps.drains n x.0 b x.1 h in
    let m = at_most own_key b.size (length (start_draining n x.0 b).segments) (start_draining n x.0 b).listed k.0.listed k.1.listed in
    let r = leb-true (length (start_draining n x.0 b).segments) 256 k.1.reached in
    omega arith

-- what is drained is Inactive
pub drained_inactive : (size : ℕ) (s : State) → is_drained size s ≡ true → is_inactive s ≡ true
drained_inactive size (is.Free f) h = absurd (true≢false (sym h))
drained_inactive size (is.Active a) h = absurd (true≢false (sym h))
drained_inactive size (is.Inactive i) h = refl
drained_inactive size (is.Draining d) h = absurd (true≢false (sym h))

-- ---- whether it drains
pub drain_then : (n : ℕ) (i : Inactive) (b : Books) → state_of b n ≡ is.Inactive i → is_drained b.size (state_of b n) ≡ true → drain_if_empty n b ≡ start_draining n i b
drain_then n i b e t = ap (λ s. drain_by n s b) e ∙ ap (λ h. cond h (start_draining n i b) b) (subst (λ s. is_drained b.size s ≡ true) e t)

pub drain_else : (n : ℕ) (s : State) (b : Books) → is_drained b.size s ≡ false → drain_by n s b ≡ b
drain_else n (is.Free f) b h = refl
drain_else n (is.Active a) b h = refl
drain_else n (is.Inactive i) b h = ap (λ t. cond t (start_draining n i b) b) h
drain_else n (is.Draining d) b h = refl
