-- A refusal without a fault comes before anything is done: each call by its checks.
use Rattle.std.proofs.Common.{◌≡◌, ℕ, ◌*◌, Bool, true, false, cond, not, ◌&&◌, ltb, leb, List, [], ◌∷◌, ℤ, pos, nat_abs, Some, None, Ok, Err, Option, Result, refl, ap, arith}
use lib.Signed.{lt_z}
use Rattle.host.specs.Meaning.{Answer}
use Rattle.host.specs.declared.request.HostFault.{HostFault}
use Rattle.host.specs.declared.request.Request.{Request}
use Rattle.segment.specs.declared.cache_info.CacheInfo.{CacheInfo}
use Rattle.segment.specs.declared.rows.FaultRow.{FaultRow}
use Rattle.rules.specs.declared.refusal.Refusal.{Refusal}
use Rattle.rules.specs.declared.refusal.Refusal.TheVariants as no
use Rattle.rules.specs.Books.{Books, World, world}
use Rattle.rules.specs.Calls as call
use Rattle.rules.specs.HandingOut.{offered, at_tip, next_by, next_at, unaligned, in_use, handed_out}
use Rattle.rules.specs.Links.{out_of_range}
use Rattle.rules.specs.Refusals.{fault_in}
use Rattle.rules.specs.Runs.{Start, Link, Replace, Next, Stabilize, Pop, Reply, Done, Gave, Popped, Refused, reply}
use Rattle.rules.specs.Stabilizing.{stabilized_at}
use Rattle.rules.specs.Starting.{Plan, start_by, freed_after, started_by, kept_if, plan_refusal, recovered, free_all}
use Rattle.orders.specs.Refusals.{RefusalsLeaveAll}

-- a refusal of this outcome that carries no fault leaves books and host
abbrev Leaves : {X M : Type 0} → Option Books → M → call.Outcome X M → Type 0
Leaves b m o = (r : Refusal) → o.0 ≡ Err r → fault_in r ≡ None → (o.1 ≡ b) × (o.2 ≡ m)

never : {X : Type 0} (G : Type 0) (x : X) (r : Refusal) → ◌≡◌ {A = Result X Refusal} (Ok x) (Err r) → G
never G x r e = let z : ◌≡◌ {A = ℕ} 0 1 = cc in absurd (omega arith)

faulty : (G : Type 0) {X : Type 0} (f : HostFault) (r : Refusal) → ◌≡◌ {A = Result X Refusal} (Err (no.Host f)) (Err r) → fault_in r ≡ None → G
faulty G f r e n = let h : no.Host f ≡ r = cc in let s : Some f ≡ fault_in r = ap fault_in h in let z : ◌≡◌ {A = ℕ} 0 1 = cc in absurd (omega arith)

module _ {M : Type 0} (respond : M → Request → Answer × M) (slot extent : M → ℕ) where
  link_leaves : (o : Option Refusal) (p : ℕ) (info : CacheInfo) (b : Books) (m : M) → Leaves (Some b) m (call.link_by respond slot extent o p info b m)
  link_leaves (Some x) p info b m r e n = (refl, refl)
  link_leaves None p info b m r e n = never _ tt r e

  replace_leaves : (o : Option Refusal) (p : ℕ) (lsn : ℤ) (olds : List CacheInfo) (new : CacheInfo) (b : Books) (m : M) → Leaves (Some b) m (call.replace_by respond slot extent o p lsn olds new b m)
  replace_leaves (Some x) p lsn olds new b m r e n = (refl, refl)
  replace_leaves None p lsn olds new b m r e n = never _ tt r e

  -- next: of an offer, and of the checks before it
  abbrev LeavesBooks : Books → Result ℕ Refusal × Books → Type 0
  LeavesBooks b o = (r : Refusal) → o.0 ≡ Err r → fault_in r ≡ None → o.1 ≡ b

  below_leaves : (lsn : ℤ) (offset : ℕ) (b : Books) (t : Bool) → LeavesBooks b (cond t (Err no.BelowOffset, b) (Ok offset, handed_out lsn offset b))
  below_leaves lsn offset b true r e n = refl
  below_leaves lsn offset b false r e n = never _ offset r e

  tip_leaves : (lsn : ℤ) (b : Books) (fs : List FaultRow) → LeavesBooks b (next_by lsn (at_tip b fs))
  tip_leaves lsn b [] r e n = on (leb (256 * b.size) b.tip) r e n
    where
      on : (t : Bool) → LeavesBooks b (next_by lsn (cond t (Err no.FileFull, b) (Ok b.tip, b)))
      on true r e n = refl
      on false r e n = below_leaves lsn b.tip b (ltb (nat_abs lsn) b.tip) r e n
  tip_leaves lsn b (row ∷ rows) r e n = faulty _ _ r e n

  offer_leaves : (lsn : ℤ) (b : Books) (free : List ℕ) → LeavesBooks b (next_by lsn (offered b free))
  offer_leaves lsn b [] = tip_leaves lsn b b.faults
  offer_leaves lsn b (offset ∷ rest) = below_leaves lsn offset b (ltb (nat_abs lsn) offset)

  at_leaves : (lsn : ℤ) (b : Books) (t u : Bool) → LeavesBooks b (cond t (Err no.Unaligned, b) (cond u (Err no.LsnInUse, b) (next_by lsn (offered b b.free))))
  at_leaves lsn b true u r e n = refl
  at_leaves lsn b false true r e n = refl
  at_leaves lsn b false false r e n = offer_leaves lsn b b.free r e n

  next_leaves : (lsn : ℤ) (b : Books) (m : M) (t : Bool) → Leaves (Some b) m (cond t (Err no.LsnRange, Some b, m) (call.next_with respond slot extent (next_at lsn b) m))
  next_leaves lsn b m true r e n = (refl, refl)
  next_leaves lsn b m false r e n = (ap Some (at_leaves lsn b (unaligned b.size lsn) (in_use b lsn) r e n), refl)

  stabilized_leaves : (b : Books) (m : M) (o : Answer × World M) → Leaves (Some b) m (call.stabilize_by respond slot extent o)
  stabilized_leaves b m (Ok u, w) r e n = never _ tt r e
  stabilized_leaves b m (Err f, w) r e n = faulty _ f r e n

  stabilize_leaves : (lsn : ℤ) (b : Books) (m : M) (t : Bool) → Leaves (Some b) m (cond t (Err no.LsnRange, Some b, m) (call.stabilize_by respond slot extent (stabilized_at respond lsn (world b m))))
  stabilize_leaves lsn b m true r e n = (refl, refl)
  stabilize_leaves lsn b m false r e n = stabilized_leaves b m (stabilized_at respond lsn (world b m)) r e n

  kept_leaves : (m : M) (fs : List FaultRow) (w : World M) → Leaves None m (kept_if respond fs w)
  kept_leaves m [] w r e n = never _ tt r e
  kept_leaves m (row ∷ rows) w r e n = faulty _ _ r e n

  started_leaves : (m : M) (o : Answer × World M) → Leaves None m (started_by respond o)
  started_leaves m (Ok u, w) r e n = kept_leaves m w.books.faults w r e n
  started_leaves m (Err f, w) r e n = faulty _ f r e n

  freed_leaves : (o : Result Books Refusal) (m : M) → Leaves None m (freed_after respond o m)
  freed_leaves (Ok b) m r e n = started_leaves m (free_all respond 0 b.segments (world b m)) r e n
  freed_leaves (Err x) m r e n = (refl, refl)

  start_leaves : (o : Option Refusal) (s : Plan) (size : ℕ) (m : M) → Leaves None m (start_by respond o s size m)
  start_leaves (Some x) s size m r e n = (refl, refl)
  start_leaves None s size m r e n = freed_leaves (recovered s size) m r e n

  -- a reply that refuses is a refusal of the outcome
  told : {X : Type 0} (f : X → Reply) (x : Result X Refusal) (r : Refusal) → ((y : X) → f y ≡ Refused r → ⊥) → reply f x ≡ Refused r → x ≡ Err r
  told f (Ok y) r never-f e = absurd (never-f y e)
  told f (Err x) r never-f e = let s : x ≡ r = cc in ap Err s

  not_done : (r : Refusal) → Done ≡ Refused r → ⊥
  not_done r e = let z : ◌≡◌ {A = ℕ} 0 1 = cc in omega arith

  not_gave : (r : Refusal) (y : ℕ) → Gave y ≡ Refused r → ⊥
  not_gave r y e = let z : ◌≡◌ {A = ℕ} 0 1 = cc in omega arith

  not_popped : (r : Refusal) (y : Option (ℕ × ℕ)) → Popped y ≡ Refused r → ⊥
  not_popped r y e = let z : ◌≡◌ {A = ℕ} 0 1 = cc in omega arith

  pub refusals_leave_all : RefusalsLeaveAll respond slot extent
  refusals_leave_all (Start s) None m r e n = start_leaves (plan_refusal s (slot m) (extent m)) s (extent m) m r (told (λ u. Done) _ r (λ u. not_done r) e) n
  refusals_leave_all (Start s) (Some b) m r e n = (refl, refl)
  refusals_leave_all (Link p info) None m r e n = (refl, refl)
  refusals_leave_all (Link p info) (Some b) m r e n = link_leaves _ p info b m r (told (λ u. Done) _ r (λ u. not_done r) e) n
  refusals_leave_all (Replace p lsn olds new) None m r e n = (refl, refl)
  refusals_leave_all (Replace p lsn olds new) (Some b) m r e n = replace_leaves _ p lsn olds new b m r (told (λ u. Done) _ r (λ u. not_done r) e) n
  refusals_leave_all (Next lsn) None m r e n = (refl, refl)
  refusals_leave_all (Next lsn) (Some b) m r e n = next_leaves lsn b m (out_of_range lsn) r (told Gave _ r (not_gave r) e) n
  refusals_leave_all (Stabilize lsn) None m r e n = (refl, refl)
  refusals_leave_all (Stabilize lsn) (Some b) m r e n = stabilize_leaves lsn b m (not (lt_z lsn (pos 0)) && out_of_range lsn) r (told (λ u. Done) _ r (λ u. not_done r) e) n
  refusals_leave_all Pop None m r e n = (refl, refl)
  refusals_leave_all Pop (Some b) m r e n = absurd (not_popped r _ e)
