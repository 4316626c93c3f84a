-- Every call is made of steps, and so is every run.
use Rattle.std.proofs.Common.{◌≡◌, ℕ, Bool, true, false, cond, not, ◌&&◌, List, [], ◌∷◌, ℤ, pos, Some, None, Ok, Err, Option, refl}
use lib.Signed.{lt_z}
use Rattle.std.proofs.lemmas.Bool.{or_parts}
use Rattle.host.specs.Meaning.{Answer}
use Rattle.host.specs.declared.request.Request.{Request}
use Rattle.segment.specs.declared.cache_info.CacheInfo.{CacheInfo}
use Rattle.rules.specs.declared.refusal.Refusal.{Refusal}
use Rattle.rules.specs.declared.refusal.Refusal.TheVariants as no
use Rattle.rules.specs.Books.{Books, World, world}
use Rattle.rules.specs.Links.{or_else, out_of_range, link_refusal}
use Rattle.rules.specs.Replacing.{replace_refusal}
use Rattle.rules.specs.HandingOut.{next_at}
use Rattle.rules.specs.Stabilizing.{stabilized_at}
use Rattle.rules.specs.Calls as call
use Rattle.rules.specs.Runs.{Call, Start, Link, Replace, Next, Stabilize, Pop, step, run_from}
use Rattle.orders.specs.Always.{IfAny, Kept, Always}
use Rattle.orders.proofs.Steps.{Steps, Beginning}
use Rattle.orders.proofs.Replaces.{or_else_none, passed, replaced_keeps}
use Rattle.orders.proofs.Stabilizes.{stabilized_keeps}
use Rattle.orders.proofs.HandsOut.{next_keeps, popped_keeps}
use Rattle.orders.proofs.Starts.{started_keeps}

module _ {M : Type 0} (respond : M → Request → Answer × M) (slot extent : M → ℕ) {P : Books → Type 0} (k : Steps P) {R : Books → Type 0} {Q : ℕ → Books → Type 0} (s : Beginning R Q P) where
  linked_keeps : (p : ℕ) (info : CacheInfo) (b : Books) (m : M) → P b → IfAny P (call.link respond slot extent p info (Some b) m).1
  linked_keeps p info b m h = on (or_else (call.lsn_refusal (out_of_range info.lsn)) (link_refusal b p info)) refl
    where
      on : (o : Option Refusal) → or_else (call.lsn_refusal (out_of_range info.lsn)) (link_refusal b p info) ≡ o → IfAny P (call.link_by respond slot extent o p info b m).1
      on (Some r) e = h
      on None e = let es = or_else_none (call.lsn_refusal (out_of_range info.lsn)) (link_refusal b p info) e in k.links p info b (passed (out_of_range info.lsn) _ _ es.0).0 es.1 h

  replace_keeps : (p : ℕ) (lsn : ℤ) (olds : List CacheInfo) (new : CacheInfo) (b : Books) (m : M) → P b → IfAny P (call.replace respond slot extent p lsn olds new (Some b) m).1
  replace_keeps p lsn olds new b m h = on (or_else (call.lsn_refusal (call.lsns_outside respond slot extent lsn olds new)) (replace_refusal b p lsn olds new)) refl
    where
      on : (o : Option Refusal) → or_else (call.lsn_refusal (call.lsns_outside respond slot extent lsn olds new)) (replace_refusal b p lsn olds new) ≡ o → IfAny P (call.replace_by respond slot extent o p lsn olds new b m).1
      on (Some r) e = h
      on None e =
          let es = or_else_none (call.lsn_refusal (call.lsns_outside respond slot extent lsn olds new)) (replace_refusal b p lsn olds new) e in
          let r = or_parts (out_of_range lsn) _ (passed (call.lsns_outside respond slot extent lsn olds new) _ _ es.0).0 in
          replaced_keeps respond k p lsn olds new (world b m) r.0 (or_parts (out_of_range new.lsn) _ r.1).0 es.1 h

  hand_keeps : (lsn : ℤ) (b : Books) (m : M) → P b → IfAny P (call.next respond slot extent lsn (Some b) m).1
  hand_keeps lsn b m h = on (out_of_range lsn) refl
    where
      on : (t : Bool) → out_of_range lsn ≡ t → IfAny P (cond t (Err no.LsnRange, Some b, m) (call.next_with respond slot extent (next_at lsn b) m)).1
      on true e = h
      on false e = next_keeps k lsn b e h

  stabilize_keeps : (lsn : ℤ) (b : Books) (m : M) → P b → IfAny P (call.stabilize respond slot extent lsn (Some b) m).1
  stabilize_keeps lsn b m h = on (not (lt_z lsn (pos 0)) && out_of_range lsn) refl
    where
      answered : (o : Answer × World M) → P o.1.books → IfAny P (call.stabilize_by respond slot extent o).1
      answered (Ok u, w) g = g
      answered (Err e, w) g = g

      on : (t : Bool) → (not (lt_z lsn (pos 0)) && out_of_range lsn) ≡ t → IfAny P (cond t (Err no.LsnRange, Some b, m) (call.stabilize_by respond slot extent (stabilized_at respond lsn (world b m)))).1
      on true e = h
      on false e = answered (stabilized_at respond lsn (world b m)) (stabilized_keeps respond k lsn (world b m) e h)

  pub call_keeps : Kept respond slot extent P
  call_keeps (Start plan) None m h = started_keeps s respond plan (slot m) (extent m) m
  call_keeps (Start plan) (Some b) m h = h
  call_keeps (Link p info) None m h = tt
  call_keeps (Link p info) (Some b) m h = linked_keeps p info b m h
  call_keeps (Replace p lsn olds new) None m h = tt
  call_keeps (Replace p lsn olds new) (Some b) m h = replace_keeps p lsn olds new b m h
  call_keeps (Next lsn) None m h = tt
  call_keeps (Next lsn) (Some b) m h = hand_keeps lsn b m h
  call_keeps (Stabilize lsn) None m h = tt
  call_keeps (Stabilize lsn) (Some b) m h = stabilize_keeps lsn b m h
  call_keeps Pop None m h = tt
  call_keeps Pop (Some b) m h = popped_keeps k b h

  pub run_keeps : (cs : List Call) (b : Option Books) (m : M) → IfAny P b → IfAny P (run_from respond slot extent cs b m).1
  unfolding run_from
  run_keeps [] b m h = h
  run_keeps (c ∷ cs) b m h = run_keeps cs (step respond slot extent c b m).1 (step respond slot extent c b m).2 (call_keeps c b m h)

  pub always : Always respond slot extent P
  always cs m = run_keeps cs None m tt
