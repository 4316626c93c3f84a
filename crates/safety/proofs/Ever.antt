-- Every call keeps what holds between calls, and is safe; so every run is.
use Rattle.std.proofs.Common.{◌≡◌, ℕ, ◌*◌, ◌/◌, Bool, true, false, cond, not, ◌&&◌, ltb, leb, List, [], ◌∷◌, ℤ, pos, negsuc, Some, None, Ok, Err, Option, Result, refl}
use lib.Signed.{lt_z}
use Rattle.host.specs.Meaning.{Answer}
use Rattle.host.specs.declared.request.Request.{Request}
use Rattle.segment.specs.declared.cache_info.CacheInfo.{CacheInfo}
use Rattle.segment.specs.declared.rows.FaultRow.{FaultRow}
use Rattle.rules.specs.declared.refusal.Refusal.{Refusal}
use Rattle.rules.specs.declared.refusal.Refusal.TheVariants as no
use Rattle.rules.specs.Books.{Books, World, world, with_faults}
use Rattle.rules.specs.Calls as call
use Rattle.rules.specs.HandingOut.{unaligned, in_use, at_tip, offered, handed_out, next_by, next_at, popped_at, first_listed}
use Rattle.rules.specs.Links.{out_of_range, or_else, link_refusal}
use Rattle.rules.specs.Recount.{Recount, told, told_stable, nothing_told}
use Rattle.rules.specs.Recount as real
use Rattle.rules.specs.Replacing.{replace_refusal}
use Rattle.rules.specs.Runs.{Call, Start, Link, Replace, Next, Stabilize, Pop, Reply, Done, Gave, step, replied, Log, recorded}
use Rattle.rules.specs.Safety.{holds_after, new}
use Rattle.rules.specs.Stabilizing.{stabilized_at}
use Rattle.safety.proofs.Accepts.{Accepted, or_none, link_accepted, replace_accepted}
use Rattle.safety.proofs.Calls.{fine_of, Kept, Along, Cleared, accepted_kept, same_kept, alike_kept, faults_alike, pop_alike, stabilize_accepted}
use Rattle.safety.proofs.Hands.{hand_tip_kept, hand_first_kept}

module _ {M : Type 0} (respond : M → Request → Answer × M) (slot extent : M → ℕ) where
  -- what a call leaves
  abbrev pub Called : Option Books → Recount → (ℕ → ℕ → Bool) → Call → Reply × Option Books × (M × Log) → Type 0
  Called ob r holds c o = Along o.1 (told c o.0 r) (holds_after ob o.1 (told c o.0 r).noted holds) × Cleared o.1 (told c o.0 r) o.2.1

  abbrev pub ran : Option Books → M → Call → Reply × Option Books × (M × Log)
  ran ob m c = step (recorded respond) (λ x. slot x.0) (λ x. extent x.0) c ob (m, [])

  -- ---- calls on books
  module _ (b : Books) (m : M) (r : Recount) (holds : ℕ → ℕ → Bool) (k : Kept b r holds) where
    link_called : (p : ℕ) (info : CacheInfo) (o : Option Refusal) → or_else (call.lsn_refusal (out_of_range info.lsn)) (link_refusal b p info) ≡ o → Called (Some b) r holds (Link p info) (replied (λ u. Done) (call.link_by (recorded respond) (λ x. slot x.0) (λ x. extent x.0) o p info b (m, [])))
    link_called p info None e =
        let a : Accepted (fine_of (real.told_info p info r)) (real.told_info p info r) b k.now (world (Rattle.rules.specs.Links.link_of p info b) (m, [])) = link_accepted (fine_of (real.told_info p info r)) b m r k.now p info k.sound (or_none (call.lsn_refusal (out_of_range info.lsn)) (link_refusal b p info) e).1 in
        (accepted_kept (fine_of (real.told_info p info r)) b r (real.told_info p info r) holds k (world (Rattle.rules.specs.Links.link_of p info b) (m, [])) a, a.asked)
    link_called p info (Some x) e = (same_kept b r holds k, refl)

    replace_called : (p : ℕ) (lsn : ℤ) (olds : List CacheInfo) (info : CacheInfo) (o : Option Refusal) → or_else (call.lsn_refusal (call.lsns_outside (recorded respond) (λ x. slot x.0) (λ x. extent x.0) lsn olds info)) (replace_refusal b p lsn olds info) ≡ o → Called (Some b) r holds (Replace p lsn olds info) (replied (λ u. Done) (call.replace_by (recorded respond) (λ x. slot x.0) (λ x. extent x.0) o p lsn olds info b (m, [])))
    replace_called p lsn olds info None e =
        let t : Recount = real.told_replace p lsn olds info r in
        let a : Accepted (fine_of t) t b k.now (Rattle.rules.specs.Replacing.replaced (recorded respond) p lsn olds info (world b (m, []))) = replace_accepted respond (fine_of t) b m r k.now p lsn olds info k.sound (or_none (call.lsn_refusal (call.lsns_outside (recorded respond) (λ x. slot x.0) (λ x. extent x.0) lsn olds info)) (replace_refusal b p lsn olds info) e).1 in
        (accepted_kept (fine_of t) b r t holds k (Rattle.rules.specs.Replacing.replaced (recorded respond) p lsn olds info (world b (m, []))) a, a.asked)
    replace_called p lsn olds info (Some x) e = (same_kept b r holds k, refl)

    stable_called : (lsn : ℤ) (x : Answer × World (M × Log)) → Accepted (fine_of (told_stable lsn r)) (told_stable lsn r) b k.now x.1 → Called (Some b) r holds (Stabilize lsn) (replied (λ u. Done) (call.stabilize_by (recorded respond) (λ y. slot y.0) (λ y. extent y.0) x))
    stable_called lsn (Ok u, w) a = (accepted_kept (fine_of (told_stable lsn r)) b r (told_stable lsn r) holds k w a, a.asked)
    stable_called lsn (Err e, w) a = (accepted_kept (fine_of (told_stable lsn r)) b r (told_stable lsn r) holds k w a, a.asked)

    -- next, by its parts
    abbrev Nexted : ℤ → Result ℕ Refusal × Books → Type 0
    Nexted lsn x = Called (Some b) r holds (Next lsn) (replied Gave (call.next_with (recorded respond) (λ y. slot y.0) (λ y. extent y.0) x (m, [])))

    by_called : (l o : ℕ) (t : Bool) → Kept (handed_out (pos l) o b) (real.told_next (o / r.size) (pos l) r) (holds_after (Some b) (Some (handed_out (pos l) o b)) (real.told_next (o / r.size) (pos l) r).noted holds) → Nexted (pos l) (cond t (Err no.BelowOffset, b) (Ok o, handed_out (pos l) o b))
    by_called l o true h = (same_kept b r holds k, refl)
    by_called l o false h = (h, refl)

    tip_called : (l : ℕ) → in_use b (pos l) ≡ false → b.free ≡ [] → (faults : List FaultRow) → Nexted (pos l) (next_by (pos l) (at_tip b faults))
    tip_called l new e [] = on (leb (256 * b.size) b.tip)
      where
        on : (t : Bool) → Nexted (pos l) (next_by (pos l) (cond t (Err no.FileFull, b) (Ok b.tip, b)))
        on true = (same_kept b r holds k, refl)
        on false = by_called l b.tip (ltb l b.tip) (hand_tip_kept b r holds l k new e)
    tip_called l new e (row ∷ rows) = (alike_kept b (with_faults [] b) r holds k (faults_alike b [] k.sound.whole), refl)

    offered_called : (l : ℕ) → in_use b (pos l) ≡ false → (free : List ℕ) → b.free ≡ free → Nexted (pos l) (next_by (pos l) (offered b free))
    offered_called l new [] e = tip_called l new e b.faults
    offered_called l new (x ∷ xs) e = by_called l x (ltb l x) (hand_first_kept b r holds l x xs k new e)

    at_called : (l : ℕ) (s t : Bool) → in_use b (pos l) ≡ t → Nexted (pos l) (cond s (Err no.Unaligned, b) (cond t (Err no.LsnInUse, b) (next_by (pos l) (offered b b.free))))
    at_called l true t e = (same_kept b r holds k, refl)
    at_called l false true e = (same_kept b r holds k, refl)
    at_called l false false e = offered_called l e b.free refl

    next_called : (lsn : ℤ) → Called (Some b) r holds (Next lsn) (ran (Some b) m (Next lsn))
    next_called (negsuc l) = (same_kept b r holds k, refl)
    next_called (pos l) = on (out_of_range (pos l))
      where
        on : (t : Bool) → Called (Some b) r holds (Next (pos l)) (replied Gave (cond t (Err no.LsnRange, Some b, (m, [])) (call.next_with (recorded respond) (λ y. slot y.0) (λ y. extent y.0) (next_at (pos l) b) (m, []))))
        on true = (same_kept b r holds k, refl)
        on false = at_called l (unaligned b.size (pos l)) (in_use b (pos l)) refl

    pub some_called : (c : Call) → Called (Some b) r holds c (ran (Some b) m c)
    some_called (Start s) = (same_kept b r holds k, refl)
    some_called (Link p info) = link_called p info _ refl
    some_called (Replace p lsn olds info) = replace_called p lsn olds info _ refl
    some_called (Next lsn) = next_called lsn
    some_called (Stabilize lsn) = on (not (lt_z lsn (pos 0)) && out_of_range lsn)
      where
        on : (t : Bool) → Called (Some b) r holds (Stabilize lsn) (replied (λ u. Done) (cond t (Err no.LsnRange, Some b, (m, [])) (call.stabilize_by (recorded respond) (λ y. slot y.0) (λ y. extent y.0) (stabilized_at (recorded respond) lsn (world b (m, []))))))
        on true = (same_kept b r holds k, refl)
        on false = stable_called lsn (stabilized_at (recorded respond) lsn (world b (m, []))) (stabilize_accepted respond b m r k.now lsn k.sound)
    some_called Pop = (alike_kept b (popped_at (first_listed b) b).1 r holds k (pop_alike b (first_listed b) k.sound.whole), refl)
