-- The six calls: answer, books after, host after. Books that are none are those before an accepted start.
use Rattle.std.specs.Prelude.{ℕ, Bool, cond, not, ◌&&◌, ◌||◌, List, [], ◌∷◌, ℤ, pos, Some, None, Ok, Err, Option, Result, int_lt}
use Rattle.table.specs.Rows.{every}
use Rattle.host.specs.Meaning.{Answer}
use Rattle.host.specs.declared.request.Request.{Request}
use Rattle.segment.specs.declared.cache_info.CacheInfo.{CacheInfo}
use Rattle.rules.specs.declared.refusal.Refusal.{Refusal}
use Rattle.rules.specs.declared.refusal.Refusal.TheVariants as no
use Rattle.rules.specs.Books.{Books, World, world}
use Rattle.rules.specs.HandingOut.{next_at, popped}
use Rattle.rules.specs.Links.{first_refusal, or_else, out_of_range, link_refusal, link_of}
use Rattle.rules.specs.Replacing.{replace_refusal, replaced}
use Rattle.rules.specs.Stabilizing.{stabilized_at}
use Rattle.rules.specs.Starting.{Plan, started}

-- what a call gives: its answer, the books and the host after it
abbrev pub Outcome : Type 0 → Type 0 → Type 0
Outcome X M = Result X Refusal × Option Books × M

abbrev pub lsn_refusal : Bool → Option Refusal
lsn_refusal outside = first_refusal ((outside, no.LsnRange) ∷ [])

module _ {M : Type 0} (respond : M → Request → Answer × M) (slot extent : M → ℕ) where
  -- ---- start
  abbrev pub start : Plan → Option Books → M → Outcome (Unit {0}) M
  start s None m = started respond s (slot m) (extent m) m
  start s (Some b) m = (Err no.OutOfTurn, Some b, m)

  -- ---- link
  abbrev pub link_by : Option Refusal → ℕ → CacheInfo → Books → M → Outcome (Unit {0}) M
  link_by (Some refusal) p info b m = (Err refusal, Some b, m)
  link_by None p info b m = (Ok tt, Some (link_of p info b), m)

  abbrev pub link : ℕ → CacheInfo → Option Books → M → Outcome (Unit {0}) M
  link p info None m = (Err no.OutOfTurn, None, m)
  link p info (Some b) m = link_by (or_else (lsn_refusal (out_of_range info.lsn)) (link_refusal b p info)) p info b m

  -- ---- replace
  abbrev pub lsns_outside : ℤ → List CacheInfo → CacheInfo → Bool
  lsns_outside lsn olds new = out_of_range lsn || (out_of_range new.lsn || not (every (λ old. not (out_of_range old.lsn)) olds))

  abbrev pub kept_world : {X : Type 0} → X → World M → Outcome X M
  kept_world x w = (Ok x, Some w.books, w.host)

  abbrev pub replace_by : Option Refusal → ℕ → ℤ → List CacheInfo → CacheInfo → Books → M → Outcome (Unit {0}) M
  replace_by (Some refusal) p lsn olds new b m = (Err refusal, Some b, m)
  replace_by None p lsn olds new b m = kept_world tt (replaced respond p lsn olds new (world b m))

  abbrev pub replace : ℕ → ℤ → List CacheInfo → CacheInfo → Option Books → M → Outcome (Unit {0}) M
  replace p lsn olds new None m = (Err no.OutOfTurn, None, m)
  replace p lsn olds new (Some b) m = replace_by (or_else (lsn_refusal (lsns_outside lsn olds new)) (replace_refusal b p lsn olds new)) p lsn olds new b m

  -- ---- next
  abbrev pub next_with : Result ℕ Refusal × Books → M → Outcome ℕ M
  next_with o m = (o.0, Some o.1, m)

  abbrev pub next : ℤ → Option Books → M → Outcome ℕ M
  next lsn None m = (Err no.OutOfTurn, None, m)
  next lsn (Some b) m = cond (out_of_range lsn) (Err no.LsnRange, Some b, m) (next_with (next_at lsn b) m)

  -- ---- stabilize
  abbrev pub stabilize_by : Answer × World M → Outcome (Unit {0}) M
  stabilize_by (Ok u, w) = (Ok tt, Some w.books, w.host)
  stabilize_by (Err e, w) = (Err (no.Host e), Some w.books, w.host)

  -- a negative LSN passes the check of the range
  abbrev pub stabilize : ℤ → Option Books → M → Outcome (Unit {0}) M
  stabilize lsn None m = (Err no.OutOfTurn, None, m)
  stabilize lsn (Some b) m = cond (not (int_lt lsn (pos 0)) && out_of_range lsn) (Err no.LsnRange, Some b, m) (stabilize_by (stabilized_at respond lsn (world b m)))

  -- ---- pop
  abbrev pub pop_with : Option (ℕ × ℕ) × Books → M → Outcome (Option (ℕ × ℕ)) M
  pop_with o m = (Ok o.0, Some o.1, m)

  abbrev pub pop : Option Books → M → Outcome (Option (ℕ × ℕ)) M
  pop None m = (Err no.OutOfTurn, None, m)
  pop (Some b) m = pop_with (popped b) m
