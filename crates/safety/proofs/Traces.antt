-- The host is changed by requests only: what every answer keeps is kept by every call.
use Rattle.std.proofs.Common.{ℕ, zero, suc, Bool, true, false, cond, not, ◌&&◌, eqb, leb, List, [], ◌∷◌, length, ℤ, pos, Some, None, Ok, Err, Option, Result}
use lib.Signed.{lt_z}
use Rattle.host.specs.Meaning.{Answer, asked_cut, asked_fill, asked_remove}
use Rattle.host.specs.declared.request.Request.{Request}
use Rattle.segment.specs.declared.rows.BlobRow.{BlobRow}
use Rattle.segment.specs.declared.rows.FreeableRow.{FreeableRow}
use Rattle.segment.specs.declared.rows.OrderingRow.{OrderingRow}
use Rattle.segment.specs.declared.rows.FaultRow.{FaultRow}
use Rattle.segment.specs.declared.state.State.{State}
use Rattle.segment.specs.declared.state.State.TheVariants as is
use Rattle.segment.specs.declared.state.Active as active-state
use Rattle.segment.specs.declared.state.Draining.{Draining}
use Rattle.rules.specs.declared.refusal.Refusal.{Refusal}
use Rattle.rules.specs.Books.{Books, World, world, state_of, offset_of}
use Rattle.rules.specs.Calls as call
use Rattle.rules.specs.Cleaning.{drain_if_empty, holder, settle, free_by, cleaned}
use Rattle.rules.specs.Freeing.{put_free, can_cut, cut_once, cut_tail, freed}
use Rattle.rules.specs.HandingOut.{next_at}
use Rattle.rules.specs.Links.{out_of_range, or_else, link_refusal}
use Rattle.rules.specs.Replacing.{taken_at, visited, replace_refusal}
use Rattle.rules.specs.Runs.{Call, Start, Link, Replace, Next, Stabilize, Pop, step}
use Rattle.rules.specs.Stabilizing.{removed_by, remove_blobs, release, release_all, number_of_lsn, blobs_of, deactivated_by, deactivate_state, deactivated, then_deactivated, deactivate_all, is_settled, level, stabilized_to, stabilized_at, is_free}
use Rattle.rules.specs.Starting.{Plan, plan_refusal, recovered, filled, free_state, then_free, free_all, kept_if, started_by, freed_after, start_by}

module _ {X : Type 0} (respond : X → Request → Answer × X) (slot extent : X → ℕ) (K : X → Type 0) (keeps : (x : X) (q : Request) → K x → K (respond x q).1) where
  cut_kept : (n : ℕ) (w : World X) → K w.host → K (cut_tail respond n w).host
  unfolding cut_tail
  cut_kept zero w k = k
  cut_kept (suc n) w k = on (cut_kept n (cut_once respond w) (keeps w.host (asked_cut _) k)) (can_cut w.books)
    where
      on : K (cut_tail respond n (cut_once respond w)).host → (t : Bool) → K (cond t (cut_tail respond n (cut_once respond w)) w).host
      on a true = a
      on a false = k

  freed_kept : (n : ℕ) (w : World X) → K w.host → K (freed respond n w).host
  freed_kept n w k = cut_kept (length (put_free n w.books).free) (world (put_free n w.books) w.host) k

  settle_kept : (n : ℕ) (d : Draining) (w : World X) (o : Option ℕ) → K w.host → K (settle respond n d w o).host
  settle_kept n d w None k = freed_kept n _ k
  settle_kept n d w (Some t) k = k

  free_kept : (n : ℕ) (s : State) (w : World X) → K w.host → K (free_by respond n s w).host
  free_kept n (is.Free f) w k = k
  free_kept n (is.Active a) w k = k
  free_kept n (is.Inactive i) w k = k
  free_kept n (is.Draining d) w k = on (eqb d.replaced_pids d.max_pids)
    where
      on : (t : Bool) → K (cond t (settle respond n d w (holder w.books d.latest_replacement_lsn)) w).host
      on true = settle_kept n d w (holder w.books d.latest_replacement_lsn) k
      on false = k

  cleaned_kept : (n : ℕ) (w : World X) → K w.host → K (cleaned respond n w).host
  unfolding cleaned
  cleaned_kept n w k = free_kept n (state_of (drain_if_empty n w.books) n) (world (drain_if_empty n w.books) w.host) k

  visited_kept : (p : ℕ) (base : ℤ) (sums : List (ℕ × ℕ)) (w : World X) → K w.host → K (visited respond p base sums w).host
  unfolding visited
  visited_kept p base [] w k = k
  visited_kept p base (s ∷ sums) w k = visited_kept p base sums _ (cleaned_kept s.0 (world (taken_at s.0 p base s.1 w.books) w.host) k)

  removes_kept : (rows : List BlobRow) (x : X) → K x → K (remove_blobs respond rows x).1
  removes_kept [] x k = k
  removes_kept (row ∷ rows) x k = on (respond x (asked_remove row.blob)) (keeps x (asked_remove row.blob) k) (removes_kept rows)
    where
      on : (a : Answer × X) → K a.1 → ((y : X) → K y → K (remove_blobs respond rows y).1) → K (removed_by respond (remove_blobs respond rows) a).1
      on (Ok u, y) h ih = ih y h
      on (Err e, y) h ih = h

  releases_kept : (rows : List FreeableRow) (w : World X) → K w.host → K (release_all respond rows w).host
  unfolding release_all
  releases_kept [] w k = k
  releases_kept (row ∷ rows) w k = releases_kept rows (release respond row w) (freed_kept (number_of_lsn w.books row.lsn) _ k)

  deact_kept : (lsn : ℤ) (w : World X) → K w.host → K (deactivated respond lsn w).1.host
  unfolding deactivated
  deact_kept lsn w k = on (state_of w.books (number_of_lsn w.books lsn))
    where
      n : ℕ
      n = number_of_lsn w.books lsn

      by : (a : active-state.Active) (x : Answer × X) → K x.1 → K (deactivated_by respond n a w.books x).1.host
      by a (Ok u, y) h = cleaned_kept n _ (releases_kept _ _ h)
      by a (Err e, y) h = h

      on : (s : State) → K (deactivate_state respond n s w).1.host
      on (is.Free f) = k
      on (is.Active a) = by a (remove_blobs respond (blobs_of n w.books.blobs) w.host) (removes_kept (blobs_of n w.books.blobs) w.host k)
      on (is.Inactive i) = k
      on (is.Draining d) = k

  deacts_kept : (rows : List OrderingRow) (w : World X) → K w.host → K (deactivate_all respond rows w).1.host
  unfolding deactivate_all
  deacts_kept [] w k = k
  deacts_kept (row ∷ rows) w k = on (deactivated respond row.lsn w) (deact_kept row.lsn w k) (deacts_kept rows)
    where
      on : (a : Answer × World X) → K a.1.host → ((y : World X) → K y.host → K (deactivate_all respond rows y).1.host) → K (then_deactivated respond (deactivate_all respond rows) a).1.host
      on (Ok u, y) h ih = ih y h
      on (Err e, y) h ih = h

  stable_kept : (lsn : ℤ) (w : World X) → K w.host → K (stabilized_at respond lsn w).1.host
  stable_kept lsn w k = on (is_settled w.books lsn)
    where
      on : (t : Bool) → K (cond {A = Answer × World X} t (Ok tt, w) (stabilized_to respond (level w.books.size lsn) w)).1.host
      on true = k
      on false = deacts_kept _ _ k

  filled_kept : (n : ℕ) (w : World X) → K w.host → K (filled respond n w).1.host
  filled_kept n w k = on (leb w.books.tip (offset_of w.books n))
    where
      on : (t : Bool) → K (cond {A = Answer × World X} t (Ok tt, w) (Rattle.rules.specs.Starting.fill_by respond w.books (respond w.host (asked_fill (offset_of w.books n))))).1.host
      on true = k
      on false = keeps w.host (asked_fill (offset_of w.books n)) k

  state_kept : (n : ℕ) (s : State) (w : World X) → K w.host → K (free_state respond n s w).1.host
  state_kept n s w k = on (is_free s)
    where
      on : (t : Bool) → K (cond {A = Answer × World X} t (filled respond n (freed respond n w)) (Ok tt, w)).1.host
      on true = filled_kept n (freed respond n w) (freed_kept n w k)
      on false = k

  lists_kept : (n : ℕ) (rest : List State) (w : World X) → K w.host → K (free_all respond n rest w).1.host
  unfolding free_all
  lists_kept n [] w k = k
  lists_kept n (s ∷ rest) w k = on (free_state respond n s w) (state_kept n s w k) (lists_kept (suc n) rest)
    where
      on : (a : Answer × World X) → K a.1.host → ((y : World X) → K y.host → K (free_all respond (suc n) rest y).1.host) → K (then_free respond (free_all respond (suc n) rest) a).1.host
      on (Ok u, y) h ih = ih y h
      on (Err e, y) h ih = h

  start_kept : (o : Option Refusal) (s : Plan) (e : ℕ) (x : X) → K x → K (start_by respond o s e x).2
  start_kept (Some refusal) s e x k = k
  start_kept None s e x k = on (recovered s e)
    where
      faults : (rows : List FaultRow) (w : World X) → K w.host → K (kept_if respond rows w).2
      faults [] w h = h
      faults (row ∷ rows) w h = h

      by : (a : Answer × World X) → K a.1.host → K (started_by respond a).2
      by (Ok u, w) h = faults w.books.faults w h
      by (Err e, w) h = h

      on : (r : Result Books Refusal) → K (freed_after respond r x).2
      on (Ok b) = by (free_all respond 0 b.segments (world b x)) (lists_kept 0 b.segments (world b x) k)
      on (Err refusal) = k

  pub step_kept : (c : Call) (ob : Option Books) (x : X) → K x → K (step respond slot extent c ob x).2
  step_kept (Start s) None x k = start_kept (plan_refusal s (slot x) (extent x)) s (extent x) x k
  step_kept (Start s) (Some b) x k = k
  step_kept (Link p info) None x k = k
  step_kept (Link p info) (Some b) x k = on (or_else (call.lsn_refusal (out_of_range info.lsn)) (link_refusal b p info))
    where
      on : (o : Option Refusal) → K (call.link_by respond slot extent o p info b x).2
      on None = k
      on (Some e) = k
  step_kept (Replace p lsn olds info) None x k = k
  step_kept (Replace p lsn olds info) (Some b) x k = on (or_else (call.lsn_refusal (call.lsns_outside respond slot extent lsn olds info)) (replace_refusal b p lsn olds info))
    where
      on : (o : Option Refusal) → K (call.replace_by respond slot extent o p lsn olds info b x).2
      on None = visited_kept p _ _ _ k
      on (Some e) = k
  step_kept (Next lsn) None x k = k
  step_kept (Next lsn) (Some b) x k = on (out_of_range lsn)
    where
      on : (t : Bool) → K (cond {A = call.Outcome ℕ X} t (Err Rattle.rules.specs.declared.refusal.Refusal.TheVariants.LsnRange, Some b, x) (call.next_with respond slot extent (next_at lsn b) x)).2
      on true = k
      on false = k
  step_kept (Stabilize lsn) None x k = k
  step_kept (Stabilize lsn) (Some b) x k = on (not (lt_z lsn (pos 0)) && out_of_range lsn)
    where
      by : (a : Answer × World X) → K a.1.host → K (call.stabilize_by respond slot extent a).2
      by (Ok u, w) h = h
      by (Err e, w) h = h

      on : (t : Bool) → K (cond {A = call.Outcome (Unit {0}) X} t (Err Rattle.rules.specs.declared.refusal.Refusal.TheVariants.LsnRange, Some b, x) (call.stabilize_by respond slot extent (stabilized_at respond lsn (world b x)))).2
      on true = k
      on false = by (stabilized_at respond lsn (world b x)) (stable_kept lsn (world b x) k)
  step_kept Pop None x k = k
  step_kept Pop (Some b) x k = k
