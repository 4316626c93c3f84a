-- Every run over a lawful host is safe.
use Rattle.std.proofs.Common.{◌≡◌, ℕ, Bool, true, false, ◌&&◌, ◌⊎◌, List, [], ◌∷◌, ◌++◌, ℤ, pos, Some, None, Ok, Err, Option, sym, refl, ap, ◌∙◌, subst, inl, inr}
use Rattle.std.specs.List.{ContainsAt as Has}
use Rattle.std.proofs.ByRecursion.{has_append_left, has_append_right}
use Rattle.std.proofs.lemmas.Bool.{cases_eq, eqb-true, ne_eqb, true≢false, both_ways}
use Rattle.host.specs.Meaning.{Answer, asked_remove, sight, Outcome, Obeys}
use Rattle.host.specs.declared.request.Request.{Request}
use Rattle.host.specs.declared.request.Request.TheVariants as asked
use Rattle.segment.specs.Signs.{same_z}
use Rattle.rules.specs.Books.{Books}
use Rattle.rules.specs.Recount.{Recount}
use Rattle.rules.specs.Runs.{Call, Start, Link, Replace, Next, Stabilize, Pop, Log, recorded}
use Rattle.rules.specs.Safety.{Moment, new, outcome, after_call, after_calls, Safe, AlwaysSafe}
use Rattle.safety.proofs.Accepts.{same_true}
use Rattle.safety.proofs.Calls.{Quiet, Along}
use Rattle.safety.proofs.Deacts.{has_first}
use Rattle.safety.proofs.Ever.{Called, ran, some_called}
use Rattle.safety.proofs.Safes.{bytes_true, free_exact, cut_safe, removed_safe, least_answered, handed_safe}
use Rattle.safety.proofs.Starts.{begun}
use Rattle.safety.proofs.Traces.{step_kept}

module _ {M : Type 0} (respond : M → Request → Answer × M) (slot extent : M → ℕ) where
  none_called : (m : M) (r : Recount) (holds : ℕ → ℕ → Bool) → Quiet r holds → (c : Call) → Called respond slot extent None r holds c (ran respond slot extent None m c)
  none_called m r holds q (Start s) = begun respond slot extent m r holds q s
  none_called m r holds q (Link p info) = (record { lies = q.lies; noted = q.noted; held = λ n t. ap (λ x. x && false) (q.held n t) }, refl)
  none_called m r holds q (Replace p lsn olds info) = (record { lies = q.lies; noted = q.noted; held = λ n t. ap (λ x. x && false) (q.held n t) }, refl)
  none_called m r holds q (Next lsn) = (record { lies = q.lies; noted = q.noted; held = λ n t. ap (λ x. x && false) (q.held n t) }, refl)
  none_called m r holds q (Stabilize lsn) = (record { lies = q.lies; noted = q.noted; held = λ n t. ap (λ x. x && false) (q.held n t) }, refl)
  none_called m r holds q Pop = (record { lies = q.lies; noted = q.noted; held = λ n t. ap (λ x. x && false) (q.held n t) }, refl)

  called : (ob : Option Books) (m : M) (r : Recount) (holds : ℕ → ℕ → Bool) → Along ob r holds → (c : Call) → Called respond slot extent ob r holds c (ran respond slot extent ob m c)
  called None m r holds a c = none_called m r holds a c
  called (Some b) m r holds a c = some_called respond slot extent b m r holds a c

  run_along : (cs : List Call) (s : Moment M) → Along s.books s.count s.holds → Along (after_calls respond slot extent s cs).books (after_calls respond slot extent s cs).count (after_calls respond slot extent s cs).holds
  unfolding after_calls
  run_along [] s a = a
  run_along (c ∷ cs) s a = run_along cs (after_call respond slot extent s c) (called s.books s.host s.count s.holds a c).0

  -- ---- a blob that leaves was removed
  module _ (held : M → ℤ → Bool) (obeys : (m : M) (q : Request) → Obeys (sight extent held slot) m q (respond m q)) (blob : ℤ) where
    abbrev Logged : M × Log → Type 0
    Logged x = held x.0 blob ≡ false → Has x.1 (asked_remove blob, Ok tt)

    cases_same : (a c : ℤ) (t : Bool) → same_z a c ≡ t → (a ≡ c) ⊎ (a ≡ c → ⊥)
    cases_same a c true e = inl (same_true a c e)
    cases_same a c false e = inr (λ q. both_ways (same_z a c) e (subst (λ z. same_z a z ≡ true) q (self a)))
      where
        self : (z : ℤ) → same_z z z ≡ true
        self (pos n) = Rattle.std.proofs.lemmas.Bool.eq-eqb n n refl
        self (lib.IntN.negsuc n) = Rattle.std.proofs.lemmas.Bool.eq-eqb n n refl

    keeps_by : (m : M) (log : Log) (q : Request) (a : Answer) (n : M) → Outcome (sight extent held slot m) q a (sight extent held slot n) → Logged (m, log) → Logged (n, log ++ (q, a) ∷ [])
    keeps_by m log (asked.Cut o) (Ok u) n w k e = has_append_left log ((asked.Cut o, Ok u) ∷ []) (asked_remove blob, Ok tt) (k (sym (w.blobs_are blob) ∙ e))
    keeps_by m log (asked.Fill o) (Ok u) n w k e = has_append_left log ((asked.Fill o, Ok u) ∷ []) (asked_remove blob, Ok tt) (k (sym (w.blobs_are blob) ∙ e))
    keeps_by m log (asked.Remove b) (Ok u) n w k e = on (cases_same blob b (same_z blob b) refl)
      where
        on : (blob ≡ b) ⊎ (blob ≡ b → ⊥) → Has (log ++ (asked.Remove b, Ok u) ∷ []) (asked_remove blob, Ok tt)
        on (inl q) = has_append_right log ((asked.Remove b, Ok u) ∷ []) (asked_remove blob, Ok tt) (subst (λ z. Has {X = Request × Answer} ((asked.Remove b, Ok u) ∷ []) (asked_remove z, Ok tt)) (sym q) (has_first {X = Request × Answer} (asked.Remove b, Ok u) []))
        on (inr q) = has_append_left log ((asked.Remove b, Ok u) ∷ []) (asked_remove blob, Ok tt) (k (sym (w.blobs_are.1 blob q) ∙ e))
    keeps_by m log q (Err x) n w k e = has_append_left log ((q, Err x) ∷ []) (asked_remove blob, Ok tt) (k (sym (w.unchanged.blobs_stay blob) ∙ e))

    keeps : (x : M × Log) (q : Request) → Logged x → Logged (recorded respond x q).1
    keeps x q k = keeps_by x.0 x.1 q (respond x.0 q).0 (respond x.0 q).1 (obeys x.0 q) k

    leaves_logged : (ob : Option Books) (m : M) (c : Call) → held m blob ≡ true → held (ran respond slot extent ob m c).2.0 blob ≡ false → Has (ran respond slot extent ob m c).2.1 (asked_remove blob, Ok tt)
    leaves_logged ob m c e = step_kept (recorded respond) (λ x. slot x.0) (λ x. extent x.0) Logged keeps c ob (m, []) (λ f. absurd (true≢false (sym e ∙ f)))

  module _ (held : M → ℤ → Bool) (obeys : (m : M) (q : Request) → Obeys (sight extent held slot) m q (respond m q)) where
    safe_along : (s : Moment M) → Along s.books s.count s.holds → (c : Call) → Safe respond slot extent held s c
    safe_along s a c =
        let k : Called respond slot extent s.books s.count s.holds c (ran respond slot extent s.books s.host c) = called s.books s.host s.count s.holds a c in
        record {
          live_bytes_are_true = bytes_true (after_call respond slot extent s c).books (after_call respond slot extent s c).count (after_call respond slot extent s c).holds k.0;
          free_list_is_exact = free_exact (after_call respond slot extent s c).books (after_call respond slot extent s c).count (after_call respond slot extent s c).holds k.0;
          next_answers_the_least = λ lsn offset e f. least_answered respond slot extent s.books s.host s.count s.holds a lsn offset (sym (ap (λ x. (ran respond slot extent s.books s.host x).0) e) ∙ f);
          nothing_is_handed_out_early = λ lsn offset e f. handed_safe respond slot extent s.books s.host s.count s.holds a lsn offset (sym (ap (λ x. (ran respond slot extent s.books s.host x).0) e) ∙ f);
          nothing_is_cut_off_early = cut_safe (after_call respond slot extent s c).books (after_call respond slot extent s c).count (after_call respond slot extent s c).holds (outcome respond slot extent s c).2.1 k.0 k.1;
          no_blob_is_removed_early = removed_safe (after_call respond slot extent s c).books (after_call respond slot extent s c).count (outcome respond slot extent s c).2.1 k.1;
          no_blob_leaves_early = λ blob e f. removed_safe (after_call respond slot extent s c).books (after_call respond slot extent s c).count (outcome respond slot extent s c).2.1 k.1 blob (leaves_logged held obeys blob s.books s.host c e f);
        }

    pub always_safe : AlwaysSafe respond slot extent held
    always_safe m cs c = safe_along (after_calls respond slot extent (new respond slot extent m) cs) (run_along cs (new respond slot extent m) (record { lies = λ n p. refl; noted = λ n. refl; held = λ n t. refl })) c
