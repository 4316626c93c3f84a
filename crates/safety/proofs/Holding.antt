-- The words for holding back say what the holders say, after a call that hands nothing out and after one that does.
use Rattle.std.proofs.Common.{◌≡◌, ℕ, ◌<◌, ◌≤◌, max, Bool, true, false, cond, not, ◌&&◌, eqb, ltb, ◌⊎◌, List, [], ◌∷◌, ℤ, pos, negsuc, Some, None, Option, sym, refl, ap, ◌∙◌, inl, inr, arith}
use lib.Signed.{non_neg}
use Rattle.std.specs.Int.{int_max}
use Rattle.std.proofs.lemmas.Bool.{cases_lt, eq-eqb, eqb-true, and_parts, and_from, true≢false, lt-ltb, le-ltb, both_ways}
use Rattle.table.specs.Rows.{every}
use Rattle.segment.specs.Signs.{same_z}
use Rattle.segment.specs.declared.state.State.{State}
use Rattle.segment.specs.declared.state.State.TheVariants as is
use Rattle.rules.specs.Books.{Books, state_of}
use Rattle.rules.specs.Recount.{upd, largest}
use Rattle.rules.specs.Safety.{is_active_at, is_any_active, holds_after}
use Rattle.rules.specs.Stabilizing.{is_free}
use Rattle.safety.proofs.Plain.{Seg, Active, seg_is_free, active, is_none, the, greatest, plain, seen}
use Rattle.safety.proofs.Views.{Holders}
use Rattle.safety.proofs.Looks.{seg_of}
use Rattle.safety.proofs.Moves.{Moved}
use Rattle.safety.proofs.Steps.{Positive}

abbrev pub is_at : Option ℕ → ℕ → Bool
is_at None l = false
is_at (Some k) l = eqb k l

bool_iff : (a b : Bool) → (a ≡ true → b ≡ true) → (b ≡ true → a ≡ true) → a ≡ b
bool_iff true b f g = sym (f refl)
bool_iff false true f g = g refl
bool_iff false false f g = refl

pub at_true : (o : Option ℕ) (l : ℕ) → is_at o l ≡ true → o ≡ Some l
at_true None l e = absurd (true≢false (sym e))
at_true (Some k) l e = ap Some (eqb-true k l e)

pub at_from : (o : Option ℕ) (l : ℕ) → o ≡ Some l → is_at o l ≡ true
at_from o l e = ap (λ (q : Option ℕ). is_at q l) e ∙ eq-eqb l l refl

pub at_none : (o : Option ℕ) (t : ℕ) → is_none o ≡ true → is_at o t ≡ false
at_none None t e = refl
at_none (Some k) t e = absurd (true≢false (sym e))

pub none_held : (o : Option ℕ) → ((t : ℕ) → is_at o t ≡ false) → is_none o ≡ true
none_held None f = refl
none_held (Some k) f = absurd (both_ways (eqb k k) (f k) (eq-eqb k k refl))

some_is : (o : Option ℕ) → not (is_none o) ≡ true → o ≡ Some (the o)
some_is None e = absurd (true≢false (sym e))
some_is (Some k) e = refl

-- ---- the words
pub free_is : (s : State) → is_free s ≡ seg_is_free (seen s)
free_is (is.Free f) = refl
free_is (is.Active a) = refl
free_is (is.Inactive i) = refl
free_is (is.Draining d) = refl

any_is : (s : State) → is_any_active s ≡ not (is_none (active (seen s)))
any_is (is.Free f) = refl
any_is (is.Active a) = refl
any_is (is.Inactive i) = refl
any_is (is.Draining d) = refl

at_is : (s : State) (g : ℕ) → Positive s → is_active_at (pos g) s ≡ is_at (active (seen s)) g
at_is (is.Free f) g p = refl
at_is (is.Active a) g p = ap (λ z. same_z z (pos g)) p.0
at_is (is.Inactive i) g p = refl
at_is (is.Draining d) g p = refl

pub largest_is : (xs : List ℤ) → every non_neg xs ≡ true → largest xs ≡ pos (greatest (plain xs))
largest_is [] e = refl
largest_is (pos a ∷ xs) e = ap (int_max (pos a)) (largest_is xs e) ∙ on (greatest (plain xs)) (cases_lt (greatest (plain xs)) a)
  where
    on : (g : ℕ) → (g < a) ⊎ (a ≤ g) → cond (ltb g a) (pos a) (pos g) ≡ pos (max a g)
    on g (inl l) = rw (lt-ltb g a l) (ap pos (omega arith))
    on g (inr l) = rw (le-ltb g a l) (ap pos (omega arith))
largest_is (negsuc a ∷ xs) e = absurd (true≢false (sym e))

-- what holding back comes to, in plain states
abbrev held_plain : (ℕ → Seg) → (ℕ → Seg) → (ℕ → List ℕ) → (ℕ → ℕ → Bool) → ℕ → ℕ → Bool
held_plain s z noted holds n t = seg_is_free (z n) && cond (seg_is_free (s n)) (holds n t && not (is_none (active (z t)))) (is_at (active (z t)) (greatest (noted n)))

pub words : (b c : Books) (noted : ℕ → List ℤ) (holds : ℕ → ℕ → Bool) → ((n : ℕ) → every non_neg (noted n) ≡ true) → ((n : ℕ) → Positive (state_of c n)) → (n t : ℕ) → holds_after (Some b) (Some c) noted holds n t ≡ held_plain (seg_of b.segments) (seg_of c.segments) (λ m. plain (noted m)) holds n t
words b c noted holds ns ps n t = λ i. free_is (state_of c n) i && cond (free_is (state_of b n) i) (holds n t && any_is (state_of c t) i) ((ap (λ l. is_active_at l (state_of c t)) (largest_is (noted n) (ns n)) ∙ at_is (state_of c t) (greatest (plain (noted n))) (ps t)) i)

-- ---- over a call that hands nothing out
module _ (noted : ℕ → List ℕ) (s : ℕ → Seg) (h : Holders) (z : ℕ → Seg) (g : Holders) (m : Moved noted s h z g)
    (free : (n t : ℕ) → g n ≡ Some t → seg_is_free (z n) ≡ true) (by : (n t : ℕ) → g n ≡ Some t → active (z t) ≡ Some (greatest (noted n)))
    (holds : ℕ → ℕ → Bool) (link : (n t : ℕ) → holds n t ≡ is_at (h n) t) where
  up : (n t : ℕ) (f : Bool) → seg_is_free (s n) ≡ f → seg_is_free (z n) ≡ true → cond f (holds n t && not (is_none (active (z t)))) (is_at (active (z t)) (greatest (noted n))) ≡ true → g n ≡ Some t
  up n t true f fz e =
      let p : _ = and_parts (holds n t) (not (is_none (active (z t)))) e in
      m.stays_held n t (the (active (z t))) f (at_true (h n) t (sym (link n t) ∙ p.0)) (some_is (active (z t)) p.1)
  up n t false f fz e = m.new_held n t f fz (at_true (active (z t)) (greatest (noted n)) e)

  down : (n t : ℕ) (f : Bool) → seg_is_free (s n) ≡ f → g n ≡ Some t → cond f (holds n t && not (is_none (active (z t)))) (is_at (active (z t)) (greatest (noted n))) ≡ true
  down n t true f e = and_from (holds n t) (not (is_none (active (z t)))) (link n t ∙ at_from (h n) t (m.was_held n t f e)) (ap (λ (o : Option ℕ). not (is_none o)) (by n t e))
  down n t false f e = at_from (active (z t)) (greatest (noted n)) (by n t e)

  pub moved_link : (n t : ℕ) → held_plain s z noted holds n t ≡ is_at (g n) t
  moved_link n t = bool_iff _ (is_at (g n) t)
      (λ e. let p : _ = and_parts (seg_is_free (z n)) (cond (seg_is_free (s n)) (holds n t && not (is_none (active (z t)))) (is_at (active (z t)) (greatest (noted n)))) e in
      at_from (g n) t (up n t (seg_is_free (s n)) refl p.0 p.1))
      (λ e. let k : g n ≡ Some t = at_true (g n) t e in
      and_from (seg_is_free (z n)) _ (free n t k) (down n t (seg_is_free (s n)) refl k))

-- ---- and over one that does
pub next_link : (s : ℕ → Seg) (h : Holders) (n l : ℕ) (noted : ℕ → List ℕ) (holds : ℕ → ℕ → Bool) → seg_is_free (s n) ≡ true → is_none (h n) ≡ true → ((m t : ℕ) → h m ≡ Some t → seg_is_free (s m) ≡ true) → ((m t : ℕ) → h m ≡ Some t → active (s t) ≡ Some (greatest (noted m))) → ((m t : ℕ) → holds m t ≡ is_at (h m) t)
    → (m t : ℕ) → held_plain s (upd s n (Active l 0)) (upd noted n []) holds m t ≡ is_at (h m) t
next_link s h n l noted holds fr un free by link m t =
    let a : _ = link m t in let b : _ = free m t in let c : _ = by m t in let d : _ = at_true (h m) t in let e : _ = at_from (h m) t in
    grind arith
