-- A fold over the entries that goes on while each begins where the one before ended: it ends at the number of rows where they are covered.
use denote.Param.Members.{Mut}
use Rattle.std.proofs.Common.{◌≡◌, ℕ, ◌+◌, ◌<◌, Bool, true, false, ◌&&◌, eqb, List, [], ◌∷◌, Some, None, Option, sym, refl, ap, ◌∙◌, subst}
use Rattle.std.specs.Fn.{Called}
use Rattle.std.specs.Iterator.{AlwaysYields, Yields}
use Rattle.std.specs.List.{FoldsTo}
use Rattle.std.specs.Option.{MatchOption, option_eq}
use Rattle.std.proofs.lemmas.Bool.{eqb-true, eq-eqb}
use Rattle.std.proofs.lemmas.Iterator.{YieldsList}
use Rattle.segment.specs.declared.snapshot.PageEntry.{PageEntry}
use Rattle.rules.specs.Starting.{covers}
use Rattle.recovery.proofs.Covering.{covers_past}

-- one step, from a place: the next place, or none where the entry begins elsewhere or ends past the rows
abbrev pub Step : ℕ → ℕ → PageEntry → Option ℕ → Type 0
Step rows at entry r = MatchOption r (entry.first ≡ at → rows < at + entry.count) (λ end. (entry.first ≡ at) × (end ≡ at + entry.count))

goes_on : (rows at end : ℕ) (entry : PageEntry) (entries : List PageEntry) → Step rows at entry (Some end) → covers end entries rows ≡ (eqb entry.first at && covers (at + entry.count) entries rows)
goes_on rows at end entry entries h =
    let e = eq-eqb entry.first at h.0 in
    ap (λ n. covers n entries rows) h.1 ∙ ap (λ b. b && covers (at + entry.count) entries rows) (sym e)

breaks : (rows at : ℕ) (entry : PageEntry) (entries : List PageEntry) → Step rows at entry None → false ≡ (eqb entry.first at && covers (at + entry.count) entries rows)
breaks rows at entry entries h = on (eqb entry.first at) refl
  where
    on : (b : Bool) → eqb entry.first at ≡ b → false ≡ (b && covers (at + entry.count) entries rows)
    on true e = sym (covers_past (at + entry.count) entries rows (h (eqb-true entry.first at e)))
    on false e = refl

-- a call that went on, and the end of all calls
module _ {A F : Type 0} (g : Mut F (ℕ × (A × Unit {0})) (Option ℕ)) where
  abbrev pub Turn : F × ℕ → A → F × ℕ → Type 0
  Turn p x q = (w : Option ℕ) × Called g p.0 (p.1, (x, tt)) w q.0 × (w ≡ Some q.1)

  abbrev pub End : Type 0 → Option ℕ → F → ℕ → Option A → Type 0
  End E r j a o = MatchOption o (r ≡ Some a) (λ x. (w : Option ℕ) × (h : F) × (e : E) × Called g j (a, (x, tt)) w h × (w ≡ None) × (r ≡ None))

module _ {S A F : Type 0} (E : Type 0) (steps : S → Option A → S → Type 0) (v : A → PageEntry) (g : Mut F (ℕ × (A × Unit {0})) (Option ℕ)) (rows : ℕ) (f : F) (r : Option ℕ) (k : (at : ℕ) (x : A) (w : Option ℕ) (q : F) → Called g f (at, (x, tt)) w q → (q ≡ f) × Step rows at (v x) w) where
  walk : (xs : List A) (entries : List PageEntry) (s t u : S) (h j : F) (at a : ℕ) (o : Option A) → h ≡ f → AlwaysYields steps v s entries → Yields steps s xs t → FoldsTo {P = F × ℕ} (Turn g) (h, at) xs (j, a) → steps t o u → End g E r j a o → option_eq eqb r (Some rows) ≡ covers at entries rows
  walk [] [] s t u h j at a None hf e y c p m = ap (λ z. option_eq eqb z (Some rows)) (m ∙ ap (λ (q : F × ℕ). Some q.1) (sym c))
  walk [] [] s t u h j at a (Some x) hf e y c p m = absurd (e x u (subst (λ z. steps z (Some x) u) (sym y) p))
  walk [] (z ∷ zs) s t u h j at a None hf e y c p m = absurd (e.0 u (subst (λ z. steps z None u) (sym y) p))
  walk [] (z ∷ zs) s t u h j at a (Some x) hf e y c p m =
      let here = (e.1 x u (subst (λ z. steps z (Some x) u) (sym y) p)).0 in
      let same : ◌≡◌ {A = F × ℕ} (j, a) (f, at) = sym c ∙ ap {B = F × ℕ} (λ i. (i, at)) hf in
      let q = subst (λ (q : F × ℕ). Called g q.0 (q.1, (x, tt)) m.0 m.1) same m.3 in
      let step = subst (λ y. Step rows at y None) here (subst (Step rows at (v x)) m.4 (k at x m.0 m.1 q).1) in
      ap (λ z. option_eq eqb z (Some rows)) m.5 ∙ breaks rows at z zs step
  walk (x ∷ xs) [] s t u h j at a o hf e y c p m = absurd (e x y.0 y.1)
  walk (x ∷ xs) (z ∷ zs) s t u h j at a o hf e y c p m =
      let there = e.1 x y.0 y.1 in
      let w = c.1 in
      let q = subst (λ i. Called g i (at, (x, tt)) w.0 c.0.0) hf w.1 in
      let n = k at x w.0 c.0.0 q in
      let step = subst (λ y. Step rows at y (Some c.0.1)) there.0 (subst (Step rows at (v x)) w.2 n.1) in
      walk xs zs y.0 t u c.0.0 j c.0.1 a o n.0 there.1 y.2 c.2 p m ∙ goes_on rows at c.0.1 z zs step

  pub covers_from_fold : {s : S} (u : S) (at : ℕ) (entries : List PageEntry) → (xs : List A) × (o : Option A) × (j : F) × (a : ℕ) × ((t : S) × Yields steps s xs t × steps t o u) × FoldsTo {P = F × ℕ} (Turn g) (f, at) xs (j, a) × End g E r j a o → YieldsList steps v s entries → option_eq eqb r (Some rows) ≡ covers at entries rows
  covers_from_fold {s = s} u at entries d e = walk d.0 entries s d.4.0 u f d.2 at d.3 d.1 refl e.runs d.4.1 d.5 d.4.2 d.6
