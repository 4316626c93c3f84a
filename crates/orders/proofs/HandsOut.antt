-- Next and pop are made of steps.
use Rattle.std.proofs.Common.{◌≡◌, ℕ, ◌*◌, Bool, true, false, cond, ltb, leb, List, [], ◌∷◌, ℤ, nat_abs, Some, None, Ok, Err, Option, Result, sym, refl, subst}
use Rattle.segment.specs.declared.rows.FaultRow.{FaultRow}
use Rattle.segment.specs.declared.rows.PageRow.{PageRow}
use Rattle.rules.specs.declared.refusal.Refusal.{Refusal}
use Rattle.rules.specs.declared.refusal.Refusal.TheVariants as no
use Rattle.rules.specs.Books.{Books, segment_of}
use Rattle.rules.specs.Pages.{queue_of}
use Rattle.rules.specs.Links.{out_of_range}
use Rattle.rules.specs.HandingOut.{unaligned, in_use, at_tip, offered, handed_out, next_by, next_at, first_listed, popped_from, popped_at, popped}
use Rattle.orders.proofs.Steps.{Steps}

module _ {P : Books → Type 0} (k : Steps P) where
  pub next_keeps : (lsn : ℤ) (b : Books) → out_of_range lsn ≡ false → P b → P (next_at lsn b).1
  next_keeps lsn b r h = aligned (unaligned b.size lsn) refl
    where
      handed : unaligned b.size lsn ≡ false → in_use b lsn ≡ false → (free : List ℕ) → b.free ≡ free → (faults : List FaultRow) → b.faults ≡ faults → (o : Result ℕ Refusal × Books) → offered b b.free ≡ o → P (next_by lsn o).1
      handed u i free e faults f o g = subst (λ (x : Result ℕ Refusal × Books). P (next_by lsn x).1) g (on free e faults f)
        where
          least : (offset : ℕ) (rest : List ℕ) → b.free ≡ offset ∷ rest → (t : Bool) → ltb (nat_abs lsn) offset ≡ t → P (cond {A = Result ℕ Refusal × Books} t (Err no.BelowOffset, b) (Ok offset, handed_out lsn offset b)).1
          least offset rest e true q = h
          least offset rest e false q = k.hands_least lsn offset rest b r u i e q h

          tip : b.free ≡ [] → b.faults ≡ [] → (t s : Bool) → leb (256 * b.size) b.tip ≡ t → ltb (nat_abs lsn) b.tip ≡ s → P (next_by lsn (cond t (Err no.FileFull, b) (Ok b.tip, b))).1
          tip e f true s q w = h
          tip e f false true q w = rw w h
          tip e f false false q w = rw w (k.hands_tip lsn b r u i e f q w h)

          on : (free : List ℕ) → b.free ≡ free → (faults : List FaultRow) → b.faults ≡ faults → P (next_by lsn (offered b b.free)).1
          on (offset ∷ rest) e faults f = subst (λ l. P (next_by lsn (offered b l)).1) (sym e) (least offset rest e (ltb (nat_abs lsn) offset) refl)
          on [] e [] f = subst (λ l. P (next_by lsn (offered b l)).1) (sym e) (subst (λ l. P (next_by lsn (at_tip b l)).1) (sym f) (tip e f (leb (256 * b.size) b.tip) (ltb (nat_abs lsn) b.tip) refl refl))
          on [] e (row ∷ rows) f = subst (λ l. P (next_by lsn (offered b l)).1) (sym e) (subst (λ l. P (next_by lsn (at_tip b l)).1) (sym f) (k.forgets b h))

      used : unaligned b.size lsn ≡ false → (t : Bool) → in_use b lsn ≡ t → P (cond t (Err no.LsnInUse, b) (next_by lsn (offered b b.free))).1
      used u true e = h
      used u false e = handed u e b.free refl b.faults refl (offered b b.free) refl

      aligned : (t : Bool) → unaligned b.size lsn ≡ t → P (cond t (Err no.Unaligned, b) (cond (in_use b lsn) (Err no.LsnInUse, b) (next_by lsn (offered b b.free)))).1
      aligned true e = h
      aligned false e = used e (in_use b lsn) refl

  pub popped_keeps : (b : Books) → P b → P (popped b).1
  popped_keeps b h = on (first_listed b) refl
    where
      from : (offset : ℕ) → first_listed b ≡ Some offset → (rows : List PageRow) → queue_of (segment_of b offset) b.pages ≡ rows → P (popped_from offset rows b).1
      from offset e [] q = k.unlists offset b e h
      from offset e (row ∷ rows) q = k.pops offset row rows b e q h

      on : (o : Option ℕ) → first_listed b ≡ o → P (popped_at o b).1
      on None e = h
      on (Some offset) e = from offset e (queue_of (segment_of b offset) b.pages) refl
