-- What safety looks at: a segment's kind with its LSN and its latest replacement LSN, and the recount, all in plain numbers.
use Rattle.std.proofs.Common.{ℕ, suc, max, Bool, true, false, cond, not, ◌&&◌, eqb, List, [], ◌∷◌, ℤ, pos, negsuc, nat_abs, Some, None, Option}
use Rattle.segment.specs.declared.state.State.{State}
use Rattle.segment.specs.declared.state.State.TheVariants as is
use Rattle.rules.specs.Recount.{Recount, upd}

-- Free with its former LSN, Active, or Inactive or Draining (shut), with LSN and latest replacement LSN
pub data Seg : Type 0 where
  Free : Option ℕ → Seg
  Active : ℕ → ℕ → Seg
  Shut : ℕ → ℕ → Seg

abbrev pub seg_is_free : Seg → Bool
seg_is_free (Free f) = true
seg_is_free (Active l m) = false
seg_is_free (Shut l m) = false

-- the LSN of an Active one
abbrev pub active : Seg → Option ℕ
active (Free f) = None
active (Active l m) = Some l
active (Shut l m) = None

-- the LSN, or the former one
abbrev pub lsn_of : Seg → Option ℕ
lsn_of (Free f) = f
lsn_of (Active l m) = Some l
lsn_of (Shut l m) = Some l

abbrev pub latest : Seg → ℕ
latest (Free f) = 0
latest (Active l m) = m
latest (Shut l m) = m

abbrev pub is_none : {A : Type 0} → Option A → Bool
is_none None = true
is_none (Some x) = false

abbrev pub the : Option ℕ → ℕ
the None = 0
the (Some n) = n

-- a page lies in a segment: it has a row there without the mark
abbrev pub here : Option Bool → Bool
here None = false
here (Some left) = not left

abbrev pub mapped : {X Y : Type 0} → (X → Y) → Option X → Option Y
mapped f None = None
mapped f (Some x) = Some (f x)

abbrev pub upd2 : {A : Type 0} → (ℕ → ℕ → A) → ℕ → ℕ → A → ℕ → ℕ → A
upd2 f n p v m q = cond (eqb m n) (cond (eqb q p) v (f m q)) (f m q)

abbrev pub greatest : List ℕ → ℕ
greatest [] = 0
greatest (x ∷ xs) = max x (greatest xs)

abbrev pub mem : ℕ → List ℕ → Bool
mem k [] = false
mem k (x ∷ xs) = cond (eqb k x) true (mem k xs)

-- ---- the recount in plain numbers; `stored` is one more than the greatest L stored
pub record Count : Type 0 where
  pub lsn : ℕ → ℕ
  pub lies : ℕ → ℕ → Bool
  pub noted : ℕ → List ℕ
  pub stored : ℕ

abbrev pub count : (ℕ → ℕ) → (ℕ → ℕ → Bool) → (ℕ → List ℕ) → ℕ → Count
count lsn lies noted stored = record { lsn = lsn; lies = lies; noted = noted; stored = stored }

abbrev pub told_next : Count → ℕ → ℕ → Count
told_next r l n = count (upd r.lsn n l) (upd r.lies n (λ q. false)) (upd r.noted n []) r.stored

abbrev pub told_link : Count → ℕ → ℕ → Count
told_link r n p = count r.lsn (upd2 r.lies n p true) r.noted r.stored

-- page p is replaced, with that base, in segment n
abbrev pub told_away : Count → ℕ → ℕ → ℕ → Count
told_away r n p base = count r.lsn (upd2 r.lies n p (eqb base (r.lsn n) && r.lies n p)) (upd r.noted n (base ∷ r.noted n)) r.stored

abbrev pub told_stored : Count → ℕ → Count
told_stored r s = count r.lsn r.lies r.noted s

-- ---- from the books and the recount
abbrev pub seen : State → Seg
seen (is.Free f) = Free (mapped nat_abs f.previous_lsn)
seen (is.Active a) = Active (nat_abs a.lsn) (nat_abs a.latest_replacement_lsn)
seen (is.Inactive i) = Shut (nat_abs i.lsn) (nat_abs i.latest_replacement_lsn)
seen (is.Draining d) = Shut (nat_abs d.lsn) (nat_abs d.latest_replacement_lsn)

-- one more than a stored LSN; nothing is stored at −1
abbrev pub above : ℤ → ℕ
above (pos k) = suc k
above (negsuc k) = 0

abbrev pub plain : List ℤ → List ℕ
plain [] = []
plain (x ∷ xs) = nat_abs x ∷ plain xs

abbrev pub counted : Recount → Count
counted r = count (λ n. nat_abs (r.lsn n)) r.lies (λ n. plain (r.noted n)) (above r.stored)
