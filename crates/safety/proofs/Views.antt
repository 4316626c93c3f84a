-- The books as functions, and what always holds of them: kept by every small step. `todo` are the Free segments that start has still to list.
use Rattle.std.proofs.Common.{◌≡◌, ℕ, ◌+◌, ◌<◌, ◌≤◌, max, Bool, true, false, not, ◌&&◌, eqb, ltb, ◌⊎◌, List, [], ◌∷◌, Some, None, Option, sym, refl, ap, ◌∙◌, subst, inl, inr, arith}
use Rattle.std.proofs.lemmas.Bool.{cases_lt}
use Rattle.rules.specs.Recount.{upd}
use Rattle.safety.proofs.Plain.{Seg, Free, Active, Shut, seg_is_free, active, lsn_of, latest, is_none, the, here, upd2, greatest, mem, Count, told_next, told_link, told_away, told_stored}

pub record View : Type 0 where
  pub tip : ℕ
  pub seg : ℕ → Seg
  pub on : ℕ → Bool
  pub ord : ℕ → Option ℕ
  pub row : ℕ → ℕ → Option Bool
  pub keep : ℕ → ℕ → Bool
  pub stable : ℕ
  pub todo : ℕ → Bool

abbrev pub view : ℕ → (ℕ → Seg) → (ℕ → Bool) → (ℕ → Option ℕ) → (ℕ → ℕ → Option Bool) → (ℕ → ℕ → Bool) → ℕ → (ℕ → Bool) → View
view tip seg on ord row keep stable todo = record { todo = todo; tip = tip; seg = seg; on = on; ord = ord; row = row; keep = keep; stable = stable }

abbrev pub Holders : Type 0
Holders = ℕ → Option ℕ

pub record Inv (v : View) (r : Count) (h : Holders) : Type 0 where
  pub exact : (n : ℕ) → v.on n ≡ (ltb n v.tip && (seg_is_free (v.seg n) && (is_none (h n) && not (v.todo n))))
  pub todo_free : (n : ℕ) → v.todo n ≡ true → seg_is_free (v.seg n) ≡ true
  pub todo_low : (n : ℕ) → v.todo n ≡ true → n < v.tip
  pub todo_held : (n : ℕ) → v.todo n ≡ true → is_none (h n) ≡ true
  pub past : (n : ℕ) → v.tip ≤ n → seg_is_free (v.seg n) ≡ true
  pub past_held : (n : ℕ) → v.tip ≤ n → is_none (h n) ≡ true
  pub ord_seg : (l n : ℕ) → v.ord l ≡ Some n → lsn_of (v.seg n) ≡ Some l
  pub seg_ord : (n : ℕ) → seg_is_free (v.seg n) ≡ false → v.ord (the (lsn_of (v.seg n))) ≡ Some n
  pub free_ord : (l n : ℕ) → v.ord l ≡ Some n → seg_is_free (v.seg n) ≡ true → is_none (h n) ≡ false
  pub shut_low : (l n : ℕ) → v.ord l ≡ Some n → is_none (active (v.seg n)) ≡ true → l < v.stable
  pub held_free : (n t : ℕ) → h n ≡ Some t → seg_is_free (v.seg n) ≡ true
  pub held_by : (n t : ℕ) → h n ≡ Some t → active (v.seg t) ≡ Some (greatest (r.noted n))
  pub held_ord : (n t : ℕ) → h n ≡ Some t → v.ord (the (lsn_of (v.seg n))) ≡ Some n
  pub held_keep : (n t : ℕ) → h n ≡ Some t → v.keep t (the (lsn_of (v.seg n))) ≡ true
  pub keep_ord : (t l : ℕ) → v.keep t l ≡ true → v.ord l ≡ Some (the (v.ord l))
  pub keep_held : (t l : ℕ) → v.keep t l ≡ true → h (the (v.ord l)) ≡ Some t
  pub rows : (n p : ℕ) → r.lies n p ≡ here (v.row n p)
  pub empty : (n p : ℕ) → seg_is_free (v.seg n) ≡ true → here (v.row n p) ≡ false
  pub bare : (n p : ℕ) → seg_is_free (v.seg n) ≡ true → is_none (h n) ≡ true → v.row n p ≡ None
  pub newest : (n : ℕ) → seg_is_free (v.seg n) ≡ false → latest (v.seg n) ≡ greatest (r.noted n)
  pub noted : (n k : ℕ) → mem k (r.noted n) ≡ true → v.stable ≤ k → active (v.seg (the (v.ord k))) ≡ Some k
  pub safe : (n k : ℕ) → seg_is_free (v.seg n) ≡ true → is_none (h n) ≡ true → mem k (r.noted n) ≡ true → k < v.stable
  pub same_lsn : (n : ℕ) → seg_is_free (v.seg n) ≡ false → lsn_of (v.seg n) ≡ Some (r.lsn n)
  pub same_stored : r.stored ≡ v.stable

mem_upd : (noted : ℕ → List ℕ) (n m k : ℕ) → mem k (upd noted n [] m) ≡ true → mem k (noted m) ≡ true
mem_upd noted n m k e = grind arith

next_noted : (seg : ℕ → Seg) (ord : ℕ → Option ℕ) (l n k t : ℕ) → the (ord k) ≡ t → seg_is_free (seg n) ≡ true → active (seg t) ≡ Some k → active (upd seg n (Active l 0) (the (upd ord l (Some n) k))) ≡ Some k
next_noted seg ord l n k t e f g = grind arith

none_from : (o : Option ℕ) → ((t : ℕ) → o ≡ Some t → ⊥) → is_none o ≡ true
none_from None f = refl
none_from (Some t) f = absurd (f t refl)

away_noted : (ord : ℕ → Option ℕ) (seg : ℕ → Seg) (noted : ℕ → List ℕ) (n m k base t : ℕ) → mem k (upd noted n (base ∷ noted n) m) ≡ true → ord base ≡ Some t → active (seg t) ≡ Some base → (mem k (noted m) ≡ true → active (seg (the (ord k))) ≡ Some k) → active (seg (the (ord k))) ≡ Some k
away_noted ord seg noted n m k base t e ob at old = grind arith

below_by : (k s : ℕ) → (s ≤ k → ⊥) → k < s
below_by k s f = elim (cases_lt k s) [ inl l ↦ l | inr l ↦ absurd (f l) ]

below : (v : View) (n : ℕ) → (v.tip ≤ n → ⊥) → n < v.tip
below v n f = below_by n v.tip f

shut_upd : (seg : ℕ → Seg) (n m k s : ℕ) (z : Seg) → is_none (active (seg n)) ≡ true → (is_none (active (seg m)) ≡ true → k < s) → is_none (active (upd seg n z m)) ≡ true → k < s
shut_upd seg n m k s z a f e = grind arith

cut_ord : (ord : ℕ → Option ℕ) (l k m : ℕ) → upd ord l None k ≡ Some m → ord k ≡ Some m
cut_ord ord l k m e = grind arith

pub active_ord : (v : View) (r : Count) (h : Holders) → Inv v r h → (t k : ℕ) → active (v.seg t) ≡ Some k → v.ord k ≡ Some t
active_ord v r h i t k a =
    let c : seg_is_free (v.seg t) ≡ false = grind arith in
    let d : lsn_of (v.seg t) ≡ Some k = grind arith in
    rw d at (i.seg_ord t c)

upd_none : (h : Holders) (n t w : ℕ) (s : ℕ → Seg) → seg_is_free (s n) ≡ false → seg_is_free (s w) ≡ true → is_none (h w) ≡ true → is_none (upd h n (Some t) w) ≡ true
upd_none h n t w s a b c = grind arith

upd_free : (s : ℕ → Seg) (n w : ℕ) (o : Option ℕ) → seg_is_free (s w) ≡ true → seg_is_free (upd s n (Free o) w) ≡ true
upd_free s n w o a = grind arith

hold_kept : (seg : ℕ → Seg) (keep : ℕ → ℕ → Bool) (h : Holders) (n l t m u : ℕ) → upd h n (Some t) m ≡ Some u → (h m ≡ Some u → keep u (the (lsn_of (seg m))) ≡ true) → upd2 keep t l true u (the (lsn_of (upd seg n (Free (Some l)) m))) ≡ true
hold_kept seg keep h n l t m u e a = grind arith

-- ---- next: segment n is handed out
abbrev pub v_next : View → ℕ → ℕ → ℕ → View
v_next v tip l n = view tip (upd v.seg n (Active l 0)) (upd v.on n false) (upd v.ord l (Some n)) v.row v.keep v.stable v.todo

pub next_listed : (v : View) (r : Count) (h : Holders) (l n : ℕ) → Inv v r h → v.on n ≡ true → v.ord l ≡ None → Inv (v_next v v.tip l n) (told_next r l n) h
next_listed v r h l n i on new =
    let ex : _ = i.exact n in
    let fr : seg_is_free (v.seg n) ≡ true = grind arith in
    record {
      exact = λ m. let e : _ = i.exact m in grind arith;
      todo_free = λ w e. let q : _ = i.todo_free w e in grind arith;
      todo_low = λ w e. let q : _ = i.todo_low w in grind arith;
      todo_held = λ w e. let q : _ = i.todo_held w e in let p : _ = i.todo_free w e in grind arith;
      past = λ m g. let e : _ = i.past m in grind arith;
      past_held = λ m g. let e : _ = i.past_held m in grind arith;
      ord_seg = λ k m e. let a : _ = i.ord_seg k m in let b : _ = i.free_ord k m in grind arith;
      seg_ord = λ m e. let a : _ = i.seg_ord m in grind arith;
      free_ord = λ k m e f. let a : _ = i.free_ord k m in grind arith;
      shut_low = λ k m e f. let a : _ = i.shut_low k m in grind arith;
      held_free = λ m t e. let a : _ = i.held_free m t in grind arith;
      held_by = λ m t e. let a : _ = i.held_by m t in let b : _ = i.held_free m t in grind arith;
      held_ord = λ m t e. let a : _ = i.held_ord m t in let b : _ = i.held_free m t in grind arith;
      held_keep = λ m t e. let a : _ = i.held_keep m t in grind arith;
      keep_ord = λ t k e. let a : _ = i.keep_ord t k in grind arith;
      keep_held = λ t k e. let a : _ = i.keep_held t k in let b : _ = i.keep_ord t k in grind arith;
      rows = λ m p. let a : _ = i.rows m p in let b : _ = i.bare m p in grind arith;
      empty = λ m p e. let a : _ = i.empty m p in grind arith;
      bare = λ m p e f. let a : _ = i.bare m p in grind arith;
      newest = λ m e. let a : _ = i.newest m in grind arith;
      noted = λ m k e f. next_noted v.seg v.ord l n k (the (v.ord k)) refl fr (i.noted m k (mem_upd r.noted n m k e) f);
      safe = λ m k e f g. let a : _ = i.safe m k in grind arith;
      same_lsn = λ m e. let a : _ = i.same_lsn m in grind arith;
      same_stored = i.same_stored;
    }

pub next_tip : (v : View) (r : Count) (h : Holders) (l : ℕ) → Inv v r h → v.ord l ≡ None → Inv (v_next v (v.tip + 1) l v.tip) (told_next r l v.tip) h
next_tip v r h l i new =
    let n : ℕ = v.tip in
    let fr : seg_is_free (v.seg v.tip) ≡ true = i.past v.tip (omega arith) in
    let nh : is_none (h v.tip) ≡ true = i.past_held v.tip (omega arith) in
    let no_ord : (k : ℕ) → v.ord k ≡ Some v.tip → ⊥ = λ k e. let a : is_none (h v.tip) ≡ false = i.free_ord k v.tip e fr in let b : ◌≡◌ {A = ℕ} 0 1 = cc in omega arith in
    let un : (t : ℕ) → h v.tip ≡ Some t → ⊥ = λ t e. no_ord _ (i.held_ord v.tip t e) in
    record {
      exact = λ m. let e : _ = i.exact m in grind arith;
      todo_free = λ w e. let q : _ = i.todo_free w e in let b : _ = i.todo_low w e in grind arith;
      todo_low = λ w e. let q : w < v.tip = i.todo_low w e in omega arith;
      todo_held = λ w e. let q : _ = i.todo_held w e in let p : _ = i.todo_free w e in grind arith;
      past = λ m g. let e : _ = i.past m in grind arith;
      past_held = λ m g. let e : _ = i.past_held m in grind arith;
      ord_seg = λ k m e. let a : _ = i.ord_seg k m in let b : _ = no_ord k in grind arith;
      seg_ord = λ m e. let a : _ = i.seg_ord m in grind arith;
      free_ord = λ k m e f. let a : _ = i.free_ord k m in grind arith;
      shut_low = λ k m e f. let a : _ = i.shut_low k m in grind arith;
      held_free = λ m t e. let a : _ = i.held_free m t in let b : _ = un t in grind arith;
      held_by = λ m t e. let a : _ = i.held_by m t in let b : _ = un t in grind arith;
      held_ord = λ m t e. let a : _ = i.held_ord m t in let b : _ = un t in grind arith;
      held_keep = λ m t e. let a : _ = i.held_keep m t in let b : _ = un t in grind arith;
      keep_ord = λ t k e. let a : _ = i.keep_ord t k in grind arith;
      keep_held = λ t k e. let a : _ = i.keep_held t k in let b : _ = i.keep_ord t k in grind arith;
      rows = λ m p. let a : _ = i.rows m p in let b : _ = i.bare m p in grind arith;
      empty = λ m p e. let a : _ = i.empty m p in grind arith;
      bare = λ m p e f. let a : _ = i.bare m p in grind arith;
      newest = λ m e. let a : _ = i.newest m in grind arith;
      noted = λ m k e f. next_noted v.seg v.ord l v.tip k (the (v.ord k)) refl fr (i.noted m k (mem_upd r.noted v.tip m k e) f);
      safe = λ m k e f g. let a : _ = i.safe m k in grind arith;
      same_lsn = λ m e. let a : _ = i.same_lsn m in grind arith;
      same_stored = i.same_stored;
    }

-- ---- link: page p gets a row in the Active segment n
abbrev pub v_link : View → ℕ → ℕ → View
v_link v n p = view v.tip v.seg v.on v.ord (upd2 v.row n p (Some false)) v.keep v.stable v.todo

pub link_keeps : (v : View) (r : Count) (h : Holders) (n p : ℕ) → Inv v r h → seg_is_free (v.seg n) ≡ false → Inv (v_link v n p) (told_link r n p) h
link_keeps v r h n p i nf = record {
  exact = i.exact;
  todo_free = i.todo_free;
  todo_low = λ w e. let q : _ = i.todo_low w in grind arith;
  todo_held = λ w e. let q : _ = i.todo_held w e in grind arith;
  past = i.past;
  past_held = i.past_held;
  ord_seg = i.ord_seg;
  seg_ord = i.seg_ord;
  free_ord = i.free_ord;
  shut_low = i.shut_low;
  held_free = i.held_free;
  held_by = i.held_by;
  held_ord = i.held_ord;
  held_keep = i.held_keep;
  keep_ord = i.keep_ord;
  keep_held = i.keep_held;
  rows = λ m q. let a : _ = i.rows m q in grind arith;
  empty = λ m q e. let a : _ = i.empty m q in grind arith;
  bare = λ m q e f. let a : _ = i.bare m q in grind arith;
  newest = i.newest;
  noted = i.noted;
  safe = i.safe;
  same_lsn = i.same_lsn;
  same_stored = i.same_stored;
}

-- ---- taking page p away from segment n, whose state becomes s; t is the Active segment whose LSN is the base
abbrev pub v_away : View → ℕ → ℕ → Seg → Bool → View
v_away v n p s gone = view v.tip (upd v.seg n s) v.on v.ord (upd2 v.row n p (Some gone)) v.keep v.stable v.todo

pub record Alike (s z : Seg) (base : ℕ) : Type 0 where
  pub s_free : seg_is_free s ≡ false
  pub z_free : seg_is_free z ≡ false
  pub lsn : lsn_of z ≡ lsn_of s
  pub act : active z ≡ active s
  pub more : latest z ≡ max base (latest s)

pub away_keeps : (v : View) (r : Count) (h : Holders) (n p base t : ℕ) (z : Seg) → Inv v r h → Alike (v.seg n) z base → v.ord base ≡ Some t → active (v.seg t) ≡ Some base → v.row n p ≡ Some false → Inv (v_away v n p z (not (eqb base (r.lsn n)))) (told_away r n p base) h
away_keeps v r h n p base t z i a ob at lie =
    let act : (m : ℕ) → active (upd v.seg n z m) ≡ active (v.seg m) = λ m. let b : _ = a.act in grind arith in
    let lsn : (m : ℕ) → lsn_of (upd v.seg n z m) ≡ lsn_of (v.seg m) = λ m. let b : _ = a.lsn in grind arith in
    let fre : (m : ℕ) → seg_is_free (upd v.seg n z m) ≡ seg_is_free (v.seg m) = λ m. let b : _ = a.s_free in let c : _ = a.z_free in grind arith in
    let unheld : (u : ℕ) → h n ≡ Some u → ⊥ = λ u e. let b : _ = i.held_free n u e in let c : _ = a.s_free in let d : ◌≡◌ {A = ℕ} 0 1 = cc in omega arith in
    record {
      exact = λ m. let b : _ = i.exact m in let c : _ = fre m in cc;
      todo_free = λ w e. let q : _ = i.todo_free w e in grind arith;
      todo_low = λ w e. let q : _ = i.todo_low w in grind arith;
      todo_held = λ w e. let q : _ = i.todo_held w e in let p : _ = i.todo_free w e in grind arith;
      past = λ m g. fre m ∙ i.past m g;
      past_held = i.past_held;
      ord_seg = λ k m e. lsn m ∙ i.ord_seg k m e;
      seg_ord = λ m e. rw (lsn m) (i.seg_ord m (sym (fre m) ∙ e));
      free_ord = λ k m e f. i.free_ord k m e (sym (fre m) ∙ f);
      shut_low = λ k m e f. i.shut_low k m e (sym (ap is_none (act m)) ∙ f);
      held_free = λ m u e. fre m ∙ i.held_free m u e;
      held_by = λ m u e. let b : _ = i.held_by m u e in let c : _ = act u in let d : _ = unheld u in grind arith;
      held_ord = λ m u e. rw (lsn m) (i.held_ord m u e);
      held_keep = λ m u e. rw (lsn m) (i.held_keep m u e);
      keep_ord = i.keep_ord;
      keep_held = i.keep_held;
      rows = λ m q. let b : _ = i.rows m q in let c : _ = i.rows n p in grind arith;
      empty = λ m q e. let b : _ = i.empty m q (sym (fre m) ∙ e) in let c : _ = a.z_free in grind arith;
      bare = λ m q e f. let b : _ = i.bare m q (sym (fre m) ∙ e) f in let c : _ = a.z_free in grind arith;
      newest = λ m e. let b : _ = i.newest m (sym (fre m) ∙ e) in let c : _ = a.more in grind arith;
      noted = λ m k e f. act (the (v.ord k)) ∙ away_noted v.ord v.seg r.noted n m k base t e ob at (λ g. i.noted m k g f);
      safe = λ m k e f g. let b : _ = i.safe m k (sym (fre m) ∙ e) f in let c : _ = a.z_free in grind arith;
      same_lsn = λ m e. lsn m ∙ i.same_lsn m (sym (fre m) ∙ e);
      same_stored = i.same_stored;
    }

-- ---- the largest base
pub mem_largest : (k : ℕ) (xs : List ℕ) → mem k xs ≡ true → k ≤ greatest xs
mem_largest k [] e = absurd (let z : ◌≡◌ {A = ℕ} 0 1 = cc in omega arith)
mem_largest k (x ∷ xs) e = let a : _ = mem_largest k xs in grind arith

pub largest_mem : (k : ℕ) (xs : List ℕ) → mem k xs ≡ true → mem (greatest xs) xs ≡ true
largest_mem k [] e = e
largest_mem k (x ∷ []) e = let a : max x 0 ≡ x = omega arith in grind arith
largest_mem k (x ∷ (y ∷ ys)) e =
    let a : mem (greatest (y ∷ ys)) (y ∷ ys) ≡ true = largest_mem y (y ∷ ys) (mem_first y ys) in
    on (greatest (y ∷ ys)) (mem_cases x (greatest (y ∷ ys))) a
  where
    mem_first : (z : ℕ) (zs : List ℕ) → mem z (z ∷ zs) ≡ true
    mem_first z zs = grind arith

    mem_cases : (a b : ℕ) → (max a b ≡ a) ⊎ (max a b ≡ b)
    mem_cases a b = elim (cases_lt a b) [ inl l ↦ inr (omega arith) | inr l ↦ inl (omega arith) ]

    on : (g : ℕ) → (max x g ≡ x) ⊎ (max x g ≡ g) → mem g (y ∷ ys) ≡ true → mem (max x g) (x ∷ (y ∷ ys)) ≡ true
    on g (inl a) h = subst (λ z. mem z (x ∷ (y ∷ ys)) ≡ true) (sym a) (mem_first x (y ∷ ys))
    on g (inr a) h = subst (λ z. mem z (x ∷ (y ∷ ys)) ≡ true) (sym a) (later_mem (y ∷ ys) g h)
      where
        later_mem : (zs : List ℕ) (c : ℕ) → mem c zs ≡ true → mem c (x ∷ zs) ≡ true
        later_mem zs c h = grind arith

-- ---- a Draining segment without a lying page is held back by t
abbrev pub v_hold : View → ℕ → ℕ → ℕ → View
v_hold v n l t = view v.tip (upd v.seg n (Free (Some l))) v.on v.ord v.row (upd2 v.keep t l true) v.stable v.todo

pub hold_keeps : (v : View) (r : Count) (h : Holders) (n l t : ℕ) → Inv v r h → seg_is_free (v.seg n) ≡ false → active (v.seg n) ≡ None → lsn_of (v.seg n) ≡ Some l → ((p : ℕ) → here (v.row n p) ≡ false) → active (v.seg t) ≡ Some (latest (v.seg n)) → Inv (v_hold v n l t) r (upd h n (Some t))
hold_keeps v r h n l t i nf na ln gone at =
    let new : latest (v.seg n) ≡ greatest (r.noted n) = i.newest n nf in
    let on : v.ord l ≡ Some n = rw ln at (i.seg_ord n nf) in
    let oth : (k : ℕ) → v.ord k ≡ Some n → k ≡ l = λ k e. let a : _ = i.ord_seg k n e in cc in
    let nk : (u : ℕ) → v.keep u l ≡ true → ⊥ = λ u e. let a : h (the (v.ord l)) ≡ Some u = i.keep_held u l e in let b : h n ≡ Some u = cc in let c : _ = i.held_free n u b in let d : ◌≡◌ {A = ℕ} 0 1 = cc in omega arith in
    let nh : (u : ℕ) → h n ≡ Some u → ⊥ = λ u e. let b : _ = i.held_free n u e in let d : ◌≡◌ {A = ℕ} 0 1 = cc in omega arith in
    record {
      exact = λ m. let e : _ = i.exact m in let q : _ = i.todo_free m in grind arith;
      todo_free = λ w e. upd_free v.seg n w (Some l) (i.todo_free w e);
      todo_low = i.todo_low;
      todo_held = λ w e. upd_none h n t w v.seg nf (i.todo_free w e) (i.todo_held w e);
      past = λ m g. let e : _ = i.past m g in grind arith;
      past_held = λ m g. let e : _ = i.past_held m g in let d : _ = i.past m g in grind arith;
      ord_seg = λ k m e. let a : _ = i.ord_seg k m e in let b : _ = oth k in grind arith;
      seg_ord = λ m e. let a : _ = i.seg_ord m in grind arith;
      free_ord = λ k m e f. let a : _ = i.free_ord k m e in grind arith;
      shut_low = λ k m e f. let a : _ = i.shut_low k m e in let b : is_none (active (v.seg n)) ≡ true = ap is_none na in shut_upd v.seg n m k v.stable (Free (Some l)) b a f;
      held_free = λ m u e. let a : _ = i.held_free m u in grind arith;
      held_by = λ m u e. let a : _ = i.held_by m u in grind arith;
      held_ord = λ m u e. let a : _ = i.held_ord m u in grind arith;
      held_keep = λ m u e. hold_kept v.seg v.keep h n l t m u e (i.held_keep m u);
      keep_ord = λ u k e. let a : _ = i.keep_ord u k in grind arith;
      keep_held = λ u k e. let a : _ = i.keep_held u k in let b : _ = i.keep_ord u k in let c : _ = nk u in let d : _ = i.ord_seg k n in grind arith;
      rows = i.rows;
      empty = λ m q e. let a : _ = i.empty m q in let b : _ = gone q in grind arith;
      bare = λ m q e f. let a : _ = i.bare m q in grind arith;
      newest = λ m e. let a : _ = i.newest m in grind arith;
      noted = λ m k e f. let a : _ = i.noted m k e f in grind arith;
      safe = λ m k e f g. let a : _ = i.safe m k in grind arith;
      same_lsn = λ m e. let a : _ = i.same_lsn m in grind arith;
      same_stored = i.same_stored;
    }

-- ---- segment n, off the ordering and on the free list
abbrev pub v_free : View → ℕ → ℕ → View
v_free v n l = view v.tip (upd v.seg n (Free (Some l))) (upd v.on n true) (upd v.ord l None) (upd v.row n (λ q. None)) v.keep v.stable v.todo

pub free_keeps : (v : View) (r : Count) (h : Holders) (n l : ℕ) → Inv v r h → seg_is_free (v.seg n) ≡ false → active (v.seg n) ≡ None → lsn_of (v.seg n) ≡ Some l → ((p : ℕ) → here (v.row n p) ≡ false) → ((t : ℕ) → v.ord (latest (v.seg n)) ≡ Some t → active (v.seg t) ≡ Some (latest (v.seg n)) → ⊥) → Inv (v_free v n l) r h
free_keeps v r h n l i nf na ln gone none =
    let new : latest (v.seg n) ≡ greatest (r.noted n) = i.newest n nf in
    let on : v.ord l ≡ Some n = rw ln at (i.seg_ord n nf) in
    let low : n < v.tip = below v n (λ g. let a : seg_is_free (v.seg n) ≡ true = i.past n g in let b : ◌≡◌ {A = ℕ} 0 1 = cc in omega arith) in
    let oth : (k : ℕ) → v.ord k ≡ Some n → k ≡ l = λ k e. let a : _ = i.ord_seg k n e in cc in
    let oth2 : (m : ℕ) → v.ord l ≡ Some m → m ≡ n = λ m e. cc in
    let nk : (u : ℕ) → v.keep u l ≡ true → ⊥ = λ u e. let a : h (the (v.ord l)) ≡ Some u = i.keep_held u l e in let b : h n ≡ Some u = cc in let c : _ = i.held_free n u b in let d : ◌≡◌ {A = ℕ} 0 1 = cc in omega arith in
    let nh : (u : ℕ) → h n ≡ Some u → ⊥ = λ u e. let b : _ = i.held_free n u e in let d : ◌≡◌ {A = ℕ} 0 1 = cc in omega arith in
    let hn : is_none (h n) ≡ true = none_from (h n) nh in
    let small : (k : ℕ) → mem k (r.noted n) ≡ true → k < v.stable = λ k e. below_by k v.stable (λ g.
    let top : mem (greatest (r.noted n)) (r.noted n) ≡ true = largest_mem k (r.noted n) e in
    let up : k ≤ greatest (r.noted n) = mem_largest k (r.noted n) e in
    let a : active (v.seg (the (v.ord (greatest (r.noted n))))) ≡ Some (greatest (r.noted n)) = i.noted n (greatest (r.noted n)) top (omega arith) in
    let b : v.ord (greatest (r.noted n)) ≡ Some (the (v.ord (greatest (r.noted n)))) = active_ord v r h i (the (v.ord (greatest (r.noted n)))) (greatest (r.noted n)) a in
    none (the (v.ord (greatest (r.noted n)))) (ap v.ord new ∙ b) (a ∙ ap Some (sym new))) in
    record {
      exact = λ m. let e : _ = i.exact m in grind arith;
      todo_free = λ w e. upd_free v.seg n w (Some l) (i.todo_free w e);
      todo_low = i.todo_low;
      todo_held = λ w e. let q : _ = i.todo_held w e in let p : _ = i.todo_free w e in grind arith;
      past = λ m g. let e : _ = i.past m g in grind arith;
      past_held = λ m g. let e : _ = i.past_held m g in let d : _ = i.past m g in grind arith;
      ord_seg = λ k m e. let a : _ = i.ord_seg k m in let b : _ = oth k in grind arith;
      seg_ord = λ m e. let a : _ = i.seg_ord m in let b : _ = oth2 m in grind arith;
      free_ord = λ k m e f. let a : _ = i.free_ord k m in let b : _ = oth k in grind arith;
      shut_low = λ k m e f. let b : is_none (active (v.seg n)) ≡ true = ap is_none na in shut_upd v.seg n m k v.stable (Free (Some l)) b (i.shut_low k m (cut_ord v.ord l k m e)) f;
      held_free = λ m u e. let a : _ = i.held_free m u in grind arith;
      held_by = λ m u e. let a : _ = i.held_by m u in grind arith;
      held_ord = λ m u e. let a : _ = i.held_ord m u e in let b : _ = nh u in let c : _ = oth2 m in grind arith;
      held_keep = λ m u e. let a : _ = i.held_keep m u in let b : _ = nh u in grind arith;
      keep_ord = λ u k e. let a : _ = i.keep_ord u k in let b : _ = nk u in grind arith;
      keep_held = λ u k e. let a : _ = i.keep_held u k in let b : _ = nk u in grind arith;
      rows = λ m q. let a : _ = i.rows m q in let b : _ = gone q in grind arith;
      empty = λ m q e. let a : _ = i.empty m q in grind arith;
      bare = λ m q e f. let a : _ = i.bare m q in grind arith;
      newest = λ m e. let a : _ = i.newest m in grind arith;
      noted = λ m k e f. let a : _ = i.noted m k e f in grind arith;
      safe = λ m k e f g. let a : _ = i.safe m k in let b : _ = small k in grind arith;
      same_lsn = λ m e. let a : _ = i.same_lsn m in grind arith;
      same_stored = i.same_stored;
    }

-- ---- what t holds back at LSN l is freed
abbrev pub v_release : View → ℕ → ℕ → View
v_release v t l = view v.tip v.seg (upd v.on (the (v.ord l)) true) (upd v.ord l None) (upd v.row (the (v.ord l)) (λ q. None)) (upd2 v.keep t l false) v.stable v.todo

still_kept : (keep : ℕ → ℕ → Bool) (t l u k : ℕ) → upd2 keep t l false u k ≡ true → keep u k ≡ true
still_kept keep t l u k e = grind arith

other_kept : (keep : ℕ → ℕ → Bool) (t l u k : ℕ) → upd2 keep t l false u k ≡ true → (k ≡ l → u ≡ t) → k ≡ l → ⊥
other_kept keep t l u k e f z = let g : u ≡ t = f z in grind arith

release_kept : (ord : ℕ → Option ℕ) (h : Holders) (l n u k : ℕ) → (k ≡ l → ⊥) → ord k ≡ Some (the (ord k)) → h (the (ord k)) ≡ Some u → (ord k ≡ Some n → k ≡ l) → upd h n None (the (upd ord l None k)) ≡ Some u
release_kept ord h l n u k ne o e f = grind arith

pub release_keeps : (v : View) (r : Count) (h : Holders) (t l x : ℕ) → Inv v r h → v.keep t l ≡ true → active (v.seg t) ≡ Some x → x < v.stable → Inv (v_release v t l) r (upd h (the (v.ord l)) None)
release_keeps v r h t l x i kept at low = go (the (v.ord l)) refl
  where
    go : (n : ℕ) → the (v.ord l) ≡ n → Inv (view v.tip v.seg (upd v.on n true) (upd v.ord l None) (upd v.row n (λ q. None)) (upd2 v.keep t l false) v.stable v.todo) r (upd h n None)
    go n en =
        let on : v.ord l ≡ Some n = i.keep_ord t l kept ∙ ap Some en in
        let hn : h n ≡ Some t = ap h (sym en) ∙ i.keep_held t l kept in
        let fr : seg_is_free (v.seg n) ≡ true = i.held_free n t hn in
        let ln : lsn_of (v.seg n) ≡ Some l = i.ord_seg l n on in
        let big : active (v.seg t) ≡ Some (greatest (r.noted n)) = i.held_by n t hn in
        let top : greatest (r.noted n) ≡ x = cc in
        let under : n < v.tip = below v n (λ g. let a : is_none (h n) ≡ true = i.past_held n g in let b : ◌≡◌ {A = ℕ} 0 1 = cc in omega arith) in
        let oth : (k : ℕ) → v.ord k ≡ Some n → k ≡ l = λ k e. let a : _ = i.ord_seg k n e in cc in
        let oth2 : (m : ℕ) → v.ord l ≡ Some m → m ≡ n = λ m e. cc in
        let nk : (u : ℕ) → v.keep u l ≡ true → u ≡ t = λ u e. let a : h (the (v.ord l)) ≡ Some u = i.keep_held u l e in cc in
        record {
          exact = λ m. let e : _ = i.exact m in grind arith;
          todo_free = i.todo_free;
          todo_low = λ w e. let q : _ = i.todo_low w in grind arith;
          todo_held = λ w e. let q : _ = i.todo_held w e in grind arith;
          past = i.past;
          past_held = λ m g. let e : _ = i.past_held m g in grind arith;
          ord_seg = λ k m e. let a : _ = i.ord_seg k m in grind arith;
          seg_ord = λ m e. let a : _ = i.seg_ord m e in let b : _ = oth2 m in grind arith;
          free_ord = λ k m e f. let a : _ = i.free_ord k m in let b : _ = oth k in grind arith;
          shut_low = λ k m e f. i.shut_low k m (cut_ord v.ord l k m e) f;
          held_free = λ m u e. let a : _ = i.held_free m u in grind arith;
          held_by = λ m u e. let a : _ = i.held_by m u in grind arith;
          held_ord = λ m u e. let a : _ = i.held_ord m u in let c : _ = oth2 m in grind arith;
          held_keep = λ m u e. let a : _ = i.held_keep m u in let b : _ = i.held_ord m u in let c : _ = oth2 m in grind arith;
          keep_ord = λ u k e. let a : _ = i.keep_ord u k in let b : _ = nk u in grind arith;
          keep_held = λ u k e. let a : v.keep u k ≡ true = still_kept v.keep t l u k e in release_kept v.ord h l n u k (other_kept v.keep t l u k e (λ z. nk u (subst (λ c. v.keep u c ≡ true) z a))) (i.keep_ord u k a) (i.keep_held u k a) (oth k);
          rows = λ m q. let a : _ = i.rows m q in let b : _ = i.empty m q in grind arith;
          empty = λ m q e. let a : _ = i.empty m q in grind arith;
          bare = λ m q e f. let a : _ = i.bare m q in grind arith;
          newest = i.newest;
          noted = λ m k e f. let a : _ = i.noted m k e f in grind arith;
          safe = λ m k e f g. let a : _ = i.safe m k in let b : _ = mem_largest k (r.noted n) in grind arith;
          same_lsn = i.same_lsn;
          same_stored = i.same_stored;
        }

-- ---- t, which holds nothing back, is Active no longer
abbrev pub v_close : View → ℕ → Seg → View
v_close v t z = view v.tip (upd v.seg t z) v.on v.ord v.row v.keep v.stable v.todo

pub close_keeps : (v : View) (r : Count) (h : Holders) (t l m : ℕ) → Inv v r h → v.seg t ≡ Active l m → ((k : ℕ) → v.keep t k ≡ false) → l < v.stable → Inv (v_close v t (Shut l m)) r h
close_keeps v r h t l m i st nk low = record {
  exact = λ n. let e : _ = i.exact n in grind arith;
  todo_free = λ w e. let q : _ = i.todo_free w e in grind arith;
  todo_low = λ w e. let q : _ = i.todo_low w in grind arith;
  todo_held = λ w e. let q : _ = i.todo_held w e in let p : _ = i.todo_free w e in grind arith;
  past = λ n g. let e : _ = i.past n g in grind arith;
  past_held = i.past_held;
  ord_seg = λ k n e. let c : _ = i.ord_seg k n e in grind arith;
  seg_ord = λ n e. let c : _ = i.seg_ord n in grind arith;
  free_ord = λ k n e f. let c : _ = i.free_ord k n e in grind arith;
  shut_low = λ k n e f. let a : _ = i.shut_low k n e in let c : _ = i.ord_seg k n e in grind arith;
  held_free = λ n u e. let c : _ = i.held_free n u e in grind arith;
  held_by = λ n u e. let c : _ = i.held_by n u e in let d : _ = i.held_keep n u e in let g : _ = nk (the (lsn_of (v.seg n))) in grind arith;
  held_ord = λ n u e. let c : _ = i.held_ord n u e in let d : _ = i.held_free n u e in grind arith;
  held_keep = λ n u e. let c : _ = i.held_keep n u e in let d : _ = i.held_free n u e in grind arith;
  keep_ord = i.keep_ord;
  keep_held = i.keep_held;
  rows = i.rows;
  empty = λ n q e. let c : _ = i.empty n q in grind arith;
  bare = λ n q e f. let c : _ = i.bare n q in grind arith;
  newest = λ n e. let c : _ = i.newest n in grind arith;
  noted = λ n k e f. let c : _ = i.noted n k e f in grind arith;
  safe = λ n k e f g. let c : _ = i.safe n k in grind arith;
  same_lsn = λ n e. let c : _ = i.same_lsn n in grind arith;
  same_stored = i.same_stored;
}

-- ---- L is stored
abbrev pub v_store : View → ℕ → View
v_store v s = view v.tip v.seg v.on v.ord v.row v.keep s v.todo

pub store_keeps : (v : View) (r : Count) (h : Holders) (s : ℕ) → Inv v r h → v.stable ≤ s → Inv (v_store v s) (told_stored r s) h
store_keeps v r h s i up = record {
  exact = i.exact;
  todo_free = i.todo_free;
  todo_low = λ w e. let q : _ = i.todo_low w in grind arith;
  todo_held = λ w e. let q : _ = i.todo_held w e in grind arith;
  past = i.past;
  past_held = i.past_held;
  ord_seg = i.ord_seg;
  seg_ord = i.seg_ord;
  free_ord = i.free_ord;
  shut_low = λ k n e f. let a : k < v.stable = i.shut_low k n e f in omega arith;
  held_free = i.held_free;
  held_by = i.held_by;
  held_ord = i.held_ord;
  held_keep = i.held_keep;
  keep_ord = i.keep_ord;
  keep_held = i.keep_held;
  rows = i.rows;
  empty = i.empty;
  bare = i.bare;
  newest = i.newest;
  noted = λ n k e f. i.noted n k e (omega arith);
  safe = λ n k e f g. let a : k < v.stable = i.safe n k e f g in omega arith;
  same_lsn = i.same_lsn;
  same_stored = refl;
}

-- ---- a state that differs in kind and counts only
pub record Same (s z : Seg) : Type 0 where
  pub s_free : seg_is_free s ≡ false
  pub z_free : seg_is_free z ≡ false
  pub lsn : lsn_of z ≡ lsn_of s
  pub act : active z ≡ active s
  pub last : latest z ≡ latest s

pub same_keeps : (v : View) (r : Count) (h : Holders) (n : ℕ) (z : Seg) → Inv v r h → Same (v.seg n) z → Inv (v_close v n z) r h
same_keeps v r h n z i a =
    let act : (m : ℕ) → active (upd v.seg n z m) ≡ active (v.seg m) = λ m. let b : _ = a.act in grind arith in
    let lsn : (m : ℕ) → lsn_of (upd v.seg n z m) ≡ lsn_of (v.seg m) = λ m. let b : _ = a.lsn in grind arith in
    let fre : (m : ℕ) → seg_is_free (upd v.seg n z m) ≡ seg_is_free (v.seg m) = λ m. let b : _ = a.s_free in let c : _ = a.z_free in grind arith in
    let las : (m : ℕ) → latest (upd v.seg n z m) ≡ latest (v.seg m) = λ m. let b : _ = a.last in grind arith in
    record {
      exact = λ m. let b : _ = i.exact m in let c : _ = fre m in cc;
      todo_free = λ w e. let q : _ = i.todo_free w e in grind arith;
      todo_low = λ w e. let q : _ = i.todo_low w in grind arith;
      todo_held = λ w e. let q : _ = i.todo_held w e in let p : _ = i.todo_free w e in grind arith;
      past = λ m g. fre m ∙ i.past m g;
      past_held = i.past_held;
      ord_seg = λ k m e. lsn m ∙ i.ord_seg k m e;
      seg_ord = λ m e. rw (lsn m) (i.seg_ord m (sym (fre m) ∙ e));
      free_ord = λ k m e f. i.free_ord k m e (sym (fre m) ∙ f);
      shut_low = λ k m e f. i.shut_low k m e (sym (ap is_none (act m)) ∙ f);
      held_free = λ m u e. fre m ∙ i.held_free m u e;
      held_by = λ m u e. act u ∙ i.held_by m u e;
      held_ord = λ m u e. rw (lsn m) (i.held_ord m u e);
      held_keep = λ m u e. rw (lsn m) (i.held_keep m u e);
      keep_ord = i.keep_ord;
      keep_held = i.keep_held;
      rows = i.rows;
      empty = λ m q e. i.empty m q (sym (fre m) ∙ e);
      bare = λ m q e f. i.bare m q (sym (fre m) ∙ e) f;
      newest = λ m e. las m ∙ i.newest m (sym (fre m) ∙ e);
      noted = λ m k e f. act (the (v.ord k)) ∙ i.noted m k e f;
      safe = λ m k e f g. i.safe m k (sym (fre m) ∙ e) f g;
      same_lsn = λ m e. lsn m ∙ i.same_lsn m (sym (fre m) ∙ e);
      same_stored = i.same_stored;
    }

-- ---- the last segment below the tip leaves the list and becomes the tip
abbrev pub v_cut : View → ℕ → View
v_cut v n = view n v.seg (upd v.on n false) v.ord v.row v.keep v.stable v.todo

pub cut_keeps : (v : View) (r : Count) (h : Holders) (n : ℕ) → Inv v r h → v.tip ≡ n + 1 → v.on n ≡ true → Inv (v_cut v n) r h
cut_keeps v r h n i et on =
    let ex : _ = i.exact n in
    record {
      exact = λ m. let e : _ = i.exact m in grind arith;
      todo_free = λ w e. let q : _ = i.todo_free w e in grind arith;
      todo_low = λ w e. let q : _ = i.todo_low w in grind arith;
      todo_held = λ w e. let q : _ = i.todo_held w e in let p : _ = i.todo_free w e in grind arith;
      past = λ m g. let a : _ = i.past m in grind arith;
      past_held = λ m g. let a : _ = i.past_held m in grind arith;
      ord_seg = i.ord_seg;
      seg_ord = i.seg_ord;
      free_ord = i.free_ord;
      shut_low = i.shut_low;
      held_free = i.held_free;
      held_by = i.held_by;
      held_ord = i.held_ord;
      held_keep = i.held_keep;
      keep_ord = i.keep_ord;
      keep_held = i.keep_held;
      rows = i.rows;
      empty = i.empty;
      bare = i.bare;
      newest = i.newest;
      noted = i.noted;
      safe = i.safe;
      same_lsn = i.same_lsn;
      same_stored = i.same_stored;
    }

-- ---- start: a segment still to list is entered as Active
abbrev pub v_enter : View → ℕ → ℕ → View
v_enter v l n = view v.tip (upd v.seg n (Active l 0)) v.on (upd v.ord l (Some n)) v.row v.keep v.stable (upd v.todo n false)

pub enter_keeps : (v : View) (r : Count) (h : Holders) (l n : ℕ) → Inv v r h → v.todo n ≡ true → n < v.tip → v.ord l ≡ None → Inv (v_enter v l n) (told_next r l n) h
enter_keeps v r h l n i td under new =
    let fr : seg_is_free (v.seg n) ≡ true = i.todo_free n td in
    let nh : is_none (h n) ≡ true = i.todo_held n td in
    let off : v.on n ≡ false = let e : _ = i.exact n in grind arith in
    record {
      exact = λ m. let e : _ = i.exact m in grind arith;
      todo_free = λ m e. let a : _ = i.todo_free m in grind arith;
      todo_low = λ w e. let q : _ = i.todo_low w in grind arith;
      todo_held = λ m e. let a : _ = i.todo_held m in grind arith;
      past = λ m g. let e : _ = i.past m in grind arith;
      past_held = i.past_held;
      ord_seg = λ k m e. let a : _ = i.ord_seg k m in let b : _ = i.free_ord k m in grind arith;
      seg_ord = λ m e. let a : _ = i.seg_ord m in grind arith;
      free_ord = λ k m e f. let a : _ = i.free_ord k m in grind arith;
      shut_low = λ k m e f. let a : _ = i.shut_low k m in grind arith;
      held_free = λ m t e. let a : _ = i.held_free m t in grind arith;
      held_by = λ m t e. let a : _ = i.held_by m t in let b : _ = i.held_free m t in grind arith;
      held_ord = λ m t e. let a : _ = i.held_ord m t in let b : _ = i.held_free m t in grind arith;
      held_keep = λ m t e. let a : _ = i.held_keep m t in grind arith;
      keep_ord = λ t k e. let a : _ = i.keep_ord t k in grind arith;
      keep_held = λ t k e. let a : _ = i.keep_held t k in let b : _ = i.keep_ord t k in grind arith;
      rows = λ m p. let a : _ = i.rows m p in let b : _ = i.bare m p in grind arith;
      empty = λ m p e. let a : _ = i.empty m p in grind arith;
      bare = λ m p e f. let a : _ = i.bare m p in grind arith;
      newest = λ m e. let a : _ = i.newest m in grind arith;
      noted = λ m k e f. next_noted v.seg v.ord l n k (the (v.ord k)) refl fr (i.noted m k (mem_upd r.noted n m k e) f);
      safe = λ m k e f g. let a : _ = i.safe m k in grind arith;
      same_lsn = λ m e. let a : _ = i.same_lsn m in grind arith;
      same_stored = i.same_stored;
    }

-- ---- start: a Free segment is put on the list
abbrev pub v_list : View → ℕ → View
v_list v n = view v.tip v.seg (upd v.on n true) v.ord v.row v.keep v.stable (upd v.todo n false)

pub list_keeps : (v : View) (r : Count) (h : Holders) (n : ℕ) → Inv v r h → v.todo n ≡ true → n < v.tip → Inv (v_list v n) r h
list_keeps v r h n i td low =
    let fr : seg_is_free (v.seg n) ≡ true = i.todo_free n td in
    let nh : is_none (h n) ≡ true = i.todo_held n td in
    record {
      exact = λ m. let e : _ = i.exact m in grind arith;
      todo_free = λ m e. let a : _ = i.todo_free m in grind arith;
      todo_low = λ w e. let q : _ = i.todo_low w in grind arith;
      todo_held = λ m e. let a : _ = i.todo_held m in grind arith;
      past = i.past;
      past_held = i.past_held;
      ord_seg = i.ord_seg;
      seg_ord = i.seg_ord;
      free_ord = i.free_ord;
      shut_low = i.shut_low;
      held_free = i.held_free;
      held_by = i.held_by;
      held_ord = i.held_ord;
      held_keep = i.held_keep;
      keep_ord = i.keep_ord;
      keep_held = i.keep_held;
      rows = i.rows;
      empty = i.empty;
      bare = i.bare;
      newest = i.newest;
      noted = i.noted;
      safe = i.safe;
      same_lsn = i.same_lsn;
      same_stored = i.same_stored;
    }
