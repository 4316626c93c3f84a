-- The recount in plain numbers follows the calls; what a replacement tells place by place is what the sums by segment tell.
use Rattle.std.proofs.Common.{◌≡◌, ℕ, ◌+◌, ◌/◌, ◌<◌, ◌≤◌, max, Bool, true, false, cond, ◌&&◌, eqb, ltb, ◌⊎◌, List, [], ◌∷◌, ℤ, pos, ◌-ℤ◌, nat_abs, Some, None, Option, sym, refl, ap, ◌∙◌, subst, inl, inr, arith}
use mathlib.Core.Path.{fun_ext}
use lib.Signed.{non_neg}
use Rattle.std.specs.List.{ContainsAt as Has}
use Rattle.std.proofs.lemmas.Int.{ints}
use Rattle.std.proofs.lemmas.Bool.{cases_eq, cases_lt, eq-eqb, ne_eqb, and_parts, and_from, ltb-true, lt-ltb, le-ltb}
use Rattle.table.specs.Rows.{every}
use Rattle.segment.specs.Pointers.{lid_of, blob_of}
use Rattle.segment.specs.Signs.{same_z}
use Rattle.segment.specs.declared.cache_info.CacheInfo.{CacheInfo}
use Rattle.rules.specs.Books.{Books}
use Rattle.rules.specs.Links.{info_segment}
use Rattle.rules.specs.Replacing.{same_blob, add_size, sums_onto, sums_of}
use Rattle.rules.specs.Recount.{Recount, recount, upd, told_bytes, told_blob, told_olds}
use Rattle.rules.specs.Recount as real
use Rattle.safety.proofs.Plain.{Seg, upd2, greatest, mem, Count, count, told_next, told_link, told_away, counted, plain, above}
use Rattle.safety.proofs.Views.{View, Holders, Inv}
use Rattle.safety.proofs.Moves.{Moved}
use Rattle.safety.proofs.Steps.{Plus}
use Rattle.safety.proofs.Visits.{past, rising, keys, told_aways, less_sums}
use Rattle.safety.proofs.Deacts.{has_later}

upd_ap : {A B : Type 0} (f : A → B) (g : ℕ → A) (n : ℕ) (v : A) → (λ m. f (upd g n v m)) ≡ upd (λ m. f (g m)) n (f v)
upd_ap f g n v = fun_ext (λ m. on m (eqb m n))
  where
    on : (m : ℕ) (t : Bool) → f (cond t v (g m)) ≡ cond t (f v) (f (g m))
    on m true = refl
    on m false = refl

pub upd_upd2 : {A : Type 0} (f : ℕ → ℕ → A) (n p : ℕ) (v : A) → upd f n (upd (f n) p v) ≡ upd2 f n p v
upd_upd2 f n p v = fun_ext (λ m. fun_ext (λ q. on m q (cases_eq m n)))
  where
    on : (m q : ℕ) → (m ≡ n) ⊎ (m ≡ n → ⊥) → upd f n (upd (f n) p v) m q ≡ upd2 f n p v m q
    on m q (inl e) = rw (eq-eqb m n e) (ap (λ k. cond (eqb q p) v (f k q)) (sym e))
    on m q (inr e) = rw (ne_eqb m n e) refl

pub counted_next : (n l : ℕ) (r : Recount) → counted (real.told_next n (pos l) r) ≡ told_next (counted r) l n
counted_next n l r = λ i. count (upd_ap nat_abs r.lsn n (pos l) i) (upd r.lies n (λ p. false)) (upd_ap plain r.noted n [] i) (above r.stored)

pub counted_bytes : (n p size : ℕ) (r : Recount) → counted (told_bytes n p size r) ≡ told_link (counted r) n p
counted_bytes n p size r = λ i. count (λ m. nat_abs (r.lsn m)) (upd_upd2 r.lies n p true i) (λ m. plain (r.noted m)) (above r.stored)

eqb_flip : (a c : ℕ) → eqb a c ≡ eqb c a
eqb_flip a c = on (cases_eq a c)
  where
    on : (a ≡ c) ⊎ (a ≡ c → ⊥) → eqb a c ≡ eqb c a
    on (inl e) = eq-eqb a c e ∙ sym (eq-eqb c a (sym e))
    on (inr e) = ne_eqb a c e ∙ sym (ne_eqb c a (λ z. e (sym z)))

and_flip : (a c : Bool) → (a && c) ≡ (c && a)
and_flip true true = refl
and_flip true false = refl
and_flip false true = refl
and_flip false false = refl

stays : (z : ℤ) (k : ℕ) (t : Bool) → Plus z → (t && same_z z (pos k)) ≡ (eqb k (nat_abs z) && t)
stays z k t p = ap (λ y. t && same_z y (pos k)) p ∙ ap (λ s. t && s) (eqb_flip (nat_abs z) k) ∙ and_flip t (eqb k (nat_abs z))

pub counted_away : (n p k size : ℕ) (r : Recount) → Plus (r.lsn n) → counted (real.told_away n p (pos k) size r) ≡ told_away (counted r) n p k
counted_away n p k size r pl = λ i. count (λ m. nat_abs (r.lsn m)) ((upd_upd2 r.lies n p (r.lies n p && same_z (r.lsn n) (pos k)) ∙ ap (upd2 r.lies n p) (stays (r.lsn n) k (r.lies n p) pl)) i) (upd_ap plain r.noted n (pos k ∷ r.noted n) i) (above r.stored)

-- ---- the old places of a replacement
abbrev pub pairs_of : ℕ → List CacheInfo → List (ℕ × ℕ)
pairs_of size [] = []
pairs_of size (old ∷ olds) = (lid_of old.pointer / size, old.log_size) ∷ pairs_of size olds

-- what giving up a blob leaves as it is
pub record SameTold (r s : Recount) : Type 0 where
  pub size : s.size ≡ r.size
  pub lsn : s.lsn ≡ r.lsn
  pub live : s.live ≡ r.live
  pub lies : s.lies ≡ r.lies
  pub noted : s.noted ≡ r.noted
  pub stored : s.stored ≡ r.stored

same_told : (r : Recount) → SameTold r r
same_told r = record { size = refl; lsn = refl; live = refl; lies = refl; noted = refl; stored = refl }

blob_same : (kept : Option ℤ) (base : ℤ) (o : Option ℤ) (r : Recount) → SameTold r (told_blob kept base o r)
blob_same kept base None r = same_told r
blob_same kept base (Some blob) r = on (same_blob kept blob)
  where
    on : (t : Bool) → SameTold r (cond t r (recount r.size r.lsn r.live r.lies r.noted r.stored ((blob, base) ∷ r.given)))
    on true = same_told r
    on false = record { size = refl; lsn = refl; live = refl; lies = refl; noted = refl; stored = refl }

counted_same : (r s : Recount) → SameTold r s → counted s ≡ counted r
counted_same r s e = λ i. count (λ n. nat_abs (e.lsn i n)) (e.lies i) (λ n. plain (e.noted i n)) (above (e.stored i))

module _ (p k : ℕ) (kept : Option ℤ) where
  pub record OldsTold (olds : List CacheInfo) (r s : Recount) : Type 0 where
    pub size : s.size ≡ r.size
    pub lsn : s.lsn ≡ r.lsn
    pub stored : s.stored ≡ r.stored
    pub live : s.live ≡ less_sums (pairs_of r.size olds) r.live
    pub count : counted s ≡ told_aways p k (keys (pairs_of r.size olds)) (counted r)
    pub signs : ((n : ℕ) → every non_neg (r.noted n) ≡ true) → (n : ℕ) → every non_neg (s.noted n) ≡ true
    pub more : (x : ℤ × ℤ) → Has r.given x → Has s.given x

  noted_signs : (noted : ℕ → List ℤ) (n : ℕ) → ((m : ℕ) → every non_neg (noted m) ≡ true) → (m : ℕ) → every non_neg (upd noted n (pos k ∷ noted n) m) ≡ true
  noted_signs noted n s m = on (eqb m n)
    where
      on : (t : Bool) → every non_neg (cond t (pos k ∷ noted n) (noted m)) ≡ true
      on true = s n
      on false = s m

  blob_more : (base : ℤ) (o : Option ℤ) (r : Recount) (x : ℤ × ℤ) → Has r.given x → Has (told_blob kept base o r).given x
  blob_more base None r x h = h
  blob_more base (Some blob) r x h = on (same_blob kept blob)
    where
      on : (t : Bool) → Has (cond t r (recount r.size r.lsn r.live r.lies r.noted r.stored ((blob, base) ∷ r.given))).given x
      on true = h
      on false = has_later (blob, base) r.given x h

  pub olds_told : (olds : List CacheInfo) (r : Recount) → ((n : ℕ) → Plus (r.lsn n)) → OldsTold olds r (told_olds p (pos k) kept olds r)
  olds_told [] r ps = record { size = refl; lsn = refl; stored = refl; live = refl; count = refl; signs = λ s. s; more = λ x h. h }
  olds_told (old ∷ olds) r ps =
      let n : ℕ = lid_of old.pointer / r.size in
      let a : Recount = real.told_away n p (pos k) old.log_size r in
      let c : Recount = told_blob kept (pos k) (blob_of old.pointer) a in
      let e : SameTold a c = blob_same kept (pos k) (blob_of old.pointer) a in
      let ih : OldsTold olds c (told_olds p (pos k) kept olds c) = olds_told olds c (λ m. subst (λ (f : ℕ → ℤ). Plus (f m)) (sym e.lsn) (ps m)) in
      record {
        size = ih.size ∙ e.size;
        lsn = ih.lsn ∙ e.lsn;
        stored = ih.stored ∙ e.stored;
        live = ih.live ∙ (λ i. less_sums (pairs_of (e.size i) olds) (e.live i));
        count = ih.count ∙ (λ i. told_aways p k (keys (pairs_of (e.size i) olds)) ((counted_same a c e ∙ counted_away n p k old.log_size r (ps n)) i));
        signs = λ s. ih.signs (λ m. subst (λ (f : ℕ → List ℤ). every non_neg (f m) ≡ true) (sym e.noted) (noted_signs r.noted n s m));
        more = λ x h. ih.more x (blob_more (pos k) (blob_of old.pointer) a x h);
      }

-- ---- the same members tell the same
lies_step : (lies : ℕ → ℕ → Bool) (lsn : ℕ → ℕ) (n p base m q : ℕ) (t : Bool) → cond t (cond (eqb q p) (eqb base (lsn m) && upd2 lies n p (eqb base (lsn n) && lies n p) m q) (upd2 lies n p (eqb base (lsn n) && lies n p) m q)) (upd2 lies n p (eqb base (lsn n) && lies n p) m q) ≡ cond (cond (eqb m n) true t) (cond (eqb q p) (eqb base (lsn m) && lies m q) (lies m q)) (lies m q)
lies_step lies lsn n p base m q t = grind arith

aways_lies : (p base : ℕ) (ns : List ℕ) (c : Count) (m q : ℕ) → (told_aways p base ns c).lies m q ≡ cond (mem m ns) (cond (eqb q p) (eqb base (c.lsn m) && c.lies m q) (c.lies m q)) (c.lies m q)
aways_lies p base [] c m q = refl
aways_lies p base (n ∷ ns) c m q = aways_lies p base ns (told_away c n p base) m q ∙ lies_step c.lies c.lsn n p base m q (mem m ns)

mem_step : (noted : ℕ → List ℕ) (n base m k : ℕ) (t : Bool) → cond t (cond (eqb k base) true (mem k (upd noted n (base ∷ noted n) m))) (mem k (upd noted n (base ∷ noted n) m)) ≡ cond (cond (eqb m n) true t) (cond (eqb k base) true (mem k (noted m))) (mem k (noted m))
mem_step noted n base m k t = grind arith

aways_mem : (p base : ℕ) (ns : List ℕ) (c : Count) (m k : ℕ) → mem k ((told_aways p base ns c).noted m) ≡ cond (mem m ns) (cond (eqb k base) true (mem k (c.noted m))) (mem k (c.noted m))
aways_mem p base [] c m k = refl
aways_mem p base (n ∷ ns) c m k = aways_mem p base ns (told_away c n p base) m k ∙ mem_step c.noted n base m k (mem m ns)

max_twice : (base g : ℕ) → max base (max base g) ≡ max base g
max_twice base g = omega arith

greatest_step : (noted : ℕ → List ℕ) (n base m : ℕ) (t : Bool) → (m ≡ n) ⊎ (m ≡ n → ⊥) → cond t (max base (greatest (upd noted n (base ∷ noted n) m))) (greatest (upd noted n (base ∷ noted n) m)) ≡ cond (cond (eqb m n) true t) (max base (greatest (noted m))) (greatest (noted m))
greatest_step noted n base m true (inl e) = rw (eq-eqb m n e) (max_twice base (greatest (noted n)) ∙ ap (λ k. max base (greatest (noted k))) (sym e))
greatest_step noted n base m false (inl e) = rw (eq-eqb m n e) (ap (λ k. max base (greatest (noted k))) (sym e))
greatest_step noted n base m true (inr e) = rw (ne_eqb m n e) refl
greatest_step noted n base m false (inr e) = rw (ne_eqb m n e) refl

aways_greatest : (p base : ℕ) (ns : List ℕ) (c : Count) (m : ℕ) → greatest ((told_aways p base ns c).noted m) ≡ cond (mem m ns) (max base (greatest (c.noted m))) (greatest (c.noted m))
aways_greatest p base [] c m = refl
aways_greatest p base (n ∷ ns) c m = aways_greatest p base ns (told_away c n p base) m ∙ greatest_step c.noted n base m (mem m ns) (cases_eq m n)

aways_lsn : (p base : ℕ) (ns : List ℕ) (c : Count) → (told_aways p base ns c).lsn ≡ c.lsn
aways_lsn p base [] c = refl
aways_lsn p base (n ∷ ns) c = aways_lsn p base ns (told_away c n p base)

aways_stored : (p base : ℕ) (ns : List ℕ) (c : Count) → (told_aways p base ns c).stored ≡ c.stored
aways_stored p base [] c = refl
aways_stored p base (n ∷ ns) c = aways_stored p base ns (told_away c n p base)

pub record Agree (c d : Count) : Type 0 where
  pub lsn : d.lsn ≡ c.lsn
  pub lies : (m q : ℕ) → d.lies m q ≡ c.lies m q
  pub has : (m k : ℕ) → mem k (d.noted m) ≡ mem k (c.noted m)
  pub top : (m : ℕ) → greatest (d.noted m) ≡ greatest (c.noted m)
  pub stored : d.stored ≡ c.stored

pub aways_agree : (p base : ℕ) (ns ms : List ℕ) (c : Count) → ((m : ℕ) → mem m ms ≡ mem m ns) → Agree (told_aways p base ns c) (told_aways p base ms c)
aways_agree p base ns ms c e = record {
  lsn = aways_lsn p base ms c ∙ sym (aways_lsn p base ns c);
  lies = λ m q. aways_lies p base ms c m q ∙ ap (λ t. cond t (cond (eqb q p) (eqb base (c.lsn m) && c.lies m q) (c.lies m q)) (c.lies m q)) (e m) ∙ sym (aways_lies p base ns c m q);
  has = λ m k. aways_mem p base ms c m k ∙ ap (λ t. cond t (cond (eqb k base) true (mem k (c.noted m))) (mem k (c.noted m))) (e m) ∙ sym (aways_mem p base ns c m k);
  top = λ m. aways_greatest p base ms c m ∙ ap (λ t. cond t (max base (greatest (c.noted m))) (greatest (c.noted m))) (e m) ∙ sym (aways_greatest p base ns c m);
  stored = aways_stored p base ms c ∙ sym (aways_stored p base ns c);
}

pub inv_agree : (v : View) (c d : Count) (h : Holders) → Agree c d → Inv v c h → Inv v d h
inv_agree v c d h a i = record {
  exact = i.exact;
  todo_free = i.todo_free;
  todo_low = i.todo_low;
  todo_held = i.todo_held;
  past = i.past;
  past_held = i.past_held;
  ord_seg = i.ord_seg;
  seg_ord = i.seg_ord;
  free_ord = i.free_ord;
  shut_low = i.shut_low;
  held_free = i.held_free;
  held_by = λ n t e. i.held_by n t e ∙ ap Some (sym (a.top n));
  held_ord = i.held_ord;
  held_keep = i.held_keep;
  keep_ord = i.keep_ord;
  keep_held = i.keep_held;
  rows = λ n p. a.lies n p ∙ i.rows n p;
  empty = i.empty;
  bare = i.bare;
  newest = λ n e. i.newest n e ∙ sym (a.top n);
  noted = λ n k e f. i.noted n k (sym (a.has n k) ∙ e) f;
  safe = λ n k e f g. i.safe n k e f (sym (a.has n k) ∙ g);
  same_lsn = λ n e. i.same_lsn n e ∙ ap (λ (f : ℕ → ℕ). Some (f n)) (sym a.lsn);
  same_stored = a.stored ∙ i.same_stored;
}

pub moved_agree : (noted more : ℕ → List ℕ) (s : ℕ → Seg) (h : Holders) (z : ℕ → Seg) (g : Holders) → ((n : ℕ) → greatest (more n) ≡ greatest (noted n)) → Moved noted s h z g → Moved more s h z g
moved_agree noted more s h z g eq m = record {
  stays_free = m.stays_free;
  was_active = m.was_active;
  was_held = m.was_held;
  stays_held = m.stays_held;
  new_held = λ n t e f a. m.new_held n t e f (a ∙ ap Some (eq n));
}

-- ---- sums by segment
abbrev total : ℕ → List (ℕ × ℕ) → ℕ
total m [] = 0
total m (s ∷ ss) = cond (eqb m s.0) s.1 0 + total m ss

less_total : (sums : List (ℕ × ℕ)) (live : ℕ → ℤ) (m : ℕ) → less_sums sums live m ≡ live m -ℤ pos (total m sums)
less_total [] live m = zero_less (live m)
  where
    zero_less : (z : ℤ) → z ≡ z -ℤ pos 0
    zero_less z = omega (arith, ints)
less_total (s ∷ ss) live m = less_total ss (upd live s.0 (live s.0 -ℤ pos s.1)) m ∙ on (cases_eq m s.0)
  where
    twice : (z : ℤ) (x y : ℕ) → z -ℤ pos x -ℤ pos y ≡ z -ℤ pos (x + y)
    twice z x y = omega (arith, ints)

    on : (m ≡ s.0) ⊎ (m ≡ s.0 → ⊥) → upd live s.0 (live s.0 -ℤ pos s.1) m -ℤ pos (total m ss) ≡ live m -ℤ pos (cond (eqb m s.0) s.1 0 + total m ss)
    on (inl e) = rw (eq-eqb m s.0 e) (twice (live s.0) s.1 (total m ss) ∙ ap (λ k. live k -ℤ pos (s.1 + total m ss)) (sym e))
    on (inr e) = rw (ne_eqb m s.0 e) (ap (λ k. live m -ℤ pos k) (omega arith))

three : {A : Type 0} (P : A → Type 0) (n k : ℕ) (x y z : A) → (k < n → P x) → (n < k → P y) → (n ≡ k → P z) → P (cond (ltb k n) x (cond (ltb n k) y z))
three P n k x y z f g h = elim (cases_lt k n) [ inl l ↦ rw (lt-ltb k n l) (f l) | inr l ↦ rw (le-ltb k n l) (elim (cases_lt n k) [ inl j ↦ rw (lt-ltb n k j) (g j) | inr j ↦ rw (le-ltb n k j) (h (omega arith)) ]) ]

add_total : (n size : ℕ) (sums : List (ℕ × ℕ)) (m : ℕ) → total m (add_size n size sums) ≡ cond (eqb m n) size 0 + total m sums
add_total n size [] m = refl
add_total n size (s ∷ ss) m = three (λ l. total m l ≡ cond (eqb m n) size 0 + (cond (eqb m s.0) s.1 0 + total m ss)) n s.0 (s ∷ add_size n size ss) ((n, size) ∷ (s ∷ ss)) ((n, s.1 + size) ∷ ss)
    (λ l. omega (arith, add_total n size ss m)) (λ l. refl) (λ e. subst (λ k. cond (eqb m n) (s.1 + size) 0 + total m ss ≡ cond (eqb m n) size 0 + (cond (eqb m k) s.1 0 + total m ss)) e (on (eqb m n)))
  where
    on : (t : Bool) → cond t (s.1 + size) 0 + total m ss ≡ cond t size 0 + (cond t s.1 0 + total m ss)
    on true = omega arith
    on false = omega arith

onto_total : (b : Books) (olds : List CacheInfo) (sums : List (ℕ × ℕ)) (m : ℕ) → total m (sums_onto b olds sums) ≡ total m sums + total m (pairs_of b.size olds)
onto_total b [] sums m = omega arith
onto_total b (old ∷ olds) sums m = onto_total b olds (add_size (info_segment b old) old.log_size sums) m ∙ omega (arith, add_total (info_segment b old) old.log_size sums m)

pub same_live : (b : Books) (olds : List CacheInfo) (live : ℕ → ℤ) (m : ℕ) → less_sums (pairs_of b.size olds) live m ≡ less_sums (sums_of b olds) live m
same_live b olds live m = less_total (pairs_of b.size olds) live m ∙ ap (λ k. live m -ℤ pos k) (omega (arith, onto_total b olds [] m)) ∙ sym (less_total (sums_of b olds) live m)

mem_three : (m n k : ℕ) (ks : List ℕ) (t : Bool) → t ≡ cond (eqb m n) true (mem m ks) → cond (eqb m k) true t ≡ cond (eqb m n) true (cond (eqb m k) true (mem m ks))
mem_three m n k ks t e = grind arith

add_mem : (n size : ℕ) (sums : List (ℕ × ℕ)) (m : ℕ) → mem m (keys (add_size n size sums)) ≡ cond (eqb m n) true (mem m (keys sums))
add_mem n size [] m = refl
add_mem n size (s ∷ ss) m = three (λ l. mem m (keys l) ≡ cond (eqb m n) true (cond (eqb m s.0) true (mem m (keys ss)))) n s.0 (s ∷ add_size n size ss) ((n, size) ∷ (s ∷ ss)) ((n, s.1 + size) ∷ ss)
    (λ l. mem_three m n s.0 (keys ss) (mem m (keys (add_size n size ss))) (add_mem n size ss m)) (λ l. refl) (λ e. subst (λ k. cond (eqb m n) true (mem m (keys ss)) ≡ cond (eqb m n) true (cond (eqb m k) true (mem m (keys ss)))) e (on (eqb m n)))
  where
    on : (t : Bool) → cond t true (mem m (keys ss)) ≡ cond t true (cond t true (mem m (keys ss)))
    on true = refl
    on false = refl

onto_mem : (b : Books) (olds : List CacheInfo) (sums : List (ℕ × ℕ)) (m : ℕ) → mem m (keys (sums_onto b olds sums)) ≡ cond (mem m (keys sums)) true (mem m (keys (pairs_of b.size olds)))
onto_mem b [] sums m = on (mem m (keys sums))
  where
    on : (t : Bool) → t ≡ cond t true false
    on true = refl
    on false = refl
onto_mem b (old ∷ olds) sums m = onto_mem b olds (add_size (info_segment b old) old.log_size sums) m ∙ ap (λ t. cond t true (mem m (keys (pairs_of b.size olds)))) (add_mem (info_segment b old) old.log_size sums m) ∙ on (eqb m (info_segment b old)) (mem m (keys sums)) (mem m (keys (pairs_of b.size olds)))
  where
    on : (s t u : Bool) → cond (cond s true t) true u ≡ cond t true (cond s true u)
    on true true u = refl
    on true false u = refl
    on false true u = refl
    on false false u = refl

pub same_mem : (b : Books) (olds : List CacheInfo) (m : ℕ) → mem m (keys (pairs_of b.size olds)) ≡ mem m (keys (sums_of b olds))
same_mem b olds m = sym (onto_mem b olds [] m)

add_past : (k n size : ℕ) (sums : List (ℕ × ℕ)) → k < n → past k sums ≡ true → past k (add_size n size sums) ≡ true
add_past k n size [] l e = and_from (ltb k n) true (lt-ltb k n l) refl
add_past k n size (s ∷ ss) l e =
    let q : _ = and_parts (ltb k s.0) (past k ss) e in
    three (λ x. past k x ≡ true) n s.0 (s ∷ add_size n size ss) ((n, size) ∷ (s ∷ ss)) ((n, s.1 + size) ∷ ss)
    (λ j. and_from (ltb k s.0) (past k (add_size n size ss)) q.0 (add_past k n size ss l q.1)) (λ j. and_from (ltb k n) (past k (s ∷ ss)) (lt-ltb k n l) e) (λ j. and_from (ltb k n) (past k ss) (lt-ltb k n l) q.1)

past_mono : (k n : ℕ) (sums : List (ℕ × ℕ)) → k ≤ n → past n sums ≡ true → past k sums ≡ true
past_mono k n [] l e = refl
past_mono k n (s ∷ ss) l e =
    let q : _ = and_parts (ltb n s.0) (past n ss) e in
    let j : n < s.0 = ltb-true n s.0 q.0 in
    and_from (ltb k s.0) (past k ss) (lt-ltb k s.0 (omega arith)) (past_mono k n ss l q.1)

add_rising : (n size : ℕ) (sums : List (ℕ × ℕ)) → rising sums ≡ true → rising (add_size n size sums) ≡ true
add_rising n size [] e = refl
add_rising n size (s ∷ ss) e =
    let q : _ = and_parts (past s.0 ss) (rising ss) e in
    three (λ x. rising x ≡ true) n s.0 (s ∷ add_size n size ss) ((n, size) ∷ (s ∷ ss)) ((n, s.1 + size) ∷ ss)
    (λ l. and_from (past s.0 (add_size n size ss)) (rising (add_size n size ss)) (add_past s.0 n size ss l q.0) (add_rising n size ss q.1))
    (λ l. and_from (past n (s ∷ ss)) (rising (s ∷ ss)) (and_from (ltb n s.0) (past n ss) (lt-ltb n s.0 l) (past_mono n s.0 ss (omega arith) q.0)) e)
    (λ j. and_from (past n ss) (rising ss) (subst (λ k. past k ss ≡ true) (sym j) q.0) q.1)

onto_rising : (b : Books) (olds : List CacheInfo) (sums : List (ℕ × ℕ)) → rising sums ≡ true → rising (sums_onto b olds sums) ≡ true
onto_rising b [] sums e = e
onto_rising b (old ∷ olds) sums e = onto_rising b olds (add_size (info_segment b old) old.log_size sums) (add_rising (info_segment b old) old.log_size sums e)

pub sums_rising : (b : Books) (olds : List CacheInfo) → rising (sums_of b olds) ≡ true
sums_rising b olds = onto_rising b olds [] refl
