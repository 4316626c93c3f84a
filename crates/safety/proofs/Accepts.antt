-- Link, replace and stabilize, once accepted, keep the books sound: the invariant, the signs, the live bytes and the blob rows.
use Rattle.std.proofs.Common.{◌≡◌, ℕ, zero, suc, ◌+◌, ◌-◌, ◌*◌, ◌/◌, ◌<◌, ◌≤◌, Bool, true, false, cond, not, ltb, ◌⊎◌, List, [], ◌∷◌, length, ℤ, pos, negsuc, ◌+ℤ◌, nat_abs, Some, None, Option, Ordering, Less, Equal, Greater, sym, refl, ap, ◌∙◌, subst, inl, inr, arith}
use lib.Signed.{lt_z, non_neg}
use Rattle.std.specs.List.{ContainsAt as Has}
use Rattle.std.proofs.lemmas.Bool.{cases_eq, eq-eqb, ne_eqb, eqb-true, true≢false}
use Rattle.std.proofs.lemmas.List.{get_or-set_same, get_or-set_other}
use Rattle.table.specs.Rows.{every, by, put_by, insert_row, towards}
use Rattle.host.specs.Meaning.{Answer}
use Rattle.host.specs.declared.request.Request.{Request}
use Rattle.segment.specs.Bases.{base_of}
use Rattle.segment.specs.Pointers.{lid_of, blob_of}
use Rattle.segment.specs.Rows.{blob_key, by_signed}
use Rattle.segment.specs.Signs.{same_z}
use Rattle.segment.specs.Updates.{linked}
use Rattle.segment.specs.declared.cache_info.CacheInfo.{CacheInfo}
use Rattle.segment.specs.declared.rows.BlobRow.{BlobRow}
use Rattle.segment.specs.declared.state.State.{State}
use Rattle.segment.specs.declared.state.State.TheVariants as is
use Rattle.segment.specs.declared.state.Active as active-state
use Rattle.rules.specs.declared.refusal.Refusal.{Refusal}
use Rattle.rules.specs.Books.{Books, World, world, unused, state_of, with_blobs}
use Rattle.rules.specs.Pages.{page_row, is_left, is_lying}
use Rattle.rules.specs.Links.{or_else, into_state, info_segment, link_refusal, linked_state, linked_at, link_of}
use Rattle.rules.specs.Replacing.{same_blob, blob_row, with_blob, given_up, sums_of, from_closed, from_state, olds_refusal, replace_refusal, visited, replaced}
use Rattle.rules.specs.Recount.{Recount, recount, upd, told_bytes, told_info, told_blob, told_olds, told_replace}
use Rattle.rules.specs.Runs.{Log, recorded}
use Rattle.safety.proofs.Plain.{Seg, seg_is_free, active, here, counted, told_link, seen}
use Rattle.safety.proofs.Views.{Holders, Inv}
use Rattle.safety.proofs.Looks.{seg_of, row_of, mark}
use Rattle.safety.proofs.Moves.{Moved, moved_refl}
use Rattle.safety.proofs.Steps.{Setting, view_of, Plus, Whole, clear, Good, reach}
use Rattle.safety.proofs.Frames.{Weighs}
use Rattle.safety.proofs.Deacts.{has_first, has_later, Blobs, blobs_whole}
use Rattle.safety.proofs.Takes.{linked_good}
use Rattle.safety.proofs.Visits.{lying_here, enough, Fits, FitAll, keys, told_aways, less_sums, Bytes, Opens, Visited, visited_good}
use Rattle.safety.proofs.Told.{counted_bytes, pairs_of, OldsTold, olds_told, Agree, aways_agree, inv_agree, moved_agree, same_live, same_mem, sums_rising}

abbrev pub calm : (ℤ → Bool) → Setting
calm fine = record { waiting = λ n. false; fine = fine }

pub record Sound (b : Books) (r : Recount) (h : Holders) : Type 0 where
  pub whole : Whole b
  pub inv : Inv (view_of (calm (λ z. false)) b) (counted r) h
  pub size : r.size ≡ b.size
  pub stored : r.stored ≡ b.stabilized
  pub lsn_signs : (n : ℕ) → Plus (r.lsn n)
  pub noted_signs : (n : ℕ) → every non_neg (r.noted n) ≡ true
  pub bytes : Bytes r.live b
  pub blobs : Blobs r.given b

pub record Accepted {M : Type 0} (fine : ℤ → Bool) (r : Recount) (b : Books) (h : Holders) (z : World (M × Log)) : Type 0 where
  pub now : Holders
  pub sound : Sound z.books r now
  pub moved : Moved (counted r).noted (seg_of b.segments) h (seg_of z.books.segments) now
  pub asked : every (clear fine z.books.tip) z.host.1 ≡ true

-- ---- refusals
pub first_none : (t : Bool) (e : Refusal) (rest : Option Refusal) → cond t (Some e) rest ≡ None → (t ≡ false) × (rest ≡ None)
first_none true e rest q = absurd (let z : ◌≡◌ {A = ℕ} 0 1 = cc in omega arith)
first_none false e rest q = (refl, q)

pub or_none : (x y : Option Refusal) → or_else x y ≡ None → (x ≡ None) × (y ≡ None)
or_none None y q = (refl, q)
or_none (Some e) y q = absurd (let z : ◌≡◌ {A = ℕ} 0 1 = cc in omega arith)

pub same_true : (a c : ℤ) → same_z a c ≡ true → a ≡ c
same_true (pos a) (pos c) e = ap pos (eqb-true a c e)
same_true (pos a) (negsuc c) e = absurd (true≢false (sym e))
same_true (negsuc a) (pos c) e = absurd (true≢false (sym e))
same_true (negsuc a) (negsuc c) e = ap negsuc (eqb-true a c e)

not_false : (t : Bool) → not t ≡ false → t ≡ true
not_false true e = refl
not_false false e = absurd (true≢false e)

pub record Linkable (b : Books) (n p : ℕ) (base : ℤ) (a : active-state.Active) : Type 0 where
  pub state : state_of b n ≡ is.Active a
  pub lsn : a.lsn ≡ base
  pub stays : is_left (page_row b.pages n p) ≡ false

pub linkable : (b : Books) (p : ℕ) (info : CacheInfo) → link_refusal b p info ≡ None → (a : active-state.Active) × Linkable b (info_segment b info) p (base_of b.size info.lsn) a
linkable b p info e = on (state_of b n) refl (or_none _ _ e).1
  where
    n : ℕ
    n = info_segment b info

    on : (s : State) → state_of b n ≡ s → into_state b n p info.log_size (base_of b.size info.lsn) s ≡ None → (a : active-state.Active) × Linkable b n p (base_of b.size info.lsn) a
    on (is.Free f) q e = absurd (let z : ◌≡◌ {A = ℕ} 0 1 = cc in omega arith)
    on (is.Active a) q e =
        let x : _ = first_none (not (same_z a.lsn (base_of b.size info.lsn))) _ _ e in
        let y : _ = first_none (is_left (page_row b.pages n p)) _ _ x.1 in
        (a, record { state = q; lsn = same_true a.lsn (base_of b.size info.lsn) (not_false (same_z a.lsn (base_of b.size info.lsn)) x.0); stays = y.0 })
    on (is.Inactive i) q e = let x : _ = first_none (not (same_z i.lsn (base_of b.size info.lsn))) _ _ e in absurd (let y : _ = x.1 in let z : ◌≡◌ {A = ℕ} 0 1 = cc in omega arith)
    on (is.Draining d) q e = let x : _ = first_none (not (same_z d.lsn (base_of b.size info.lsn))) _ _ e in absurd (let y : _ = x.1 in let z : ◌≡◌ {A = ℕ} 0 1 = cc in omega arith)

-- ---- link
link_opens : (b : Books) (n p size : ℕ) (a : active-state.Active) → state_of b n ≡ is.Active a → n < length b.segments → Opens b (linked_at n p size b)
link_opens b n p size a e low m x f = on (cases_eq m n)
  where
    on : (m ≡ n) ⊎ (m ≡ n → ⊥) → (y : active-state.Active) × (state_of (linked_at n p size b) m ≡ is.Active y) × (y.lsn ≡ x.lsn)
    on (inl q) = (linked size x, ap (state_of (linked_at n p size b)) q ∙ get_or-set_same b.segments n (linked_state size (state_of b n)) unused low ∙ ap (linked_state size) (ap (state_of b) (sym q) ∙ f), refl)
    on (inr q) = (x, get_or-set_other b.segments n m (linked_state size (state_of b n)) unused q ∙ f, refl)

linked_weighs : (size : ℕ) (live : ℤ) (a : active-state.Active) → Weighs live (is.Active a) → Weighs (live +ℤ pos size) (is.Active (linked size a))
linked_weighs size live a w =
    let d : a.deferred_replaced_rss ≤ a.rss = w.0 in
    (omega arith, ap pos (more a.rss a.deferred_replaced_rss size d) ∙ ap (λ z. z +ℤ pos size) w.1)
  where
    more : (x y z : ℕ) → y ≤ x → x + z - y ≡ x - y + z
    more x y z l = omega arith

link_bytes : (b : Books) (n p size : ℕ) (a : active-state.Active) (live : ℕ → ℤ) → state_of b n ≡ is.Active a → n < length b.segments → Bytes live b → Bytes (upd live n (live n +ℤ pos size)) (linked_at n p size b)
link_bytes b n p size a live e low w m = on (cases_eq m n)
  where
    on : (m ≡ n) ⊎ (m ≡ n → ⊥) → Weighs (upd live n (live n +ℤ pos size) m) (state_of (linked_at n p size b) m)
    on (inl q) = subst (λ k. Weighs (upd live n (live n +ℤ pos size) k) (state_of (linked_at n p size b) k)) (sym q)
        (rw (eq-eqb n n refl) (subst (Weighs (live n +ℤ pos size)) (sym (get_or-set_same b.segments n (linked_state size (state_of b n)) unused low ∙ ap (linked_state size) e)) (linked_weighs size (live n) a (subst (Weighs (live n)) e (w n)))))
    on (inr q) = rw (ne_eqb m n q) (subst (Weighs (live m)) (sym (get_or-set_other b.segments n m (linked_state size (state_of b n)) unused q)) (w m))

pub blobs_opens : (given more : List (ℤ × ℤ)) (b c : Books) → ((x : ℤ × ℤ) → Has given x → Has more x) → Blobs given b → Opens b c → c.blobs ≡ b.blobs → Blobs more c
blobs_opens given more b c up bl o e row hr =
    let old : _ = bl row (subst (λ l. Has l row) e hr) in
    let new : _ = o row.segment old.0 old.1 in
    (new.0, new.1, up (row.blob, new.0.lsn) (subst (λ z. Has given (row.blob, z)) (sym new.2) old.2))

-- the books and the recount after size bytes of page p are written into segment n
pub link_sound : (b : Books) (r : Recount) (h : Holders) (n p size : ℕ) (base : ℤ) (a : active-state.Active) → Sound b r h → Linkable b n p base a → Sound (linked_at n p size b) (told_bytes n p size r) h
link_sound b r h n p size base a s k =
    let g : Good {M = Unit {0}} (calm (λ z. false)) (world b (tt, [])) (counted r) h = record { whole = s.whole; inv = s.inv; asked = refl } in
    let l : Good {M = Unit {0}} (calm (λ z. false)) (world (linked_at n p size b) (tt, [])) (told_link (counted r) n p) h = linked_good (calm (λ z. false)) (counted r) h (world b (tt, [])) n p size a g k.state k.stays in
    let low : n < length b.segments = reach b.segments n (ap (λ x. seg_is_free (seen x)) k.state) in
    record {
      whole = l.whole;
      inv = subst (λ c. Inv (view_of (calm (λ z. false)) (linked_at n p size b)) c h) (sym (counted_bytes n p size r)) l.inv;
      size = s.size;
      stored = s.stored;
      lsn_signs = s.lsn_signs;
      noted_signs = s.noted_signs;
      bytes = link_bytes b n p size a r.live k.state low s.bytes;
      blobs = blobs_opens r.given r.given b (linked_at n p size b) (λ x y. y) s.blobs (link_opens b n p size a k.state low) refl;
    }

same_seg : (b : Books) (n p size : ℕ) (a : active-state.Active) → state_of b n ≡ is.Active a → seg_of (linked_at n p size b).segments ≡ seg_of b.segments
same_seg b n p size a e =
    let low : n < length b.segments = reach b.segments n (ap (λ x. seg_is_free (seen x)) e) in
    Rattle.safety.proofs.Looks.seg_set b.segments n (linked_state size (state_of b n)) low ∙ Rattle.safety.proofs.Cleans.upd_id (seg_of b.segments) n (seen (linked_state size (state_of b n))) (ap seen e ∙ sym (ap (λ x. seen (linked_state size x)) e))

pub link_accepted : {M : Type 0} (fine : ℤ → Bool) (b : Books) (m : M) (r : Recount) (h : Holders) (p : ℕ) (info : CacheInfo) → Sound b r h → link_refusal b p info ≡ None → Accepted fine (told_info p info r) b h (world (link_of p info b) (m, []))
link_accepted fine b m r h p info s e =
    let k : _ = linkable b p info e in
    let n : ℕ = info_segment b info in
    let num : lid_of info.pointer / r.size ≡ n = ap (λ z. lid_of info.pointer / z) s.size in
    record {
      now = h;
      sound = subst (λ q. Sound (link_of p info b) (told_bytes q p info.log_size r) h) (sym num) (link_sound b r h n p info.log_size (base_of b.size info.lsn) k.0 s k.1);
      moved = subst (λ (q : ℕ → Seg). Moved (counted r).noted (seg_of b.segments) h q h) (sym (same_seg b n p info.log_size k.0 k.1.state)) (moved_refl (counted r).noted (seg_of b.segments) h);
      asked = refl;
    }

-- ---- blobs given up
module _ {X : Type 0} where
  has_put : (at : X → Ordering) (row : X) (xs : List X) (x : X) → Has (put_by at row xs) x → (x ≡ row) ⊎ Has xs x
  has_put at row [] x (zero, l, e) = inl (sym (e x))
  has_put at row [] x (suc k, l, e) = absurd (omega arith)
  has_put at row (y ∷ ys) x h = on (has_put at row ys x) (at y) h
    where
      split : (z : X) (zs : List X) → Has (z ∷ zs) x → (x ≡ z) ⊎ Has zs x
      split z zs (zero, l, e) = inl (sym (e x))
      split z zs (suc k, l, e) = inr (k, omega arith, e)

      on : (Has (put_by at row ys) x → (x ≡ row) ⊎ Has ys x) → (o : Ordering) → Has (by o (y ∷ put_by at row ys) (row ∷ ys) (row ∷ (y ∷ ys))) x → (x ≡ row) ⊎ Has (y ∷ ys) x
      on ih Less h = elim (split y (put_by at row ys) h) [ inl e ↦ inr (subst (λ z. Has (y ∷ ys) z) (sym e) (has_first y ys)) | inr q ↦ elim (ih q) [ inl e ↦ inl e | inr z ↦ inr (has_later y ys x z) ] ]
      on ih Equal h = elim (split row ys h) [ inl e ↦ inl e | inr q ↦ inr (has_later y ys x q) ]
      on ih Greater h = elim (split row (y ∷ ys) h) [ inl e ↦ inl e | inr q ↦ inr q ]

module _ (n p k : ℕ) (kept : Option ℤ) where
  with_has : (o : Option ℤ) (rows : List BlobRow) (r : Recount) (row : BlobRow) → Has (with_blob n kept o rows) row → Has rows row ⊎ ((row.segment ≡ n) × Has (told_blob kept (pos k) o r).given (row.blob, pos k))
  with_has None rows r row h = inl h
  with_has (Some blob) rows r row h = on (same_blob kept blob) h
    where
      on : (t : Bool) → Has (cond t rows (insert_row blob_key by_signed rows (blob_row n blob))) row → Has rows row ⊎ ((row.segment ≡ n) × Has (cond t r (recount r.size r.lsn r.live r.lies r.noted r.stored ((blob, pos k) ∷ r.given))).given (row.blob, pos k))
      on true h = inl h
      on false h = elim (has_put (towards blob_key by_signed (n, blob)) (blob_row n blob) rows row h) [ inl e ↦ inr (ap (λ (z : BlobRow). z.segment) e, subst (λ z. Has ((blob, pos k) ∷ r.given) (z, pos k)) (sym (ap (λ (z : BlobRow). z.blob) e)) (has_first (blob, pos k) r.given)) | inr q ↦ inl q ]

  pub given_has : (olds : List CacheInfo) (rows : List BlobRow) (r : Recount) → ((m : ℕ) → Plus (r.lsn m)) → (row : BlobRow) → Has (given_up n kept olds rows) row → Has rows row ⊎ ((row.segment ≡ n) × Has (told_olds p (pos k) kept olds r).given (row.blob, pos k))
  given_has [] rows r ps row h = inl h
  given_has (old ∷ olds) rows r ps row h =
      let c : Recount = Rattle.rules.specs.Recount.told_away (lid_of old.pointer / r.size) p (pos k) old.log_size r in
      let d : Recount = told_blob kept (pos k) (blob_of old.pointer) c in
      let pd : (m : ℕ) → Plus (d.lsn m) = λ m. keeps (blob_of old.pointer) c m (ps m) in
      elim (given_has olds (with_blob n kept (blob_of old.pointer) rows) d pd row h) [
        | inl q ↦ elim (with_has (blob_of old.pointer) rows c row q) [ inl z ↦ inl z | inr z ↦ inr (z.0, (olds_told p k kept olds d pd).more (row.blob, pos k) z.1) ]
        | inr q ↦ inr q
      ]
    where
      keeps : (o : Option ℤ) (c : Recount) (m : ℕ) → Plus (c.lsn m) → Plus ((told_blob kept (pos k) o c).lsn m)
      keeps None c m e = e
      keeps (Some blob) c m e = on (same_blob kept blob)
        where
          on : (t : Bool) → Plus ((cond t c (recount c.size c.lsn c.live c.lies c.noted c.stored ((blob, pos k) ∷ c.given))).lsn m)
          on true = e
          on false = e

-- ---- the old segments fit
closed_fits : (b : Books) (n p : ℕ) (base lsn : ℤ) (more : Bool) → from_closed b n p base lsn more ≡ None → (here (row_of b.pages n p) ≡ true) × (more ≡ false)
closed_fits b n p base lsn more e =
    let x : _ = first_none (lt_z base lsn) _ _ e in
    let y : _ = first_none (not (is_lying (page_row b.pages n p))) _ _ x.1 in
    let z : _ = first_none more _ _ y.1 in
    (sym (lying_here (page_row b.pages n p)) ∙ not_false (is_lying (page_row b.pages n p)) y.0, z.0)

state_fits : (b : Books) (rows : List BlobRow) (p : ℕ) (base : ℤ) (sum : ℕ × ℕ) (s : State) → state_of b sum.0 ≡ s → from_state b sum.0 p base sum.1 s ≡ None → Fits (with_blobs rows b) p sum
state_fits b rows p base sum (is.Free f) q e = absurd (let z : ◌≡◌ {A = ℕ} 0 1 = cc in omega arith)
state_fits b rows p base sum (is.Active a) q e = let x : _ = closed_fits b sum.0 p base a.lsn (ltb (a.rss - a.deferred_replaced_rss) sum.1) e in record { used = ap (λ z. seg_is_free (seen z)) q; lies = x.0; room = ap (enough sum.1) q ∙ ap not x.1 }
state_fits b rows p base sum (is.Inactive i) q e = let x : _ = closed_fits b sum.0 p base i.lsn (ltb i.rss sum.1) e in record { used = ap (λ z. seg_is_free (seen z)) q; lies = x.0; room = ap (enough sum.1) q ∙ ap not x.1 }
state_fits b rows p base sum (is.Draining d) q e = let x : _ = closed_fits b sum.0 p base d.lsn false e in record { used = ap (λ z. seg_is_free (seen z)) q; lies = x.0; room = ap (enough sum.1) q }

olds_fit : (b : Books) (rows : List BlobRow) (p : ℕ) (base : ℤ) (sums : List (ℕ × ℕ)) → olds_refusal b p base sums ≡ None → FitAll (with_blobs rows b) p sums
olds_fit b rows p base [] e = tt
olds_fit b rows p base (sum ∷ sums) e =
    let x : _ = or_none (from_state b sum.0 p base sum.1 (state_of b sum.0)) (olds_refusal b p base sums) e in
    (state_fits b rows p base sum (state_of b sum.0) refl x.0, olds_fit b rows p base sums x.1)

-- ---- replace
module _ {M : Type 0} (respond : M → Request → Answer × M) (fine : ℤ → Bool) (b : Books) (m : M) (r : Recount) (h : Holders) (p : ℕ) (lsn : ℤ) (olds : List CacheInfo) (new : CacheInfo) (s : Sound b r h) where
  pub replace_accepted : replace_refusal b p lsn olds new ≡ None → Accepted fine (told_replace p lsn olds new r) b h (replaced (recorded respond) p lsn olds new (world b (m, [])))
  replace_accepted e =
      let x0 : _ = or_none _ _ e in
      let same : lsn ≡ new.lsn = same_true lsn new.lsn (not_false (same_z lsn new.lsn) (first_none (not (same_z lsn new.lsn)) _ _ x0.0).0) in
      let x1 : _ = or_none (link_refusal b p new) _ x0.1 in
      let x2 : _ = or_none (olds_refusal (link_of p new b) p (base_of b.size lsn) (sums_of b olds)) _ x1.1 in
      let k : ℕ = nat_abs lsn / b.size * b.size in
      let n : ℕ = info_segment b new in
      let size : ℕ = new.log_size in
      let lk : _ = linkable b p new x1.0 in
      let a : active-state.Active = lk.0 in
      let al : a.lsn ≡ pos k = lk.1.lsn ∙ ap (base_of b.size) (sym same) in
      let b1 : Books = link_of p new b in
      let rows : List BlobRow = given_up n (blob_of new.pointer) olds b.blobs in
      let b2 : Books = with_blobs rows b1 in
      let w2 : World (M × Log) = world b2 (m, []) in
      let r1 : Recount = told_bytes n p size r in
      let s1 : Sound b1 r1 h = link_sound b r h n p size (base_of b.size new.lsn) a s lk.1 in
      let low : n < length b.segments = reach b.segments n (ap (λ x. seg_is_free (seen x)) lk.1.state) in
      let n1 : state_of b1 n ≡ is.Active (linked size a) = get_or-set_same b.segments n (linked_state size (state_of b n)) unused low ∙ ap (linked_state size) lk.1.state in
      let g2 : Good (calm fine) w2 (counted r1) h = record { whole = blobs_whole b1 rows s1.whole; inv = s1.inv; asked = refl } in
      let sums : List (ℕ × ℕ) = sums_of b olds in
      let v : Visited respond (calm fine) p k n sums (counted r1) r1.live w2 h (visited (recorded respond) p (pos k) sums w2) =
      visited_good respond (calm fine) p k n sums (counted r1) r1.live w2 h g2 (ap (λ x. active (seen x)) n1 ∙ ap (λ z. Some (nat_abs z)) al) (sums_rising b olds) (olds_fit b1 rows p (base_of b.size lsn) sums x2.0) s1.bytes in
      let z : World (M × Log) = visited (recorded respond) p (pos k) sums w2 in
      let kept : Option ℤ = blob_of new.pointer in
      let r2 : Recount = told_olds p (pos k) kept olds r1 in
      let t : OldsTold p k kept olds r1 r2 = olds_told p k kept olds r1 s1.lsn_signs in
      let sz : r1.size ≡ b.size = s.size in
      let ag : Agree (told_aways p k (keys sums) (counted r1)) (counted r2) = subst (λ c. Agree (told_aways p k (keys sums) (counted r1)) c) (sym (t.count ∙ ap (λ y. told_aways p k (keys (pairs_of y olds)) (counted r1)) sz)) (aways_agree p k (keys sums) (keys (pairs_of b.size olds)) (counted r1) (same_mem b olds)) in
      let bl2 : Blobs r2.given b2 = λ row hr. blobs_two b1 r1 r2 rows n (linked size a) n1 s1.blobs t.more (given_has n p k kept olds b.blobs r1 s1.lsn_signs row hr) al in
      let rec : Recount = told_replace p lsn olds new r in
      let er : r2 ≡ rec = λ i. told_olds p (base_of (sym s.size i) lsn) kept olds (told_bytes (lid_of new.pointer / sym s.size i) p size r) in
      subst (λ q. Accepted fine q b h z) er (record {
        now = v.went.now;
        sound = record {
          whole = v.went.good.whole;
          inv = inv_agree (view_of (calm fine) z.books) (told_aways p k (keys sums) (counted r1)) (counted r2) v.went.now ag v.went.good.inv;
          size = t.size ∙ sz ∙ sym v.went.size;
          stored = t.stored ∙ s.stored ∙ sym v.went.level;
          lsn_signs = λ q. subst (λ (f : ℕ → ℤ). Plus (f q)) (sym t.lsn) (s.lsn_signs q);
          noted_signs = t.signs s.noted_signs;
          bytes = λ q. subst (λ y. Weighs y (state_of z.books q)) (sym (ap (λ (f : ℕ → ℤ). f q) t.live ∙ ap (λ y. less_sums (pairs_of y olds) r1.live q) sz ∙ same_live b olds r1.live q)) (v.bytes q);
          blobs = blobs_opens r2.given r2.given b2 z.books (λ x y. y) bl2 v.opens v.blobs;
        };
        moved = moved_agree (told_aways p k (keys sums) (counted r1)).noted (counted r2).noted (seg_of b.segments) h (seg_of z.books.segments) v.went.now ag.top
            (subst (λ (f : ℕ → Seg). Moved (told_aways p k (keys sums) (counted r1)).noted f h (seg_of z.books.segments) v.went.now) (same_seg b n p size a lk.1.state) v.went.moved);
        asked = v.went.good.asked;
      })
    where
      blobs_two : {k : ℕ} {row : BlobRow} (b1 : Books) (r1 r2 : Recount) (rows : List BlobRow) (n : ℕ) (a : active-state.Active) → state_of b1 n ≡ is.Active a → Blobs r1.given b1 → ((x : ℤ × ℤ) → Has r1.given x → Has r2.given x) → Has b1.blobs row ⊎ ((row.segment ≡ n) × Has r2.given (row.blob, pos k)) → a.lsn ≡ pos k → (y : active-state.Active) × (state_of b1 row.segment ≡ is.Active y) × Has r2.given (row.blob, y.lsn)
      blobs_two {k} {row} b1 r1 r2 rows n a e old more (inl q) l = let o : _ = old row q in (o.0, o.1, more (row.blob, o.0.lsn) o.2)
      blobs_two {k} {row} b1 r1 r2 rows n a e old more (inr q) l = (a, ap (state_of b1) q.0 ∙ e, subst (λ z. Has r2.given (row.blob, z)) (sym l) q.1)
