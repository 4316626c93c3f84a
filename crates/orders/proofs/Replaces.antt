-- The checks of a replacement are made before its visits. They hold at each visit, since the segments visited differ.
use Rattle.std.proofs.Common.{◌≡◌, ℕ, zero, suc, ◌+◌, ◌*◌, ◌/◌, ◌^◌, ◌<◌, ◌≤◌, Bool, true, false, cond, not, ltb, leb, List, [], ◌∷◌, length, get_or, ℤ, pos, negsuc, Some, None, Option, sym, refl, ap, ◌∙◌, true≢false, div-mul-le_self, arith}
use Rattle.std.proofs.lemmas.List.{get_or-set_same}
use Rattle.std.proofs.lemmas.Bool.{ltb-true, ltb-false, leb-false, le-ltb, lt-leb, or_parts, or_from}
use Rattle.host.specs.Meaning.{Answer}
use Rattle.host.specs.declared.request.Request.{Request}
use Rattle.segment.specs.Bases.{base_of}
use Rattle.segment.specs.Pointers.{blob_of}
use Rattle.segment.specs.Signs.{same_z}
use Rattle.segment.specs.Updates.{linked}
use Rattle.segment.specs.declared.cache_info.CacheInfo.{CacheInfo}
use Rattle.segment.specs.declared.rows.BlobRow.{BlobRow}
use Rattle.segment.specs.declared.state.Active.{Active}
use Rattle.segment.specs.declared.state.State.{State}
use Rattle.segment.specs.declared.state.State.TheVariants as is
use Rattle.rules.specs.declared.refusal.Refusal.{Refusal}
use Rattle.rules.specs.Books.{Books, World, world, with_blobs, unused, state_of}
use Rattle.rules.specs.Pages.{page_row}
use Rattle.rules.specs.Cleaning.{cleaned}
use Rattle.rules.specs.Links.{or_else, out_of_range, info_segment, into_state, link_refusal, link_of, linked_state}
use Rattle.rules.specs.Replacing.{given_up, add_size, sums_onto, sums_of, from_state, olds_refusal, blob_rows_full, replace_refusal, taken_at, blobs_given_up, visited, replaced}
use Rattle.orders.proofs.Steps.{Steps}
use Rattle.orders.proofs.Cleans.{drain_keeps, cleaned_keeps}
use Rattle.orders.proofs.Alone.{Alone, alone_then, taken_alone, cleaned_alone}

-- ---- refusals
pub or_else_none : (x y : Option Refusal) → or_else x y ≡ None → (x ≡ None) × (y ≡ None)
or_else_none None y e = (refl, e)
or_else_none (Some r) y e = let z : ◌≡◌ {A = ℕ} 0 1 = cc in absurd (omega arith)

pub passed : (t : Bool) (r : Refusal) (rest : Option Refusal) → cond t (Some r) rest ≡ None → (t ≡ false) × (rest ≡ None)
passed true r rest e = let z : ◌≡◌ {A = ℕ} 0 1 = cc in absurd (omega arith)
passed false r rest e = (refl, e)

-- ---- the segments of the sums ascend
abbrev pub Above : ℕ → List (ℕ × ℕ) → Type 0
Above n [] = Unit {0}
Above n (sum ∷ sums) = (n < sum.0) × Above n sums

abbrev pub Rising : List (ℕ × ℕ) → Type 0
Rising [] = Unit {0}
Rising (sum ∷ sums) = Above sum.0 sums × Rising sums

above_less : (m n : ℕ) (sums : List (ℕ × ℕ)) → m ≤ n → Above n sums → Above m sums
above_less m n [] l h = tt
above_less m n (sum ∷ sums) l h = (omega (arith, h.0), above_less m n sums l h.1)

above_add : (m n size : ℕ) (sums : List (ℕ × ℕ)) → m < n → Above m sums → Above m (add_size n size sums)
above_add m n size [] l h = (l, tt)
above_add m n size (sum ∷ sums) l h = on (ltb sum.0 n) (ltb n sum.0) (above_add m n size sums l h.1)
  where
    on : (s t : Bool) → Above m (add_size n size sums) → Above m (cond s (sum ∷ add_size n size sums) (cond t ((n, size) ∷ (sum ∷ sums)) ((n, sum.1 + size) ∷ sums)))
    on true t ih = (h.0, ih)
    on false true ih = (l, h)
    on false false ih = (l, h.1)

rising_add : (n size : ℕ) (sums : List (ℕ × ℕ)) → Rising sums → Rising (add_size n size sums)
rising_add n size [] h = (tt, tt)
rising_add n size (sum ∷ sums) h = on (ltb sum.0 n) (ltb n sum.0) refl refl (rising_add n size sums h.1)
  where
    on : (s t : Bool) → ltb sum.0 n ≡ s → ltb n sum.0 ≡ t → Rising (add_size n size sums) → Rising (cond s (sum ∷ add_size n size sums) (cond t ((n, size) ∷ (sum ∷ sums)) ((n, sum.1 + size) ∷ sums)))
    on true t e f ih = (above_add sum.0 n size sums (ltb-true _ _ e) h.0, ih)
    on false true e f ih = let l = ltb-true _ _ f in ((l, above_less n sum.0 sums (omega arith) h.0), h)
    on false false e f ih = let l = ltb-false _ _ e in let k = ltb-false _ _ f in (above_less n sum.0 sums (omega arith) h.0, h.1)

pub rising_onto : (b : Books) (olds : List CacheInfo) (sums : List (ℕ × ℕ)) → Rising sums → Rising (sums_onto b olds sums)
rising_onto b [] sums h = h
rising_onto b (old ∷ olds) sums h = rising_onto b olds (add_size (info_segment b old) old.log_size sums) (rising_add (info_segment b old) old.log_size sums h)

-- ---- a check looks at its own segment alone
from_same : (b c : Books) (n p : ℕ) (base : ℤ) (size : ℕ) (s : State) → page_row c.pages n p ≡ page_row b.pages n p → from_state c n p base size s ≡ from_state b n p base size s
from_same b c n p base size (is.Free f) e = refl
from_same b c n p base size (is.Active a) e = rw e
from_same b c n p base size (is.Inactive i) e = rw e
from_same b c n p base size (is.Draining d) e = rw e

pub olds_same : (b c : Books) (p n : ℕ) (base : ℤ) (sums : List (ℕ × ℕ)) → Alone p n b c → Above n sums → olds_refusal c p base sums ≡ olds_refusal b p base sums
olds_same b c p n base [] a h = refl
olds_same b c p n base (sum ∷ sums) a h =
    let apart : sum.0 ≡ n → ⊥ = λ e. omega (arith, h.0) in
    λ i. or_else ((ap (from_state c sum.0 p base sum.1) (a.state sum.0 apart) ∙ from_same b c sum.0 p base sum.1 (state_of b sum.0) (a.row sum.0 apart)) i) (olds_same b c p n base sums a h.1 i)

module _ {M : Type 0} (respond : M → Request → Answer × M) {P : Books → Type 0} (k : Steps P) where
  pub visited_keeps : (p : ℕ) (base : ℤ) (sums : List (ℕ × ℕ)) (w : World M) → out_of_range base ≡ false → Rising sums → olds_refusal w.books p base sums ≡ None → P w.books → P (visited respond p base sums w).books
  unfolding visited
  visited_keeps p base [] w l r e h = h
  visited_keeps p base (sum ∷ sums) w l r e h =
      let es = or_else_none (from_state w.books sum.0 p base sum.1 (state_of w.books sum.0)) (olds_refusal w.books p base sums) e in
      let v : World M = world (taken_at sum.0 p base sum.1 w.books) w.host in
      let g : P v.books = k.takes sum.0 p base sum.1 w.books l es.0 h in
      let a : Alone p sum.0 w.books (cleaned respond sum.0 v).books =
      alone_then (taken_alone p sum.0 base sum.1 w.books) (cleaned_alone respond p sum.0 v (k.ordered _ (drain_keeps respond k sum.0 v.books g))) in
      visited_keeps p base sums (cleaned respond sum.0 v) l r.1 (olds_same w.books (cleaned respond sum.0 v).books p sum.0 base sums a r.0 ∙ es.1) (cleaned_keeps respond k sum.0 v g)

-- ---- the whole replacement
pub base_in_range : (size : ℕ) (lsn : ℤ) → out_of_range lsn ≡ false → out_of_range (base_of size lsn) ≡ false
base_in_range size (pos a) e =
    let l = leb-false (2 ^ 62) a (or_parts (ltb a 0) (leb (2 ^ 62) a) e).1 in
    let d = div-mul-le_self a size in
    or_from _ _ (le-ltb (a / size * size) 0 (omega arith)) (lt-leb (2 ^ 62) (a / size * size) (omega arith))
base_in_range size (negsuc a) e = absurd (true≢false e)

-- a link is accepted into an Active segment alone
pub accepted_active : (b : Books) (n p size : ℕ) (base : ℤ) (s : State) → into_state b n p size base s ≡ None → (a : Active) × (s ≡ is.Active a)
accepted_active b n p size base (is.Free f) e = let z : ◌≡◌ {A = ℕ} 0 1 = cc in absurd (omega arith)
accepted_active b n p size base (is.Active a) e = (a, refl)
accepted_active b n p size base (is.Inactive i) e = absurd (true≢false (passed true _ None (passed (not (same_z i.lsn base)) _ _ e).1).0)
accepted_active b n p size base (is.Draining d) e = absurd (true≢false (passed true _ None (passed (not (same_z d.lsn base)) _ _ e).1).0)

-- a segment that is not as one never used is reached
pub reached : (l : List State) (n : ℕ) (s : State) → get_or l n unused ≡ s → (s ≡ unused → ⊥) → n < length l
reached [] n s e h = absurd (h (sym e))
reached (x ∷ l) zero s e h = omega arith
reached (x ∷ l) (suc n) s e h = let r = reached l n s e h in omega arith

pub active_reached : (b : Books) (n : ℕ) (a : Active) → state_of b n ≡ is.Active a → n < length b.segments
active_reached b n a e = reached b.segments n (is.Active a) e (λ q. let z : ◌≡◌ {A = ℕ} 0 1 = cc in omega arith)

pub linked_active : (b : Books) (p : ℕ) (info : CacheInfo) → link_refusal b p info ≡ None → (a : Active) × (state_of (link_of p info b) (info_segment b info) ≡ is.Active a)
linked_active b p info e =
    let x = accepted_active b (info_segment b info) p info.log_size (base_of b.size info.lsn) (state_of b (info_segment b info)) (or_else_none _ _ e).1 in
    (linked info.log_size x.0, get_or-set_same b.segments (info_segment b info) _ unused (active_reached b _ x.0 x.1) ∙ ap (linked_state info.log_size) x.1)

pub olds_blobs : (b : Books) (rows : List BlobRow) (p : ℕ) (base : ℤ) (sums : List (ℕ × ℕ)) → olds_refusal (with_blobs rows b) p base sums ≡ olds_refusal b p base sums
olds_blobs b rows p base [] = refl
olds_blobs b rows p base (sum ∷ sums) = ap (or_else _) (olds_blobs b rows p base sums)

module _ {M : Type 0} (respond : M → Request → Answer × M) {P : Books → Type 0} (k : Steps P) where
  pub replaced_keeps : (p : ℕ) (lsn : ℤ) (olds : List CacheInfo) (new : CacheInfo) (w : World M) → out_of_range lsn ≡ false → out_of_range new.lsn ≡ false → replace_refusal w.books p lsn olds new ≡ None → P w.books → P (replaced respond p lsn olds new w).books
  replaced_keeps p lsn olds new w in_range new-in-range e h =
      let b : Books = w.books in
      let e1 = or_else_none _ _ e in
      let e2 = or_else_none (link_refusal b p new) _ e1.1 in
      let e3 = or_else_none (olds_refusal (link_of p new b) p (base_of b.size lsn) (sums_of b olds)) _ e2.1 in
      let g : P (link_of p new b) = k.links p new b new-in-range e2.0 h in
      let x = linked_active b p new e2.0 in
      let f : P (blobs_given_up olds new (link_of p new b)) = k.gives olds new x.0 (link_of p new b) x.1 (passed (blob_rows_full b (info_segment b new) (blob_of new.pointer) olds) _ _ e3.1).0 g in
      visited_keeps respond k p (base_of b.size lsn) (sums_of b olds) (world (blobs_given_up olds new (link_of p new b)) w.host) (base_in_range b.size lsn in_range) (rising_onto b olds [] tt) (olds_blobs (link_of p new b) (given_up (info_segment b new) (blob_of new.pointer) olds b.blobs) p (base_of b.size lsn) (sums_of b olds) ∙ e3.0) f
