-- The cuts at the end of the file: each takes one offset from the free list, so there are as many as it holds at most.
use Rattle.std.proofs.Common.{◌≡◌, ℕ, zero, suc, ◌*◌, ◌<◌, ◌≤◌, true, false, cond, not, eqb, length, sym, refl, ap, ◌∙◌, arith}
use Rattle.std.proofs.lemmas.Bool.{and_parts, eqb-false, not-true, leb-true}
use Rattle.host.specs.Meaning.{Answer}
use Rattle.host.specs.declared.request.Request.{Request}
use Rattle.table.specs.Rows.{own_key}
use Rattle.segment.specs.Rows.{fault_key}
use Rattle.rules.specs.Books.{Books, World}
use Rattle.rules.specs.Freeing.{can_cut, lowered, cut_once, cut_tail, put_free}
use Rattle.orders.specs.Within.{Within, KeptWithin}
use Rattle.orders.proofs.BoundStarts.{within_steps}
use Rattle.orders.proofs.Every.{end_parts, last_place, suc_times}
use Rattle.orders.proofs.Rooms.{at_most}
use Rattle.orders.proofs.Spreads.{cut_less}

-- a tip that is not 0 is the end of a segment
pub tip_enough : (b : Books) → Within b → (b.tip ≡ 0 → ⊥) → b.size ≤ b.tip
tip_enough b w h =
    let t = end_parts b.size (length b.segments) b.tip w.tip in
    let k = last_place _ b.size b.tip t.0 h in
    let e = ap (λ n. n * b.size) k.1 ∙ t.0 in
    let s = suc_times k.0 b.size in
    omega arith

pub cut_tip : (b : Books) → can_cut b ≡ true → b.tip ≡ 0 → ⊥
cut_tip b c = eqb-false b.tip 0 (not-true _ (and_parts (not (eqb b.tip 0)) _ c).0)

-- there is room for the fault of a cut
pub fault_room : (b : Books) (a : Answer) → can_cut b ≡ true → KeptWithin b → length (lowered b a).faults ≤ 256
fault_room b a c h =
    let k = within_steps.cuts b a c h in
    let m = at_most fault_key b.size (length b.segments) (lowered b a).faults k.0.faults k.1.faults in
    let r = leb-true (length b.segments) 256 h.1.reached in
    omega arith

module _ {M : Type 0} (respond : M → Request → Answer × M) where
  pub tail_step : (w : World M) → can_cut w.books ≡ true → cut_tail respond (length (cut_once respond w).books.free) (cut_once respond w) ≡ cut_tail respond (length w.books.free) w
  unfolding cut_tail
  tail_step w c = on (length w.books.free) (length (cut_once respond w).books.free) (let l = cut_less w.books c in omega arith)
    where
      on : (n k : ℕ) → n ≡ suc k → cut_tail respond k (cut_once respond w) ≡ cut_tail respond n w
      on n k e = sym (ap (λ m. cut_tail respond m w) e ∙ ap (λ t. cond t (cut_tail respond k (cut_once respond w)) w) c)

  pub tail_end : (n : ℕ) (w : World M) → can_cut w.books ≡ false → cut_tail respond n w ≡ w
  unfolding cut_tail
  tail_end zero w c = refl
  tail_end (suc n) w c = ap (λ t. cond t (cut_tail respond n (cut_once respond w)) w) c

-- one offset less
pub fewer : {M : Type 0} (respond : M → Request → Answer × M) (w : World M) → can_cut w.books ≡ true → length (cut_once respond w).books.free < length w.books.free
fewer respond w c = let l = cut_less w.books c in omega arith

-- there is room on the free list for a segment that is freed
pub free_room : (n : ℕ) (b : Books) → KeptWithin (put_free n b) → length (put_free n b).free ≤ 256
free_room n b h =
    let m = at_most own_key b.size (length b.segments) (put_free n b).free h.0.free h.1.free in
    let r = leb-true (length b.segments) 256 h.1.reached in
    omega arith
