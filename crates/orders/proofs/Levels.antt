-- The level that a stabilize stores is above the old one, and so an LSN.
use Rattle.std.proofs.Common.{◌≡◌, ℕ, zero, suc, ◌+◌, ◌-◌, ◌*◌, ◌/◌, ◌^◌, ◌<◌, Bool, true, false, cond, not, ◌&&◌, ◌||◌, ltb, leb, ℤ, pos, negsuc, ◌-ℤ◌, refl, subst, true≢false, div-mul-le_self, arith}
use lib.Signed.{lt_z, le_z}
use Rattle.std.proofs.lemmas.Bool.{and_parts, or_parts, leb-true, leb-false, lt-ltb}
use Rattle.rules.specs.Links.{out_of_range}
use Rattle.rules.specs.Stabilizing.{level}
use Rattle.orders.specs.Within.{is_level}

above_level : (z old : ℤ) → le_z z old ≡ false → is_level old ≡ true → lt_z z (pos (2 ^ 62)) ≡ true → is_level z ≡ true
above_level (pos a) old h g l = l
above_level (negsuc k) (pos a) h g l = absurd (true≢false h)
above_level (negsuc k) (negsuc j) h g l =
    let x = leb-true j 0 (and_parts (leb j 0) true g).0 in
    let y = leb-false j k h in
    absurd (omega arith)

below_limit : (x y : ℕ) → x < 2 ^ 62 → lt_z (pos x -ℤ pos y) (pos (2 ^ 62)) ≡ true
below_limit x zero l = lt-ltb (x + 0) (2 ^ 62) (omega arith)
below_limit x (suc y) l = on (ltb x (suc y))
  where
    on : (t : Bool) → lt_z (cond t (negsuc (suc y - suc x)) (pos (x - suc y))) (pos (2 ^ 62)) ≡ true
    on true = refl
    on false = lt-ltb (x - suc y) (2 ^ 62) (omega arith)

pub level_above : (size : ℕ) (lsn old : ℤ) → (not (lt_z lsn (pos 0)) && out_of_range lsn) ≡ false → (lt_z lsn (pos 0) || le_z (level size lsn) old) ≡ false → is_level old ≡ true → is_level (level size lsn) ≡ true
level_above size (negsuc a) old r h g = absurd (true≢false h)
level_above size (pos a) old r h g =
    let hs = or_parts (ltb a 0) (le_z (level size (pos a)) old) h in
    let low : ltb a 0 ≡ false = hs.0 in
    let rs : (ltb a 0 || leb (2 ^ 62) a) ≡ false = subst (λ t. (not t && (ltb a 0 || leb (2 ^ 62) a)) ≡ false) low r in
    let top = leb-false (2 ^ 62) a (or_parts (ltb a 0) (leb (2 ^ 62) a) rs).1 in
    let d = div-mul-le_self a size in
    above_level (level size (pos a)) old hs.1 g (below_limit (a / size * size) size (omega arith))
