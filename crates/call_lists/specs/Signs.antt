-- A text with no plus in front is read as it stands: what `parse` says behind a plus is then said of the whole text. One with a plus in
-- front is no number.
use Rattle.std.specs.Prelude.{◌≡◌, ℕ, ◌^◌, ◌<◌, false, cond, List, [], ◌∷◌, drop, ℤ, pos, neg_ℤ, Ok, Err, Result, MatchResult, FitsSigned, ◌≢◌, slice_index, ◌==◌}
use Rattle.std.proofs.Common.{ap, subst, arith}
use Rattle.std.specs.Int.{w64}
use Rattle.std.specs.Result.{OkIff}
use Rattle.std.specs.Char.{digit_value}
use Rattle.std.specs.Str.Parse.{IsNumeral, ParsesUnsigned, ParsesSigned, digits_value, starts_with_minus}
use Rattle.std.proofs.lemmas.Str.Parse.{without_leading_plus_none}
use Rattle.call_lists.specs.declared.reason.Reason.{Reason}
use Rattle.call_lists.specs.declared.reason.Reason.TheVariants.{NotANumber}
use Rattle.call_lists.specs.Numbers.{UnsignedOf, Signed}

told : {X E : Type 0} (r : Result X E) (P : Type 0) (v : X) → OkIff r P v → MatchResult r (λ n. OkIff {E = Reason} (Ok n) P v) (λ _. OkIff {E = Reason} (Err NotANumber) P v)
told (Ok x) P v h = h
told (Err e) P v h = h

pub unsigned_plain : {E : Type 0} (bits : ℕ) (bs : List ℕ) (r : Result ℕ E) → (slice_index bs 0 ≢ 43) → ParsesUnsigned bits 10 bs r → MatchResult r (λ n. UnsignedOf bits bs (Ok n)) (λ _. UnsignedOf bits bs (Err NotANumber))
unsigned_plain bits bs r plain h =
    let Read : List ℕ → Type 0 = λ ds. OkIff r (IsNumeral 10 ds × (digits_value 10 ds < 2 ^ bits)) (digits_value 10 ds) in
    told r _ _ (subst Read (without_leading_plus_none bs plain) h)

no_numeral : (bs : List ℕ) → slice_index bs 0 ≡ 43 → IsNumeral 10 bs → ⊥
no_numeral [] plus n = omega arith
no_numeral (c ∷ cs) plus n = let small : digit_value c < 10 = n.1.0 in absurd (omega (arith, ap digit_value plus))

pub unsigned_plus : (bits : ℕ) (bs : List ℕ) → slice_index bs 0 ≡ 43 → UnsignedOf bits bs (Err NotANumber)
unsigned_plus bits bs plus h = no_numeral bs plus h.0

pub signed_plain : {E : Type 0} (bs : List ℕ) (r : Result ℤ E) → (slice_index bs 0 ≢ 43) → ParsesSigned w64 10 bs r → MatchResult r (λ n. Signed bs (Ok n)) (λ _. Signed bs (Err NotANumber))
signed_plain bs r plain h =
    let by_sign : List ℕ → List ℕ = λ ds. cond (starts_with_minus bs) (drop 1 bs) ds in
    let worth : List ℕ → ℤ = λ ds. cond (starts_with_minus bs) (neg_ℤ (pos (digits_value 10 (by_sign ds)))) (pos (digits_value 10 (by_sign ds))) in
    let Read : List ℕ → Type 0 = λ ds. OkIff r (IsNumeral 10 (by_sign ds) × FitsSigned w64 (worth ds)) (worth ds) in
    told r _ _ (subst Read (without_leading_plus_none bs plain) h)

no_minus : (bs : List ℕ) → slice_index bs 0 ≡ 43 → starts_with_minus bs ≡ false
no_minus bs plus = ap (λ c. c == 45) plus

pub signed_plus : (bs : List ℕ) → slice_index bs 0 ≡ 43 → Signed bs (Err NotANumber)
signed_plus bs plus h = no_numeral bs plus (subst (λ t. IsNumeral 10 (cond t (drop 1 bs) bs)) (no_minus bs plus) h.0)
