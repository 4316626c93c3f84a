-- Numbers as fields write them: decimal digits and, before those of a signed number, at most a minus.
use Rattle.std.specs.Prelude.{◌≡◌, ℕ, ◌^◌, ◌<◌, cond, List, drop, ℤ, pos, neg_ℤ, Some, None, Ok, Err, codes, Option, Result, FitsSigned, ◌≢◌}
use Rattle.std.specs.Int.{w64}
use Rattle.std.specs.Result.{OkIff}
use Rattle.std.specs.Str.Parse.{IsNumeral, digits_value, starts_with_minus}
use Rattle.call_lists.specs.declared.reason.Reason.{Reason}

-- the number where the field is one of so many bits, and else a refusal
abbrev pub UnsignedOf : ℕ → List ℕ → Result ℕ Reason → Type 0
UnsignedOf bits bs r = OkIff r (IsNumeral 10 bs × (digits_value 10 bs < 2 ^ bits)) (digits_value 10 bs)

abbrev pub Unsigned : List ℕ → Result ℕ Reason → Type 0
Unsigned = UnsignedOf 64

abbrev pub digits_of : List ℕ → List ℕ
digits_of bs = cond (starts_with_minus bs) (drop 1 bs) bs

abbrev pub signed_value : List ℕ → ℤ
signed_value bs = cond (starts_with_minus bs) (neg_ℤ (pos (digits_value 10 (digits_of bs)))) (pos (digits_value 10 (digits_of bs)))

abbrev pub Signed : List ℕ → Result ℤ Reason → Type 0
Signed bs r = OkIff r (IsNumeral 10 (digits_of bs) × FitsSigned w64 (signed_value bs)) (signed_value bs)

-- none where the field is a dash, and else what it is read as
abbrev pub OrNone : {X : Type 0} → (List ℕ → Result X Reason → Type 0) → List ℕ → Result (Option X) Reason → Type 0
OrNone Read bs (Ok None) = bs ≡ codes "-"
OrNone Read bs (Ok (Some x)) = (bs ≢ codes "-") × Read bs (Ok x)
OrNone Read bs (Err e) = (bs ≢ codes "-") × Read bs (Err e)
