-- The number of at most ten digits, digit by digit.
use Rattle.std.proofs.Common.{◌≡◌, ℕ, ◌+◌, ◌-◌, ◌*◌, ◌<◌, ◌≤◌, ◌^◌, true, List, [], ◌∷◌, length}
use Rattle.std.proofs.Common.{Some, refl, arith, rules}
use Rattle.std.specs.Str.{all_ascii_digits}
use Rattle.std.proofs.lemmas.Bool.{lt-ltb, le-leb}
use Rattle.std.proofs.lemmas.Int.Digits.{digits_value-lt}
use Rattle.std.proofs.lemmas.Str.Parse.{IsNumeralModel, numerals_by_fold}
use native.Mathlib.Nat.{pow-le-pow_right}
use Rattle.kore_check.specs.ValueTexts.{append_digits}
use Rattle.hint_file.specs.HintLines.{short_number}

own : IsNumeralModel (λ ds. all_ascii_digits ds ≡ true) (append_digits 0)
own = numerals_by_fold _ (search rules) append_digits (search rules)

pub ten_digits : (ds : List ℕ) → all_ascii_digits ds ≡ true → length ds ≤ 10
    → append_digits 0 ds < 10 ^ 10
ten_digits ds all short =
    let digits = own.to ds all in
    let most : 10 ^ length ds ≤ 10 ^ 10 = pow-le-pow_right (omega arith) short in
    omega (arith, own.same ds digits, digits_value-lt 10 ds digits, most)

pub at_least : (n : ℕ) (ds : List ℕ) → n ≤ append_digits n ds
at_least n [] = omega arith
at_least n (b ∷ ds) = omega (arith, at_least (n * 10 + (b - 48)) ds)

pub number_is : (ds : List ℕ) → all_ascii_digits ds ≡ true → length ds ≤ 10 → 0 < length ds
    → short_number ds ≡ Some (append_digits 0 ds)
number_is ds all short some = rw (le-leb (length ds) 10 short, all, lt-ltb 0 (length ds) some) refl
