-- The number of a short text of digits.
use Rattle.std.proofs.Common.{◌≡◌, ◌<◌, ◌≤◌, ◌^◌, ℕ, true, List, [], ◌∷◌, length, Some, refl, ◌∙◌}
use Rattle.std.proofs.Common.{ap, arith, rules}
use Rattle.std.specs.Prelude.{Result, Ok, Err}
use Rattle.std.specs.Str.{all_ascii_digits}
use Rattle.std.specs.Str.Parse.{ParsesUnsigned}
use Rattle.std.specs.Result.{result_ok}
use Rattle.std.proofs.lemmas.Bool.{lt-ltb, le-leb}
use Rattle.std.proofs.lemmas.Int.Digits.{digits_value-lt}
use Rattle.std.proofs.lemmas.Str.Parse.{IsNumeralModel, numerals_by_fold, parse_digits, parse_gives}
use native.Mathlib.Nat.{pow-le-pow_right}
use Rattle.kore_check.specs.ValueTexts.{append_digits}
use Rattle.kore_axioms.specs.Priorities.{short_number}

own : IsNumeralModel (λ ds. all_ascii_digits ds ≡ true) (append_digits 0)
own = numerals_by_fold _ (search rules) append_digits (search rules)

small : (ds : List ℕ) → all_ascii_digits ds ≡ true → length ds ≤ 9 → append_digits 0 ds < 2 ^ 32
small ds all short =
    let digits = own.to ds all in
    let most : 10 ^ length ds ≤ 10 ^ 9 = pow-le-pow_right (omega arith) short in
    omega (arith, own.same ds digits, digits_value-lt 10 ds digits, most)

number_is : (ds : List ℕ) → all_ascii_digits ds ≡ true → length ds ≤ 9 → 0 < length ds
    → Some (append_digits 0 ds) ≡ short_number (Some ds)
number_is ds all short some = rw (le-leb (length ds) 9 short, all, lt-ltb 0 (length ds) some) refl

pub parsed : {E : Type 0} (bs : List ℕ) (r : Result ℕ E) → ParsesUnsigned 32 10 bs r → length bs ≤ 9
    → all_ascii_digits bs ≡ true → result_ok r ≡ short_number (Some bs)
parsed {E} [] (Ok n) h short all =
    let none : 0 < length {A = ℕ} [] = (parse_digits own {E = E} 32 [] (Ok n) h all).0.0 in
    absurd (omega arith)
parsed [] (Err e) h short all = refl
parsed (b ∷ bytes) r h short all =
    ap result_ok
    (parse_gives own 32 (b ∷ bytes) r h all (omega arith) (small (b ∷ bytes) all short))
    ∙ number_is (b ∷ bytes) all short (omega arith)
