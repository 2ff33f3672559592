-- Decimal numbers as bytes: they are digits, which stand in names and in strings, and they have
-- values.
use Rattle.std.proofs.Common.{◌≡◌, ◌<◌, ◌^◌, ℕ, true, false, ◌==◌, List, [], ◌∷◌, length, Some}
use Rattle.std.proofs.Common.{refl, ap, ◌∙◌, arith, rules}
use Rattle.std.specs.Prelude.{pos}
use Rattle.std.specs.Char.{is_ascii_digit}
use Rattle.std.specs.Fmt.{decimal}
use Rattle.std.specs.Str.{all_ascii_digits}
use Rattle.std.proofs.lemmas.Bool.{lt-ltb}
use Rattle.std.proofs.lemmas.Bool.Decides.{nat_tests}
use Rattle.std.proofs.lemmas.Fmt.{digits_decimal, digits_value-decimal, decimal_nonempty}
use Rattle.std.proofs.lemmas.Str.Parse.{IsNumeralModel, numerals_by_fold}
use Rattle.rule_core.proofs.Belows.{both_true}
use Rattle.kore_lex.specs.Pieces.{is_word}
use Rattle.kore_lex.specs.Tokens.{AllWord}
use Rattle.kore_check.specs.ValueTexts.{append_digits, number_of_digits, not_negative}
use Rattle.kore_check.specs.ValueTexts.{integer_of_text}

-- bytes of ASCII that are neither a quote nor a backslash
abbrev pub AllPlain : List ℕ → Type 0
AllPlain [] = Unit {0}
AllPlain (c ∷ cs) = ((c == 34) ≡ false) × ((c == 92) ≡ false) × (c < 128) × AllPlain cs

own : IsNumeralModel (λ ds. all_ascii_digits ds ≡ true) (append_digits 0)
own = numerals_by_fold _ (search rules) append_digits (search rules)

decimal-digits : (i : ℕ) → i < 2 ^ 64 → all_ascii_digits (decimal i) ≡ true
decimal-digits i small = digits_decimal own i small

digit-word : (c : ℕ) → is_ascii_digit c ≡ true → is_word c ≡ true
digit-word c h = grind (arith, nat_tests)

digit-plain : (c : ℕ) → is_ascii_digit c ≡ true → ((c == 34) ≡ false) × ((c == 92) ≡ false) ×
    (c < 128)
digit-plain c h = (grind (arith, nat_tests), grind (arith, nat_tests), grind (arith, nat_tests))

digits-word : (ds : List ℕ) → all_ascii_digits ds ≡ true → AllWord ds
digits-word [] all = tt
digits-word (c ∷ cs) all =
    let p = both_true (is_ascii_digit c) (all_ascii_digits cs) all in
    (digit-word c p.0, digits-word cs p.1)

digits-plain : (ds : List ℕ) → all_ascii_digits ds ≡ true → AllPlain ds
digits-plain [] all = tt
digits-plain (c ∷ cs) all =
    let p = both_true (is_ascii_digit c) (all_ascii_digits cs) all in
    let d = digit-plain c p.0 in (d.0, d.1, d.2, digits-plain cs p.1)

pub decimal-word : (i : ℕ) → i < 2 ^ 64 → AllWord (decimal i)
decimal-word i small = digits-word (decimal i) (decimal-digits i small)

pub decimal-plain : (i : ℕ) → i < 2 ^ 64 → AllPlain (decimal i)
decimal-plain i small = digits-plain (decimal i) (decimal-digits i small)

-- ---- the value

digit-signs : (c : ℕ) → is_ascii_digit c ≡ true → ((c == 45) ≡ false) × ((c == 43) ≡ false)
digit-signs c h = (grind (arith, nat_tests), grind (arith, nat_tests))

digits-value : (ds : List ℕ) (i : ℕ) → all_ascii_digits ds ≡ true → 0 < length ds
    → append_digits 0 ds ≡ i → i < 2 ^ 64
    → integer_of_text ds ≡ Some (pos i)
digits-value [] i all some is small = absurd (omega arith)
digits-value (c ∷ cs) i all some is small =
    let p = both_true (is_ascii_digit c) (all_ascii_digits cs) all in
    let s = digit-signs c p.0 in
    let n : number_of_digits (c ∷ cs) ≡ Some i = rw (all, lt-ltb 0 (length (c ∷ cs)) some)
    (ap (λ (n : ℕ). Some n) is) in
    rw (s.0, s.1) (ap not_negative n ∙ rw (lt-ltb i (2 ^ 127) (omega (arith, small))) refl)

pub decimal-value : (i : ℕ) → i < 2 ^ 64 → integer_of_text (decimal i) ≡ Some (pos i)
decimal-value i small =
    digits-value (decimal i) i (decimal-digits i small) (decimal_nonempty i small)
    (digits_value-decimal own i small) small
