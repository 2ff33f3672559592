-- The bytes of decimal numbers.
use Rattle.std.proofs.Common.{◌≡◌, ℕ, ◌+◌, ◌<◌, ◌%◌, ◌^◌, Bool, true, false, List, [], ◌∷◌, ◌++◌}
use Rattle.std.proofs.Common.{refl, ap, ◌∙◌, sym, arith}
use Rattle.std.specs.Prelude.{decimal, ◌&&◌}
use Rattle.std.specs.List.{list_all}
use Rattle.std.proofs.lemmas.Fmt.{decimal_by_steps, decimal_is_IsNumeral}
use Rattle.std.specs.Str.Parse.{digits_value}
use Rattle.ml_pat.proofs.LeafLaws.{both_true}

list_all-append : (test : ℕ → Bool) (xs ys : List ℕ) → list_all test xs ≡ true
    → list_all test ys ≡ true → list_all test (xs ++ ys) ≡ true
list_all-append test [] ys h k = k
list_all-append test (x ∷ xs) ys h k = go (test x) h (list_all-append test xs ys)
  where
    go : (b : Bool) → (b && list_all test xs) ≡ true
        → (list_all test xs ≡ true → list_all test ys ≡ true → list_all test (xs ++ ys) ≡ true)
        → (b && list_all test (xs ++ ys)) ≡ true
    go true h behind = behind h k
    go false h behind = absurd (cc)

-- each byte of a decimal number passes a test that the ten digits pass
pub list_all-decimal : (test : ℕ → Bool) → ((d : ℕ) → d < 10 → test (48 + d) ≡ true) → (n : ℕ)
    → n < 2 ^ 64 → list_all test (decimal n) ≡ true
list_all-decimal test digit n h =
    decimal_by_steps (λ m ds. list_all test ds ≡ true)
    (λ m small. both_true (test (48 + m)) true (digit m small) refl)
    (λ m ds large below. list_all-append test ds ((48 + m % 10) ∷ []) below
    (both_true (test (48 + m % 10)) true (digit (m % 10) (omega arith)) refl)) n h

-- numbers with the same digits are equal
pub decimal-same : (m n : ℕ) → m < 2 ^ 64 → n < 2 ^ 64 → decimal m ≡ decimal n → m ≡ n
decimal-same m n h k same =
    sym (decimal_is_IsNumeral m h).1 ∙ ap (digits_value 10) same ∙ (decimal_is_IsNumeral n k).1
