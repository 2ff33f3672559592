-- Laws on the numbers of compressed proofs.
use Rattle.std.specs.Prelude.{◌≡◌, ◌≤◌, ℕ, ◌^◌, List, ◌++◌, Some}
use Rattle.mm_text.specs.Compressed.{number_of, within_limit}
use Rattle.mm_text.specs.Numbers.{Spells}

-- a number has one spelling
abbrev pub OneSpelling : Type 0
OneSpelling = (n : ℕ) (xs ys : List ℕ) → number_of xs ≡ Some n → number_of ys ≡ Some n → xs ≡ ys

-- letters that were appended for a number are read as that number
abbrev pub ReadBack : Type 0
ReadBack = (n : ℕ) (old letters : List ℕ) → n ≤ 2 ^ 63 → Spells n old (old ++ letters)
    → within_limit (number_of letters) ≡ Some n
