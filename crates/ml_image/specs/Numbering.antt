-- How an image numbers the variables of a pattern, as the code holds it.
use Rattle.std.specs.Prelude.{◌≡◌, ℕ, ◌+◌, ◌-◌, ◌^◌, List, length, slice_index_or}
use Rattle.ml_image.specs.LastResorts.{number_from}
use Rattle.ml_image.specs.declared.numbering.Numbering.{Numbering}
use Rattle.ml_image.specs.declared.numbering.Numbering.TheVariants.{Shifted, Listed}

-- the number of a variable
abbrev pub number_in : Numbering → ℕ → ℕ
number_in (Shifted first) = λ x. first + x
number_in (Listed numbers) = λ x. slice_index_or numbers.now x 0

-- how many variables have a number
abbrev pub room : Numbering → ℕ
room (Shifted first) = 2 ^ 32 - first
room (Listed numbers) = length numbers.now

-- the list has the numbers of `count` variables, if those in this order are numbered from `first`
pub record ListsNumbers (first : ℕ) (order : List ℕ) (count : ℕ) (numbers : List ℕ) : Type 0 where
  pub long : length numbers ≡ count
  pub each : (x : ℕ) → slice_index_or numbers x 0 ≡ number_from first order x
