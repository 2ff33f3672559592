-- Which hypotheses are mandatory, by the numbers of symbols.
use Rattle.std.specs.Prelude.{ℕ, Bool, true, false, ◌||◌, List}
use Rattle.std.specs.List.{list_any}
use Rattle.mm_frame.specs.Numbered.{NumberedHypothesis}
use Rattle.mm_frame.specs.PlainFrames.{has_number}
use Rattle.mm_database.specs.Frames.{floating, essential}

abbrev pub number_stands_in : ℕ → NumberedHypothesis → Bool
number_stands_in n (floating label typecode variable) = false
number_stands_in n (essential label statement) = has_number statement n

-- the number occurs in the statement or in an active `$e`
abbrev pub is_needed_number : List NumberedHypothesis → List ℕ → ℕ → Bool
is_needed_number hypotheses statement n =
    has_number statement n || list_any (number_stands_in n) hypotheses

-- the hypothesis is mandatory: it is an `$e`, or the `$f` of a needed variable
abbrev pub is_mandatory_number : (ℕ → Bool) → NumberedHypothesis → Bool
is_mandatory_number needed (floating label typecode variable) = needed variable
is_mandatory_number needed (essential label statement) = true
