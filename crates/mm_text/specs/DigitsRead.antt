-- The letters of a number one by one. Only clauses of private functions cite this.
use Rattle.std.specs.Prelude.{ℕ, List, [], ◌∷◌, Option, Some, None}
use Rattle.mm_text.specs.Compressed.{Letter, last_digit, digit, saves, no_letter, letter_of, digits}
use Rattle.mm_text.specs.Compressed.{steps_from, number_of_steps, within_limit}

abbrev pub leading_value : Letter → Option ℕ
leading_value (last_digit d) = None
leading_value (digit d) = Some d
leading_value saves = None
leading_value no_letter = None

abbrev pub last_value : Letter → Option ℕ
last_value (last_digit d) = Some d
last_value (digit d) = None
last_value saves = None
last_value no_letter = None

abbrev pub head_letter : List ℕ → Letter
head_letter [] = no_letter
head_letter (b ∷ letters) = letter_of b

-- the number whose leading digits have the value `before`, and whose other letters are `letters`
abbrev pub number_left : ℕ → List ℕ → Option ℕ
number_left before letters = within_limit (number_of_steps (steps_from (digits before) letters))
