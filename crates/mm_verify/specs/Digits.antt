-- Letters of compressed proofs, as the code represents them.
use Rattle.std.specs.Prelude.{◌≤◌}
use Rattle.mm_text.specs.Compressed.{last_digit, digit, saves, no_letter, Before, beginning, digits}
use Rattle.mm_text.specs.Compressed.{a_number, a_save}
use Rattle.mm_text.specs.Compressed as compressed
use Rattle.mm_verify.specs.declared.digits.Letter.{Letter}
use Rattle.mm_verify.specs.declared.digits.Letter.TheVariants as letter
use Rattle.mm_verify.specs.declared.digits.Behind.{Behind}
use Rattle.mm_verify.specs.declared.digits.Behind.TheVariants as behind

abbrev pub letter_is : Letter → compressed.Letter
letter_is (letter.Last d) = last_digit d
letter_is (letter.Leading d) = digit d
letter_is letter.Save = saves
letter_is letter.Other = no_letter

-- a last digit is not 0
abbrev pub IsLetter : Letter → Type 0
IsLetter (letter.Last d) = 1 ≤ d
IsLetter (letter.Leading d) = Unit {0}
IsLetter letter.Save = Unit {0}
IsLetter letter.Other = Unit {0}

abbrev pub before_of : Behind → Before
before_of behind.Nothing = beginning
before_of (behind.Digits value) = digits value
before_of behind.Number = a_number
before_of behind.Save = a_save
