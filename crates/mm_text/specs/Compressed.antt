-- The letters of a compressed proof (Metamath book, "Compressed Proof Format"). `A` to `T` are last
-- digits, 1 to 20. `U` to `Y` are the digits before the last one, 1 to 5, in base 5 without a zero.
-- So `A` is 1, `T` 20, `UA` 21, `YT` 120 and `UUA` 121. A `Z` saves the step of the number before
-- it.
use Rattle.std.specs.Prelude.{ℕ, ◌+◌, ◌-◌, ◌*◌, ◌^◌, ◌&&◌, ◌==◌, nat_le, if◌then◌else◌, List, []}
use Rattle.std.specs.Prelude.{◌∷◌, ◌++◌, Option, Some, None}

pub data Letter : Type 0 where
  last_digit : ℕ → Letter
  digit : ℕ → Letter
  saves : Letter
  no_letter : Letter

abbrev pub letter_of : ℕ → Letter
letter_of b =
    if nat_le 65 b && nat_le b 84 then last_digit (b - 64) else
    if nat_le 85 b && nat_le b 89 then digit (b - 84) else
    if b == 90 then saves else no_letter

-- what is before a letter: nothing, digits with this value, the last digit of a number, or a `Z`
pub data Before : Type 0 where
  beginning : Before
  digits : ℕ → Before
  a_number : Before
  a_save : Before

-- the value of the digits before
abbrev pub value_before : Before → ℕ
value_before beginning = 0
value_before (digits n) = n
value_before a_number = 0
value_before a_save = 0

abbrev pub before_next : Before → Letter → Before
before_next before (last_digit d) = a_number
before_next before (digit d) = digits (5 * value_before before + d)
before_next before saves = a_save
before_next before no_letter = a_save

-- a step of a compressed proof: the step with this number, or 'save the last step'
pub data CompressedStep : Type 0 where
  numbered : ℕ → CompressedStep
  save : CompressedStep

-- a `Z` is allowed only right after a number
abbrev pub save_after : Before → Option (List CompressedStep)
save_after beginning = None
save_after (digits n) = None
save_after a_number = Some (save ∷ [])
save_after a_save = None

-- the steps that a letter completes, if the letter is allowed there
abbrev pub steps_of_letter : Before → Letter → Option (List CompressedStep)
steps_of_letter before (last_digit d) = Some (numbered (20 * value_before before + d) ∷ [])
steps_of_letter before (digit d) = Some []
steps_of_letter before saves = save_after before
steps_of_letter before no_letter = None

-- the letters may end only after a number or a `Z`
abbrev pub steps_at_end : Before → Option (List CompressedStep)
steps_at_end beginning = None
steps_at_end (digits n) = None
steps_at_end a_number = Some []
steps_at_end a_save = Some []

-- two lists, one after the other, if both are there
abbrev pub joined_steps : Option (List CompressedStep) → Option (List CompressedStep)
    → Option (List CompressedStep)
joined_steps None steps = None
joined_steps (Some first) None = None
joined_steps (Some first) (Some rest) = Some (first ++ rest)

abbrev pub steps_from : Before → List ℕ → Option (List CompressedStep)
steps_from before [] = steps_at_end before
steps_from before (b ∷ bytes) =
    joined_steps (steps_of_letter before (letter_of b))
    (steps_from (before_next before (letter_of b)) bytes)

-- the steps that the letters of a compressed proof mean, if they mean any
abbrev pub steps_of : List ℕ → Option (List CompressedStep)
steps_of letters = steps_from beginning letters

-- the number that these letters spell
abbrev pub number_of_steps : Option (List CompressedStep) → Option ℕ
number_of_steps None = None
number_of_steps (Some []) = None
number_of_steps (Some (save ∷ steps)) = None
number_of_steps (Some (numbered n ∷ [])) = Some n
number_of_steps (Some (numbered n ∷ (step ∷ steps))) = None

abbrev pub number_of : List ℕ → Option ℕ
number_of letters = number_of_steps (steps_of letters)

-- a number that is at most 2 ^ 63
abbrev pub within_limit : Option ℕ → Option ℕ
within_limit None = None
within_limit (Some n) = if nat_le n (2 ^ 63) then Some n else None
