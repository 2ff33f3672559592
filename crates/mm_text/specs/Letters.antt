-- Laws on the letters of compressed proofs. The letters of a number before other letters mean that
-- number.
use Rattle.std.specs.Prelude.{◌≡◌, ℕ, List, [], ◌∷◌, ◌++◌, Some}
use Rattle.mm_text.specs.Compressed.{beginning, a_number, a_save, numbered, save, joined_steps}
use Rattle.mm_text.specs.Compressed.{steps_from, number_of}

-- the letters of a number mean that number, at the beginning and after another step; the letters
-- after them mean what they mean after a number
abbrev pub NumberInFront : Type 0
NumberInFront =
    (letters more : List ℕ) (n : ℕ) → number_of letters ≡ Some n →
    (steps_from beginning (letters ++ more)
    ≡ joined_steps (Some (numbered n ∷ [])) (steps_from a_number more)) ×
    (steps_from a_number (letters ++ more)
    ≡ joined_steps (Some (numbered n ∷ [])) (steps_from a_number more)) ×
    (steps_from a_save (letters ++ more)
    ≡ joined_steps (Some (numbered n ∷ [])) (steps_from a_number more))

-- a `Z` after a number means a save; the letters after it mean what they mean after a `Z`
abbrev pub SaveInFront : Type 0
SaveInFront =
    (more : List ℕ)
    → steps_from a_number (90 ∷ more) ≡ joined_steps (Some (save ∷ [])) (steps_from a_save more)
