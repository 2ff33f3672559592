-- Reading the letters of a compressed proof.
use Rattle.std.specs.Prelude.{◌≡◌, ℕ, Bool, true, false, List, ◌++◌, map, flat_map, Option, None}
use Rattle.std.specs.Prelude.{option_map, option_and_then}
use Rattle.mm_text.specs.Reader.{words_of}
use Rattle.mm_text.specs.Compressed.{Before, steps_from}
use Rattle.mm_text.specs.declared.tokens.MmToken.{MmToken}
use Rattle.mm_database.specs.Steps.{Step}
use Rattle.mm_database.specs.ProofText.{steps_of_numbers}
use Rattle.mm_frame.specs.NumberedSteps.{Citation}
use Rattle.std.specs.Global.{Vec}
use Rattle.mm_frame.specs.Numbered.{NumberedHypothesis}
use Rattle.mm_frame.specs.PlainFrames.{mandatory_hypotheses}
use Rattle.mm_verify.specs.declared.letters.ReadSteps.{ReadSteps}
use Rattle.mm_verify.specs.declared.machine.Citation as code
use Rattle.mm_verify.specs.ProofSteps.{given_by}
use Rattle.mm_verify.specs.Running.{citation_of, step_of}
use Rattle.mm_verify.specs.Digits.{before_of}

-- what the remaining letters stand for, by how many steps are saved and what is before the letters
abbrev pub left_meanings : {A : Type 0} → List A → ℕ → Before → List ℕ → Option (List (Step A))
left_meanings table saved before letters =
    option_and_then (steps_of_numbers table saved) (steps_from before letters)

-- items put before others
abbrev pub behind_items : {A : Type 0} → List A → Option (List A) → Option (List A)
behind_items done left = option_map (λ others. done ++ others) left

-- what the elements of a vector cite
abbrev pub citations_in : Vec code.Citation → List Citation
citations_in v = map citation_of v.items

-- what the first numbers cite: the hypotheses, and then what is listed
abbrev pub table_of : List NumberedHypothesis → List code.Citation → List Citation
table_of hypotheses listed = given_by hypotheses ++ map citation_of listed

-- the steps that were read, and then those that the remaining letters stand for
abbrev pub meant : ReadSteps → List ℕ → Option (List (Step Citation))
meant r letters =
    behind_items (map step_of r.steps.items)
    (left_meanings (table_of (mandatory_hypotheses r.mandatory.now) r.listed.items) r.saved
    (before_of r.behind) letters)

-- Some letters are read. If the result is true, then these and any further letters stand for the
-- steps that were read and those of the further letters. If it is false, the letters stand for
-- nothing, whatever letters follow.
abbrev pub ReadsOn : ReadSteps → List ℕ → ReadSteps → Bool → Type 0
ReadsOn old letters new true = (others : List ℕ) → meant old (letters ++ others) ≡ meant new others
ReadsOn old letters new false = (others : List ℕ) → meant old (letters ++ others) ≡ None

-- the letters of some tokens, one after another
abbrev pub letters_of : List ℕ → List MmToken → List ℕ
letters_of bytes tokens = flat_map (λ t. t) (words_of bytes tokens)
