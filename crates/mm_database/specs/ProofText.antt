-- The steps that the text of a proof means (Metamath book, "The Proof" and "Compressed Proof
-- Format"). A label is a step that cites it. A number of a compressed proof is a label that may be
-- cited, or a saved step.
use Rattle.std.specs.Prelude.{ℕ, zero, suc, ◌+◌, ◌-◌, Bool, not, ◌&&◌, ◌||◌, nat_lt, if◌then◌else◌}
use Rattle.std.specs.Prelude.{List, [], ◌∷◌, ◌++◌, map, flat_map, Option, Some, None, is_some}
use Rattle.std.specs.Prelude.{option_and_then, codes, bytes_eq}
use Rattle.std.specs.List.{list_any, list_all}
use Rattle.mm_text.specs.Bytes.{Token, has_token, has_repeated}
use Rattle.mm_text.specs.Compressed.{CompressedStep, numbered, save, steps_of}
use Rattle.mm_database.specs.Frames.{label_of, Frame}
use Rattle.mm_database.specs.Database.{Context}
use Rattle.mm_database.specs.Proofs.{active_hypothesis}
use Rattle.mm_database.specs.Steps.{Step, cites, saves, repeats}

-- an active hypothesis or an earlier assertion has the label
abbrev pub is_citable : Context → Token → Bool
is_citable c label = is_some (active_hypothesis c label) || is_some (c.frames label)

-- what a number means: the first numbers, from 0 on, are the entries of a table; the next ones are
-- the saved steps, and `saved` is how many there are
abbrev pub step_of_number : {A : Type 0} → List A → ℕ → ℕ → Option (Step A)
step_of_number [] saved n = if nat_lt n saved then Some (repeats n) else None
step_of_number (x ∷ table) saved zero = Some (cites x)
step_of_number (x ∷ table) saved (suc n) = step_of_number table saved n

-- a step before steps, if both are there
abbrev pub with_step : {A : Type 0} → Option A → Option (List A) → Option (List A)
with_step None steps = None
with_step (Some step) None = None
with_step (Some step) (Some steps) = Some (step ∷ steps)

abbrev pub meaning_of : {A : Type 0} → List A → ℕ → CompressedStep → Option (Step A)
meaning_of table saved (numbered n) = step_of_number table saved (n - 1)
meaning_of table saved save = Some saves

abbrev pub saved_after : ℕ → CompressedStep → ℕ
saved_after saved (numbered n) = saved
saved_after saved save = saved + 1

-- what steps mean; a number names only a step that was saved before it
abbrev pub steps_of_numbers : {A : Type 0} → List A → ℕ → List CompressedStep
    → Option (List (Step A))
steps_of_numbers table saved [] = Some []
steps_of_numbers table saved (step ∷ steps) =
    with_step (meaning_of table saved step) (steps_of_numbers table (saved_after saved step) steps)

-- the tokens before the first `)`, and those after it
abbrev pub before_close : List Token → List Token
before_close [] = []
before_close (token ∷ tokens) =
    if bytes_eq token (codes ")") then [] else token ∷ before_close tokens

abbrev pub behind_close : List Token → List Token
behind_close [] = []
behind_close (token ∷ tokens) = if bytes_eq token (codes ")") then tokens else behind_close tokens

-- a compressed proof lists labels that may be cited, each once; no label is one of a mandatory
-- hypothesis
abbrev pub are_listed : Context → List Token → List Token → Bool
are_listed c mandatory listed =
    list_all (is_citable c) listed
    && (not (has_repeated listed) && not (list_any (has_token mandatory) listed))

abbrev pub mandatory_labels : Frame → List Token
mandatory_labels f = map label_of f.hypotheses

-- the steps that letters mean; their numbers name the entries of this table
abbrev pub lettered_steps : {A : Type 0} → List A → List ℕ → Option (List (Step A))
lettered_steps table letters = option_and_then (steps_of_numbers table 0) (steps_of letters)

-- the steps of the tokens after the `(` of a compressed proof
abbrev pub compressed_steps : Context → Frame → List Token → Option (List (Step Token))
compressed_steps c f tokens =
    if has_token tokens (codes ")") && are_listed c (mandatory_labels f) (before_close tokens)
    then lettered_steps (mandatory_labels f ++ before_close tokens)
    (flat_map (λ t. t) (behind_close tokens))
    else None

-- the steps of a proof, if its text means steps; a compressed proof begins with `(`
abbrev pub proof_steps : Context → Frame → List Token → Option (List (Step Token))
proof_steps c f [] = None
proof_steps c f (token ∷ tokens) =
    if bytes_eq token (codes "(") then compressed_steps c f tokens else
    if list_all (is_citable c) (token ∷ tokens)
    then Some (map (λ label. cites label) (token ∷ tokens)) else None
