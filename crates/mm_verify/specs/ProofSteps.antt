-- The steps that the text of a proof names, from what scopes hold.
use Rattle.std.specs.Prelude.{◌≡◌, ℕ, Bool, false, ◌||◌, if◌then◌else◌, List, []}
use Rattle.std.specs.Prelude.{◌∷◌, ◌++◌, map, flat_map, Option, None, option_map, option_and_then}
use Rattle.std.specs.Prelude.{codes, bytes_eq}
use Rattle.mm_text.specs.Bytes.{Token, has_token}
use Rattle.mm_database.specs.Frames.{label_of, statement_of}
use Rattle.mm_database.specs.Steps.{Step, cites}
use Rattle.mm_database.specs.ProofText.{before_close, behind_close, lettered_steps}
use Rattle.mm_frame.specs.Numbered.{NumberedHypothesis, NumberedFrame}
use Rattle.mm_frame.specs.NumberedSteps.{Citation, gives}
use Rattle.mm_scope.specs.ScopeState.{ScopeState}
use Rattle.mm_scope.specs.StateReads.{is_mandatory_named}
use Rattle.mm_verify.specs.Citing.{all_cited}

-- what the labels of mandatory hypotheses cite, and the labels themselves
abbrev pub given_by : List NumberedHypothesis → List Citation
given_by hypotheses = map (λ x. gives (statement_of x)) hypotheses

abbrev pub labels_in : List NumberedHypothesis → List Token
labels_in hypotheses = map label_of hypotheses

-- the labels of a frame's hypotheses are those of the active ones that its statement makes
-- mandatory
abbrev pub IsLabelled : ScopeState → NumberedFrame → Type 0
IsLabelled h f =
    (label : Token)
    → has_token (labels_in f.hypotheses) label ≡ is_mandatory_named h f.statement label

-- one of the second labels is one of the first, or occurs twice
abbrev pub clashes : List Token → List Token → Bool
clashes others [] = false
clashes others (label ∷ labels) =
    (has_token others label || has_token labels label) || clashes others labels

-- what the labels that a compressed proof lists cite
abbrev pub listed_citations : ScopeState → List NumberedHypothesis → List Token
    → Option (List Citation)
listed_citations h hypotheses listed =
    if clashes (labels_in hypotheses) listed then None else all_cited h listed

-- the steps that letters stand for, by a table of what the first numbers cite
abbrev pub lettered : List NumberedHypothesis → List ℕ → List Citation
    → Option (List (Step Citation))
lettered hypotheses letters listed = lettered_steps (given_by hypotheses ++ listed) letters

-- the steps of the tokens after the `(` of a compressed proof
abbrev pub compressed_proof : ScopeState → List NumberedHypothesis → List Token
    → Option (List (Step Citation))
compressed_proof h hypotheses tokens =
    if has_token tokens (codes ")")
    then option_and_then (lettered hypotheses (flat_map (λ t. t) (behind_close tokens)))
    (listed_citations h hypotheses (before_close tokens))
    else None

-- steps that only cite
abbrev pub citing : {A : Type 0} → List A → List (Step A)
citing citations = map (λ x. cites x) citations

abbrev pub steps_named : ScopeState → List NumberedHypothesis → List Token
    → Option (List (Step Citation))
steps_named h hypotheses [] = None
steps_named h hypotheses (token ∷ tokens) =
    if bytes_eq token (codes "(") then compressed_proof h hypotheses tokens
    else option_map citing (all_cited h (token ∷ tokens))
