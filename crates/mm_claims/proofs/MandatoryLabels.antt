-- The labels of the mandatory hypotheses of a claim.
use Rattle.std.proofs.Common.{◌≡◌, ℕ, ◌+◌, List, [], ◌∷◌, ◌++◌, map, refl, ap, ◌∙◌, sym}
use Rattle.std.proofs.lemmas.List.{map-append}
use Rattle.mm_text.specs.Bytes.{Token}
use Rattle.mm_database.specs.Frames.{label_of}
use Rattle.mm_database.specs.ProofText.{mandatory_labels}
use Rattle.ml_pat.specs.Patterns.{Pattern}
use Rattle.mm_proof.specs.Labels.{premise_label}
use Rattle.mm_claims.specs.PremiseLabels.{premise_labels}
use Rattle.mm_claims.specs.Variables.{Variable, variable_label}
use Rattle.mm_claims.specs.Blocks.{Claim, variable_float, premise_hypotheses, open_frame}

float_labels : (k : ℕ) (vs : List Variable)
    → map label_of (map (variable_float k) vs) ≡ map (variable_label k) vs
float_labels k [] = refl
float_labels k (v ∷ vs) =
    ap (λ (ls : List Token). variable_label k v ∷ ls) (float_labels k vs)

hypothesis_labels : (names : List Token) (k j : ℕ) (ps : List Pattern)
    → map label_of (premise_hypotheses names k j ps) ≡ premise_labels k j ps
hypothesis_labels names k j [] = refl
hypothesis_labels names k j (p ∷ ps) =
    ap (λ (ls : List Token). premise_label k j ∷ ls) (hypothesis_labels names k (j + 1) ps)

-- they are those of its variables, and then those of its hypotheses, whatever is declared
pub mandatory_are : (names : List Token) (k : ℕ) (s : Claim)
    → mandatory_labels (open_frame names k s)
    ≡ map (variable_label k) s.variables ++ premise_labels k 0 s.hypotheses
mandatory_are names k s =
    map-append label_of (map (variable_float k) s.variables)
    (premise_hypotheses names k 0 s.hypotheses)
    ∙ ap (λ (ls : List Token). ls ++ map label_of (premise_hypotheses names k 0 s.hypotheses))
    (float_labels k s.variables)
    ∙ ap (λ (ls : List Token). map (variable_label k) s.variables ++ ls)
    (hypothesis_labels names k 0 s.hypotheses)

pub mandatory_same : (names others : List Token) (k : ℕ) (s : Claim)
    → mandatory_labels (open_frame names k s) ≡ mandatory_labels (open_frame others k s)
mandatory_same names others k s = mandatory_are names k s ∙ sym (mandatory_are others k s)
