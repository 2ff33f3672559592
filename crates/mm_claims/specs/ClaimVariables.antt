-- The variables of a claim: those that occur in its conclusion and then in its hypotheses, each
-- once, in the order of first occurrence.
use Rattle.std.specs.Prelude.{if◌then◌else◌, List, [], ◌∷◌, ◌++◌, flat_map}
use Rattle.ml_pat.specs.Patterns.{Pattern, nullary, unary, binary, sorted, quantified, var, meta}
use Rattle.ml_pat.specs.Patterns.{constant}
use Rattle.mm_claims.specs.Variables.{Variable, object_variable, pattern_variable, has_variable}
use Rattle.mm_claims.specs.Blocks.{Claim}

-- the variables that occur in a pattern, bound or free, one after another
abbrev pub variables_in : Pattern → List Variable
variables_in (nullary c) = []
variables_in (binary c p q) = variables_in p ++ variables_in q
variables_in (unary c p) = variables_in p
variables_in (sorted c p s) = variables_in p
variables_in (quantified c x s p) = object_variable x ∷ variables_in p
variables_in (var x) = object_variable x ∷ []
variables_in (meta i) = pattern_variable i ∷ []
variables_in (constant c) = []

-- those of some variables that are not among others, each once, in the order of first occurrence
abbrev pub other_variables : List Variable → List Variable → List Variable
other_variables vs [] = []
other_variables vs (u ∷ us) =
    if has_variable vs u then other_variables vs us else (u ∷ other_variables (vs ++ u ∷ []) us)

abbrev pub claim_variables : List Pattern → Pattern → List Variable
claim_variables hypotheses conclusion =
    other_variables [] (flat_map variables_in (conclusion ∷ hypotheses))

-- a conclusion under hypotheses, as a claim
abbrev pub claim_of : List Pattern → Pattern → Claim
claim_of hypotheses conclusion = record {
  variables = claim_variables hypotheses conclusion;
  hypotheses = hypotheses;
  conclusion = conclusion;
}
