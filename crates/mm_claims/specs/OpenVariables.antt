-- The variables that a derivation needs in its block: those that occur in what is written for it.
-- With these variables it can be written after a text that fits, if all that it uses besides them
-- is declared names.
use Rattle.std.specs.Prelude.{ℕ, List, [], ◌∷◌, ◌++◌, flat_map}
use Rattle.ml_pat.specs.Patterns.{Pattern, meta}
use Rattle.ml_kernel.specs.Lemmas.{instance}
use Rattle.ml_kernel.specs.Renamings.{by_place}
use Rattle.ml_kernel.specs.Rules.{Instance, pattern, variable, sort}
use Rattle.ml_kernel.specs.Theorems.{Derivation, Derivations, hypothesis, own_axiom, by_rule, cited}
use Rattle.ml_kernel.specs.Theorems.{no_derivation, more_derivations}
use Rattle.mm_claims.specs.Variables.{Variable, object_variable, pattern_variable}
use Rattle.mm_claims.specs.Blocks.{Stated}
use Rattle.mm_claims.specs.ClaimVariables.{variables_in}

-- the variables in what is substituted for a variable of a rule, and for a variable of a claim
abbrev pub variables_for : Instance → List Variable
variables_for (pattern p) = variables_in p
variables_for (variable x) = object_variable x ∷ []
variables_for (sort s) = []

abbrev pub variables_at : List ℕ → List Pattern → Variable → List Variable
variables_at new ms (object_variable i) = object_variable (by_place new i) ∷ []
variables_at new ms (pattern_variable i) = variables_in (instance ms (meta i))

-- those in what is written for a derivation, one after another; `find` finds the claims that it
-- cites
abbrev mutual
  pub variables_of : (List Pattern → Pattern → Stated) → Derivation → List Variable
  variables_of find (hypothesis p) = []
  variables_of find (own_axiom n p new) = flat_map (variables_at new []) (find [] p).claim.variables
  variables_of find (by_rule r is ds) = flat_map variables_for is ++ all_variables_of find ds
  variables_of find (cited own q d ms ds) =
      flat_map (variables_at [] ms) (find own q).claim.variables ++ all_variables_of find ds

  pub all_variables_of : (List Pattern → Pattern → Stated) → Derivations → List Variable
  all_variables_of find no_derivation = []
  all_variables_of find (more_derivations d ds) = variables_of find d ++ all_variables_of find ds
