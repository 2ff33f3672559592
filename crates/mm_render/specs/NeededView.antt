-- What of a derivation is still to be searched for variables. Only clauses of private functions
-- cite this.
use Rattle.std.specs.Prelude.{◌≡◌, ℕ, ◌+◌, ◌<◌, ◌≤◌, List, [], ◌∷◌, ◌++◌}
use Rattle.std.specs.Borrow.{Bor}
use Rattle.ml_pat.specs.Patterns.{Pattern}
use Rattle.ml_kernel.specs.StepsIn.{steps_in, all_steps}
use Rattle.ml_kernel.specs.Theorems.{Derivation, Derivations}
use Rattle.mm_claims.specs.Variables.{Variable}
use Rattle.mm_claims.specs.Blocks.{Stated}
use Rattle.mm_claims.specs.OpenVariables.{variables_of, all_variables_of}
use Rattle.mm_claims.specs.AddedVariables.{added}

-- the variables of the derivations on a stack, the top last; and how many steps these derivations
-- have
abbrev pub stack_needs : (List Pattern → Pattern → Stated) → List (Bor Derivation) → List Variable
stack_needs find [] = []
stack_needs find (d ∷ ds) = stack_needs find ds ++ variables_of find d.now

abbrev pub stack_steps : List (Bor Derivation) → ℕ
stack_steps [] = 0
stack_steps (d ∷ ds) = stack_steps ds + steps_in d.now

-- derivations were put on a stack
pub record PutsDerivations (ds : Derivations) (old new : List (Bor Derivation)) : Type 0 where
  pub needs : (find : List Pattern → Pattern → Stated)
      → stack_needs find new ≡ all_variables_of find ds ++ stack_needs find old
  pub steps : stack_steps new ≤ stack_steps old + all_steps ds

-- A derivation was taken from a stack. The variables of its last step were added, and the
-- derivations below it were put on the stack.
pub record StepIsTaken (find : List Pattern → Pattern → Stated) (d : Derivation)
    (old new : List (Bor Derivation))
    (vs vs' : List Variable) : Type 0 where
  pub needs : added vs' (stack_needs find new)
      ≡ added vs (variables_of find d ++ stack_needs find old)
  pub steps : stack_steps new < stack_steps old + steps_in d
