-- What the variables of a writer mean. Only clauses of private functions cite this.
use Rattle.std.specs.Prelude.{◌≡◌, ◌<◌, ◌+◌, ◌^◌, ℕ, true, List, [], ◌∷◌, ◌++◌, map}
use Rattle.std.specs.Borrow.{Bor}
use Rattle.std.specs.BTreeSet.{BTreeSet, contains}
use Rattle.std.specs.Ordering.{nat_cmp}
use Rattle.ml_pat.specs.Patterns.{Pattern}
use Rattle.mm_claims.specs.Variables as plain
use Rattle.mm_proof.specs.Searching.{all_forms, patterns_of}
use Rattle.mm_render.specs.declared.variables.Variable.{Variable}
use Rattle.mm_render.specs.declared.variables.Variable.TheVariants as variable
use Rattle.mm_claims.specs.Variables.{object_variable, pattern_variable, number_of, has_variable}
use Rattle.mm_claims.specs.ClaimVariables.{variables_in}
use Rattle.mm_claims.specs.AddedVariables.{added}

abbrev pub variable_of : Variable → plain.Variable
variable_of (variable.Object x) = object_variable x.0
variable_of (variable.Pattern i) = pattern_variable i

abbrev pub plain_variables : List Variable → List plain.Variable
plain_variables vs = map variable_of vs

-- among some variables, the object variables and the pattern variables are those with these numbers
pub record AreNumbersOf (objects patterns : BTreeSet ℕ) (vs : List plain.Variable) : Type 0 where
  pub object : (n : ℕ) → contains nat_cmp objects n ≡ has_variable vs (object_variable n)
  pub pattern : (n : ℕ) → contains nat_cmp patterns n ≡ has_variable vs (pattern_variable n)

-- each variable has a number of at most 64 bits
abbrev pub HaveNumbers : List plain.Variable → Type 0
HaveNumbers vs = (v : plain.Variable) → has_variable vs v ≡ true → number_of v < 2 ^ 64

-- the variables of the patterns on a stack, the top last
abbrev pub stack_variables : List Pattern → List plain.Variable
stack_variables [] = []
stack_variables (p ∷ ps) = stack_variables ps ++ variables_in p

-- A pattern was taken from a stack. Some of its variables were added, and its parts with the others
-- were put on the stack.
pub record VariablesAreTaken (of_pattern : List plain.Variable) (size : ℕ)
    (old new : List (Bor Pattern)) (vs vs' : List plain.Variable) : Type 0 where
  pub variables : added vs' (stack_variables (patterns_of new))
      ≡ added vs (of_pattern ++ stack_variables (patterns_of old))
  pub weight : all_forms (patterns_of new) < all_forms (patterns_of old) + size

-- patterns with these variables were put on a stack
pub record PutsVariables (of_patterns : List plain.Variable) (size : ℕ)
    (old new : List (Bor Pattern)) : Type 0 where
  pub variables : stack_variables (patterns_of new)
      ≡ of_patterns ++ stack_variables (patterns_of old)
  pub weight : all_forms (patterns_of new) < all_forms (patterns_of old) + size
