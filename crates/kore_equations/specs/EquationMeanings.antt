-- The equations that axioms mean.
use Rattle.std.specs.Prelude.{◌≡◌, ℕ, List, [], map, length, Some, None}
use Rattle.kore_text.specs.Trees.{AxiomDeclaration}
use Rattle.rule_core.specs.Rules.{Equation}
use Rattle.rule_core.specs.declared.signature.Signature.{Signature}
use Rattle.rule_core.specs.declared.signature.SymInfo.{SymInfo}
use Rattle.kore_check.specs.Folds.{unfolded}
use Rattle.kore_check.specs.PatternMeanings.{with_all_variables, Means, AllMean}
use Rattle.kore_check.specs.PartNames.{names_in_all}
use Rattle.kore_check.specs.PatternSorts.{symbol_named}
use Rattle.kore_shapes.specs.Statements.{StatedEquation}
use Rattle.kore_shapes.specs.EquationForms.{EquationParts}
use Rattle.kore_axioms.specs.AxiomClasses.{equates, axiom_class}
use Rattle.kore_axioms.specs.Conditions.{tested_pattern}
use Rattle.kore_axioms.specs.AxiomMeanings.{MeansTest}
use Rattle.kore_axioms.specs.Priorities.{priority_of}
use Rattle.kore_equations.specs.ReadableSides.{all_read}
use Rattle.kore_equations.specs.ReadableEquations.{IsReadable, condition_of_equation}

-- the axiom states this equation of the function of this name, which has this declaration
pub record StatesEquation (sig : Signature) (f : List ℕ) (a : AxiomDeclaration)
    (stated : StatedEquation) (info : SymInfo) : Type 0 where
  pub class : axiom_class sig a ≡ equates stated
  pub function : stated.function ≡ f
  pub declared : symbol_named sig f ≡ Some info

-- The stated equation of these parts is this one. Its variables are those of the patterns that the
-- arguments match, names too, in the order of their first occurrence. Its names are those that these
-- patterns give, argument by argument.
pub record MeansParts (sig : Signature) (a : AxiomDeclaration) (stated : StatedEquation)
    (parts : EquationParts) (e : Equation) : Type 0 where
  pub variables : List (List ℕ × ℕ)
  pub numbered : variables ≡ with_all_variables sig [] (all_read parts.patterns)
  pub parameters : e.parameters ≡ length parts.parameters
  pub means_arguments : AllMean sig variables (all_read parts.patterns) e.arguments
  pub names : e.names ≡ names_in_all sig variables [] 0 (all_read parts.patterns)
  pub means_condition : MeansTest sig variables
      (tested_pattern (condition_of_equation sig stated parts))
      e.condition
  pub means_right : Means sig variables (unfolded parts.right) e.right
  pub sorts : e.variables ≡ map (λ (v : List ℕ × ℕ). v.1) variables
  pub priority : e.priority ≡ priority_of a.attributes
  pub place : e.place ≡ a.at

-- the axiom is this equation of the function of this name
pub record MeansEquation (sig : Signature) (f : List ℕ) (a : AxiomDeclaration) (e : Equation) :
    Type 0 where
  pub stated : StatedEquation
  pub info : SymInfo
  pub states : StatesEquation sig f a stated info
  pub parts : EquationParts
  pub readable : IsReadable sig a info stated parts
  pub means : MeansParts sig a stated parts e
  pub last_resort : e.last_resort ≡ None

-- the axiom states an equation of the function of this name, and it is not readable
pub record IsUnreadable (sig : Signature) (f : List ℕ) (a : AxiomDeclaration) : Type 0 where
  pub stated : StatedEquation
  pub info : SymInfo
  pub states : StatesEquation sig f a stated info
  pub unreadable : (parts : EquationParts) → IsReadable sig a info stated parts → ⊥
