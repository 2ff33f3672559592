-- Equations with the names of their variables.
use Rattle.std.specs.Prelude.{◌≡◌, ℕ, List}
use Rattle.kore_text.specs.Trees.{AxiomDeclaration}
use Rattle.rule_core.specs.ProgramView.{function_equation}
use Rattle.rule_core.specs.Rules.{Equation}
use Rattle.rule_core.specs.declared.rules.Equation.{Equation as ListedEquation}
use Rattle.rule_core.specs.declared.signature.Signature.{Signature}
use Rattle.kore_check.specs.VariableNames.{named_sorts}
use Rattle.kore_equations.specs.EquationMeanings.{MeansEquation}
use Rattle.kore_equations.specs.LastResortEquations.{MeansLastResort}

-- The axiom is this equation of a program. The equation's variables have their names in the axiom.
pub record MeansNamedEquation (sig : Signature) (f : List ℕ) (a : AxiomDeclaration)
    (e : ListedEquation) : Type 0 where
  pub means : MeansEquation sig f a (function_equation e)
  pub names : named_sorts e.vars.items ≡ means.means.variables

-- the same for an equation of the last resort beside these others
pub record MeansNamedLastResort (sig : Signature) (f : List ℕ) (es : List Equation)
    (a : AxiomDeclaration) (e : ListedEquation) : Type 0 where
  pub means : MeansLastResort sig f es a (function_equation e)
  pub names : named_sorts e.vars.items ≡ means.means.variables
