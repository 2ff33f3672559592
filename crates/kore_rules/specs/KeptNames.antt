-- The names of the variables of a program.
use Rattle.std.specs.Prelude.{◌≡◌, ◌⊎◌, ℕ, List, Contains}
use Rattle.kore_text.specs.Trees.{AxiomDeclaration}
use Rattle.rule_core.specs.BoundVariables.{IsEquationAt}
use Rattle.rule_core.specs.ProgramView.{function_equation}
use Rattle.rule_core.specs.declared.rules.Equation.{Equation as ListedEquation}
use Rattle.rule_core.specs.declared.rules.Program.{Program}
use Rattle.rule_core.specs.declared.signature.Signature.{Signature}
use Rattle.kore_check.specs.VariableNames.{named_sorts}
use Rattle.kore_axioms.specs.NamedRules.{MeansNamedRule}
use Rattle.kore_equations.specs.NamedEquations.{MeansNamedEquation}
use Rattle.kore_rules.specs.EquationsAmong.{IsLastResortAmong}

-- The axiom is this equation of the last resort of a program. The equation's variables have their
-- names in the axiom.
pub record IsNamedLastResort (sig : Signature) (axioms : List AxiomDeclaration) (f : List ℕ)
    (a : AxiomDeclaration) (e : ListedEquation) : Type 0 where
  pub among : IsLastResortAmong sig axioms f a (function_equation e)
  pub names : named_sorts e.vars.items ≡ among.means.means.variables

-- the axiom is this equation of a program, of a function of some name
abbrev pub IsSomeEquation : Signature → List AxiomDeclaration → AxiomDeclaration → ListedEquation
    → Type 0
IsSomeEquation sig axioms a e =
    (f : List ℕ) × (MeansNamedEquation sig f a e ⊎ IsNamedLastResort sig axioms f a e)

-- each of these things is what one of the axioms is
abbrev pub AreOf : {X : Type 0} → (AxiomDeclaration → X → Type 0) → List AxiomDeclaration → List X
    → Type 0
AreOf {X} Is axioms xs =
    (x : X) → Contains xs x → (a : AxiomDeclaration) × Contains axioms a × Is a x

-- The variables of the rules and equations of a program have their names in the axioms.
pub record KeepsNames (declared : Signature) (axioms : List AxiomDeclaration) (p : Program) :
    Type 0 where
  pub rules : AreOf (MeansNamedRule declared) axioms p.rules.items
  pub equations : (f i : ℕ) (e : ListedEquation) → IsEquationAt p f i e
      → (a : AxiomDeclaration) × Contains axioms a × IsSomeEquation declared axioms a e
