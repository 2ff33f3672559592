-- The equations of a function among the axioms of a definition. One of the last resort (`owise`) is
-- read beside the other equations of its function.
use Rattle.std.specs.Prelude.{◌≡◌, ◌↔◌, ◌⊎◌, ◌&&◌, ℕ, List, Bool, true, false, map, Contains, codes}
use Rattle.std.specs.Prelude.{count_by}
use Rattle.std.specs.Str.{bytes_eq}
use Rattle.kore_text.specs.Trees.{AxiomDeclaration}
use Rattle.rule_core.specs.Rules.{Equation, AreInOrder}
use Rattle.rule_core.specs.declared.signature.Signature.{Signature}
use Rattle.kore_sig.specs.Attributes.{has_attribute}
use Rattle.kore_axioms.specs.AxiomClasses.{AxiomClass, equates, axiom_class}
use Rattle.kore_equations.specs.EquationMeanings.{MeansEquation}
use Rattle.kore_equations.specs.LastResortEquations.{MeansLastResort}

-- the list has exactly the equations that axioms are, in the order of trial
pub record AreTried (Is : AxiomDeclaration → Equation → Type 0) (axioms : List AxiomDeclaration)
    (es : List Equation) : Type 0 where
  pub just : (e : Equation) → Contains es e ↔ ((a : AxiomDeclaration) × Contains axioms a × Is a e)
  pub in_order : AreInOrder (map (λ (e : Equation). (e.priority, e.place)) es)

-- these are all equations of the function that are none of the last resort
abbrev pub AreOrdinary : Signature → List AxiomDeclaration → List ℕ → List Equation → Type 0
AreOrdinary sig axioms f es = AreTried (MeansEquation sig f) axioms es

-- an axiom of this class states an equation of the function
abbrev pub is_equation_of : List ℕ → AxiomClass → Bool
is_equation_of f (equates e) = bytes_eq e.function f
is_equation_of f _ = false

abbrev pub is_last_resort : AxiomDeclaration → Bool
is_last_resort a = has_attribute (codes "owise") a.attributes

-- the axiom states one of the last resort
abbrev pub states_last_resort : Signature → List ℕ → AxiomDeclaration → Bool
states_last_resort sig f a = is_last_resort a && is_equation_of f (axiom_class sig a)

-- The axiom is this equation of the last resort beside the other equations. No second axiom states
-- one of the same function.
pub record IsLastResortAmong (sig : Signature) (axioms : List AxiomDeclaration) (f : List ℕ)
    (a : AxiomDeclaration) (e : Equation) : Type 0 where
  pub only : count_by (states_last_resort sig f) axioms ≡ 1
  pub others : List Equation
  pub ordinary : AreOrdinary sig axioms f others
  pub means : MeansLastResort sig f others a e

-- the axiom is this equation of the function
abbrev pub IsEquationAmong : Signature → List AxiomDeclaration → List ℕ → AxiomDeclaration
    → Equation → Type 0
IsEquationAmong sig axioms f a e = MeansEquation sig f a e ⊎ IsLastResortAmong sig axioms f a e

-- the axiom states an equation of the function, and it is not readable
pub record IsUnreadableAmong (sig : Signature) (axioms : List AxiomDeclaration) (f : List ℕ)
    (a : AxiomDeclaration) : Type 0 where
  pub states : is_equation_of f (axiom_class sig a) ≡ true
  pub unreadable : (e : Equation) → IsEquationAmong sig axioms f a e → ⊥
