-- What has been read of the equations of the last resort.
use Rattle.std.specs.Prelude.{◌≡◌, ◌↔◌, ◌⊎◌, ◌≤◌, ℕ, Bool, List, Vec, map, length, Option}
use Rattle.std.specs.Prelude.{Some, None, Contains, IsTrue, count_by, true}
use Rattle.std.specs.Global.{Global}
use Rattle.kore_text.specs.Trees.{AxiomDeclaration}
use Rattle.rule_core.specs.Named.{number_of_name}
use Rattle.rule_core.specs.ProgramView.{function_equation}
use Rattle.rule_core.specs.Rules as plain
use Rattle.rule_core.specs.declared.rules.Equation.{Equation}
use Rattle.rule_core.specs.declared.signature.Signature.{Signature}
use Rattle.kore_shapes.specs.Statements.{StatedEquation}
use Rattle.kore_axioms.specs.AxiomClasses.{equates, axiom_class}
use Rattle.kore_rules.specs.AxiomsRead.{AreRead, HasStated, is_marked}
use Rattle.kore_rules.specs.AxiomsRead.{numbered_equation}
use Rattle.kore_rules.specs.EquationsAmong.{AreOrdinary, AreTried, is_last_resort}
use Rattle.kore_rules.specs.EquationsAmong.{states_last_resort, IsLastResortAmong, IsEquationAmong}
use Rattle.kore_rules.specs.KeptNames.{AreOf, IsNamedLastResort, IsSomeEquation}
use Rattle.kore_rules.specs.TrialOrder.{listed_at}
use Rattle.kore_rules.specs.declared.last_resorts.LastResorts.{LastResorts}

-- the axiom states this equation, and states it as one of the last resort
abbrev pub StatesLast : Signature → AxiomDeclaration → StatedEquation → Type 0
StatesLast sig a e = (is_last_resort a ≡ true) × (axiom_class sig a ≡ equates e)

-- it does, or it states none of the last resort
abbrev pub IsStatedLast : Signature → AxiomDeclaration → Option StatedEquation → Type 0
IsStatedLast sig a None = (e : StatedEquation) → StatesLast sig a e → ⊥
IsStatedLast sig a (Some e) = StatesLast sig a e

-- the marks are of the symbols of which at least n axioms state an equation of the last resort
abbrev pub HaveStated : Signature → ℕ → List AxiomDeclaration → List Bool → Type 0
HaveStated sig n axioms marks =
    (f : List ℕ) (k : ℕ) → number_of_name sig.symbols f ≡ Some k
    → IsTrue (is_marked marks k) ↔ (n ≤ count_by (states_last_resort sig f) axioms)

-- each list has the equations of its function that are none of the last resort
abbrev pub AreOthers : Signature → List AxiomDeclaration → List (Vec Equation Global) → Type 0
AreOthers sig axioms lists =
    (f : List ℕ) (k : ℕ) → number_of_name sig.symbols f ≡ Some k
    → AreOrdinary sig axioms f (map function_equation (listed_at lists k))

-- the axiom is this equation of the last resort, of the function with this number
abbrev pub IsNumberedLast : Signature → List AxiomDeclaration → AxiomDeclaration
    → ℕ × plain.Equation → Type 0
IsNumberedLast sig axioms a e =
    (f : List ℕ) × (number_of_name sig.symbols f ≡ Some e.0) × IsLastResortAmong sig axioms f a e.1

abbrev pub IsNamedLast : Signature → List AxiomDeclaration → AxiomDeclaration → Equation → Type 0
IsNamedLast sig axioms a e = (f : List ℕ) × IsNamedLastResort sig axioms f a e

-- the axiom states an equation of the last resort of the function, and it is not readable
abbrev pub IsUnreadableLast : Signature → List AxiomDeclaration → List ℕ → AxiomDeclaration
    → Type 0
IsUnreadableLast sig axioms f a =
    (states_last_resort sig f a ≡ true)
    × ((e : plain.Equation) → IsLastResortAmong sig axioms f a e → ⊥)

-- What is read of the equations of the last resort that some of the axioms state. `marked` are the
-- functions with another equation that is not readable.
pub record HaveReadLast (sig : Signature) (axioms some : List AxiomDeclaration)
    (marked : List Bool) (read : LastResorts) : Type 0 where
  pub equations : AreRead (IsNumberedLast sig axioms) (λ (e : ℕ × plain.Equation). e.1.place) some
      (map numbered_equation read.equations.items)
  pub named : AreOf (IsNamedLast sig axioms) some read.equations.items
  pub few : length read.equations.items ≤ count_by is_last_resort some
  pub marks : length read.unreadable.items ≡ length marked
  pub unreadable : (n : ℕ) → IsTrue (is_marked read.unreadable.items n)
      ↔ (IsTrue (is_marked marked n) ⊎ HasStated sig (IsUnreadableLast sig axioms) some n)

-- the lists have all equations of their functions, each in the list of its function
pub record AreAllListed (sig : Signature) (axioms : List AxiomDeclaration)
    (lists : List (Vec Equation Global)) : Type 0 where
  pub listed : (f : List ℕ) (k : ℕ) → number_of_name sig.symbols f ≡ Some k
      → AreTried (IsEquationAmong sig axioms f) axioms (map function_equation (listed_at lists k))
  pub named : (k : ℕ) → AreOf (IsSomeEquation sig axioms) axioms (listed_at lists k)
  pub own : (k : ℕ) (e : Equation) → Contains (listed_at lists k) e → e.fun.0 ≡ k
  pub few : (k : ℕ) → length (listed_at lists k) ≤ length axioms
