-- What is returned for the equation of a declared function.
use Rattle.std.specs.Prelude.{◌≡◌, ℕ, true, false, List, map, Option, Some, None, option_map, Vec}
use Rattle.std.specs.Global.{Global}
use Rattle.kore_text.specs.Trees.{AxiomDeclaration}
use Rattle.rule_core.specs.ProgramView.{function_equation, guard_of}
use Rattle.rule_core.specs.Rules as plain
use Rattle.rule_core.specs.declared.rules.Equation.{Equation}
use Rattle.rule_core.specs.declared.rules.Guard.{Guard}
use Rattle.rule_core.specs.declared.signature.Signature.{Signature}
use Rattle.rule_core.specs.declared.signature.SymInfo.{SymInfo}
use Rattle.kore_check.specs.Folds.{unfolded}
use Rattle.kore_check.specs.VariableNames.{named_sorts}
use Rattle.kore_shapes.specs.Statements.{StatedEquation}
use Rattle.kore_shapes.specs.EquationForms.{EquationParts}
use Rattle.kore_shapes.specs.LastResorts.{LastResortParts}
use Rattle.kore_axioms.specs.AxiomClasses.{equates, axiom_class}
use Rattle.kore_equations.specs.ReadableEquations.{IsReadable, condition_of_equation}
use Rattle.kore_equations.specs.EquationMeanings.{MeansParts}
use Rattle.kore_equations.specs.LastResortEquations.{IsReadableLastResort}
use Rattle.kore_equations.specs.NamedEquations.{MeansNamedEquation, MeansNamedLastResort}
use Rattle.kore_equations.specs.ClearEquations.{are_bound}
use Rattle.kore_equations.specs.BuiltEquations.{AreFineSides, IsFine}

-- some axiom states the equation
abbrev pub IsStated : Signature → StatedEquation → Type 0
IsStated sig e = (a : AxiomDeclaration) × (axiom_class sig a ≡ equates e)

-- the equation of the function of this name, number and declaration; none if it is not readable
abbrev pub IsMeant : Signature → List ℕ → ℕ → SymInfo → AxiomDeclaration → StatedEquation
    → Option Equation → Type 0
IsMeant sig f n info a e None = (q : EquationParts) → IsReadable sig a info e q → ⊥
IsMeant sig f n info a e (Some made) =
    (made.fun.0 ≡ n) × MeansNamedEquation sig f a made

-- the same for an equation of the last resort beside these others
abbrev pub IsMeantLast : Signature → List ℕ → ℕ → SymInfo → List plain.Equation → AxiomDeclaration
    → StatedEquation → Option Equation → Type 0
IsMeantLast sig f n info es a e None =
    (q : LastResortParts) → IsReadableLastResort sig a info e es q → ⊥
IsMeantLast sig f n info es a e (Some made) =
    (made.fun.0 ≡ n) × MeansNamedLastResort sig f es a made

-- the patterns of an equation have only the forms that rule patterns may have, and no fault except
-- perhaps of their height
pub record IsFineEquation (sig : Signature) (e : StatedEquation) (q : EquationParts) : Type 0 where
  pub sides : AreFineSides sig q.patterns (condition_of_equation sig e q)
  pub right : IsFine sig (unfolded q.right)

abbrev pub guards_at : Option (Vec Guard Global) → Option (List plain.Guard)
guards_at o = option_map (λ (gs : Vec Guard Global). map guard_of gs.items) o

-- The parts are those of this equation of the function with the number, which has these guards. There
-- is none if its variables are not bound.
abbrev pub AreMeantParts : Signature → ℕ → AxiomDeclaration → StatedEquation → EquationParts
    → Option (List plain.Guard) → Option Equation → Type 0
AreMeantParts sig n a e q guards None = are_bound sig e q ≡ false
AreMeantParts sig n a e q guards (Some made) =
    (are_bound sig e q ≡ true) × (made.fun.0 ≡ n)
    × ((function_equation made).last_resort ≡ guards)
    × (means : MeansParts sig a e q (function_equation made))
    × (named_sorts made.vars.items ≡ means.variables)
