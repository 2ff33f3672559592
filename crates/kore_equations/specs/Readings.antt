-- What an axiom that states an equation is read as.
use Rattle.std.specs.Prelude.{ℕ, List}
use Rattle.kore_text.specs.Trees.{AxiomDeclaration}
use Rattle.rule_core.specs.Rules.{Equation}
use Rattle.rule_core.specs.declared.signature.Signature.{Signature}
use Rattle.kore_equations.specs.EquationMeanings.{IsUnreadable}
use Rattle.kore_equations.specs.LastResortEquations.{IsUnreadableLastResort}
use Rattle.kore_equations.specs.NamedEquations.{MeansNamedEquation, MeansNamedLastResort}
use Rattle.kore_equations.specs.declared.readings.Reading.{Reading}
use Rattle.kore_equations.specs.declared.readings.Reading.TheVariants as reading

-- the number of the function
abbrev pub function_of : Reading → ℕ
function_of (reading.Equation e) = e.fun.0
function_of (reading.Unreadable f) = f.0

-- the axiom is this equation of the function of this name, or states one that is not readable
abbrev pub IsReadAs : Signature → List ℕ → AxiomDeclaration → Reading → Type 0
IsReadAs sig f a (reading.Equation e) = MeansNamedEquation sig f a e
IsReadAs sig f a (reading.Unreadable g) = IsUnreadable sig f a

-- the same for an equation of the last resort beside these others
abbrev pub IsReadLast : Signature → List ℕ → List Equation → AxiomDeclaration → Reading → Type 0
IsReadLast sig f es a (reading.Equation e) = MeansNamedLastResort sig f es a e
IsReadLast sig f es a (reading.Unreadable g) = IsUnreadableLastResort sig f es a
