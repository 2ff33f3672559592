-- Equations of the last resort (`owise`): which are readable beside the other equations of their
-- function, and what they mean. `es` are these other equations, in the order of trial.
use Rattle.std.specs.Prelude.{◌≡◌, ℕ, List, Bool, true, Some, All, codes}
use Rattle.std.specs.List.{AllZip}
use Rattle.kore_text.specs.Trees.{AxiomDeclaration}
use Rattle.rule_core.specs.AcSymbols.{IsAcFree}
use Rattle.rule_core.specs.Rules.{Equation, Guard, ComesBefore}
use Rattle.rule_core.specs.declared.signature.Signature.{Signature}
use Rattle.rule_core.specs.declared.signature.SymInfo.{SymInfo}
use Rattle.kore_sig.specs.Attributes.{has_attribute}
use Rattle.kore_shapes.specs.Statements.{StatedEquation}
use Rattle.kore_shapes.specs.LastResorts.{LastResortParts, last_resort_parts}
use Rattle.kore_axioms.specs.Priorities.{priority_of}
use Rattle.kore_equations.specs.ReadableEquations.{HasReadableParts}
use Rattle.kore_equations.specs.EquationMeanings.{StatesEquation, MeansParts}
use Rattle.kore_equations.specs.Guards.{MeansGuard, RepeatsSome}

-- each of the equations is tried before this axiom's
abbrev pub ComesLast : List Equation → AxiomDeclaration → Type 0
ComesLast es a =
    All (λ (e : Equation). ComesBefore (e.priority, e.place) (priority_of a.attributes, a.at)) es

-- The equation has the form of one of the last resort, with these parts, and comes after the others.
-- What it says beside its guards has no fault, each guard repeats another equation, and no
-- constructor of the definition is associative, commutative or idempotent or has a unit.
pub record IsReadableLastResort (sig : Signature) (a : AxiomDeclaration) (info : SymInfo)
    (stated : StatedEquation) (es : List Equation) (q : LastResortParts) : Type 0 where
  pub last_resort : has_attribute (codes "owise") a.attributes ≡ true
  pub form : last_resort_parts stated ≡ Some q
  pub no_ac : IsAcFree sig
  pub parts : HasReadableParts sig a info stated q.equation
  pub guards : All (RepeatsSome sig info stated.over es) q.guards
  pub last : ComesLast es a

-- the axiom is this equation of the last resort of the function of this name
pub record MeansLastResort (sig : Signature) (f : List ℕ) (es : List Equation)
    (a : AxiomDeclaration) (e : Equation) : Type 0 where
  pub stated : StatedEquation
  pub info : SymInfo
  pub states : StatesEquation sig f a stated info
  pub parts : LastResortParts
  pub readable : IsReadableLastResort sig a info stated es parts
  pub means : MeansParts sig a stated parts.equation e
  pub guards : List Guard
  pub mean_guards : AllZip (MeansGuard sig info stated.over es) parts.guards guards
  pub last_resort : e.last_resort ≡ Some guards

-- it is not readable as one
pub record IsUnreadableLastResort (sig : Signature) (f : List ℕ) (es : List Equation)
    (a : AxiomDeclaration) : Type 0 where
  pub stated : StatedEquation
  pub info : SymInfo
  pub states : StatesEquation sig f a stated info
  pub unreadable : (q : LastResortParts) → IsReadableLastResort sig a info stated es q → ⊥
