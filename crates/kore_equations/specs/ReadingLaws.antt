-- The law of readings: no axiom is both an equation and an unreadable equation of the same
-- function.
use Rattle.std.specs.Prelude.{ℕ, List}
use Rattle.kore_text.specs.Trees.{AxiomDeclaration}
use Rattle.rule_core.specs.Rules.{Equation}
use Rattle.rule_core.specs.declared.signature.Signature.{Signature}
use Rattle.kore_equations.specs.EquationMeanings.{MeansEquation, IsUnreadable}

abbrev pub ReadingsExclude : Type 0
ReadingsExclude =
    (sig : Signature) (f : List ℕ) (a : AxiomDeclaration) (e : Equation) → MeansEquation sig f a e →
    IsUnreadable sig f a → ⊥
