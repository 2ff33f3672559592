-- The guards of equations of the last resort (`owise`). Each repeats another equation of the
-- function: it says that this one is used.
use Rattle.std.specs.Prelude.{◌≡◌, ◌<◌, ℕ, List, [], map, length, Some, slice_get}
use Rattle.kore_text.specs.Trees.{SortTree, PatternTree}
use Rattle.rule_core.specs.Rules.{Equation, Guard}
use Rattle.rule_core.specs.WellSorted.{AreDifferent}
use Rattle.rule_core.specs.declared.signature.Signature.{Signature}
use Rattle.rule_core.specs.declared.signature.SymInfo.{SymInfo}
use Rattle.kore_check.specs.Folds.{unfolded}
use Rattle.kore_check.specs.PatternMeanings.{with_all_variables, AllMean}
use Rattle.kore_check.specs.PartNames.{names_in_all, number_of_variable}
use Rattle.kore_shapes.specs.Shapes.{Condition, given_condition}
use Rattle.kore_shapes.specs.LastResorts.{GuardParts}
use Rattle.kore_axioms.specs.Conditions.{over_bool, tested_pattern}
use Rattle.kore_axioms.specs.AxiomMeanings.{MeansTest}
use Rattle.kore_equations.specs.ReadableSides.{all_read, AreReadable}

abbrev pub condition_of_guard : Signature → SortTree → GuardParts → Condition
condition_of_guard sig over g = over_bool sig (given_condition over (Some g.condition))

-- the patterns are all of the variables, each once, and have these numbers
pub record QuantifyEach (sig : Signature) (variables : List (List ℕ × ℕ)) (xs : List PatternTree)
    (order : List ℕ) : Type 0 where
  pub numbers : map (λ (x : PatternTree). number_of_variable sig variables (unfolded x)) xs
      ≡ map Some order
  pub different : AreDifferent order
  pub count : length xs ≡ length variables

-- The guard says when the equation is used. With its variables numbered by their first occurrence,
-- as in an equation, its patterns and its condition mean those of the equation. It quantifies each
-- variable once, in this order.
pub record Repeats (sig : Signature) (info : SymInfo) (over : SortTree) (g : GuardParts)
    (e : Equation) (order : List ℕ) : Type 0 where
  pub readable : AreReadable sig info g.patterns (condition_of_guard sig over g)
  pub variables : List (List ℕ × ℕ)
  pub numbered : variables ≡ with_all_variables sig [] (all_read g.patterns)
  pub sorts : e.variables ≡ map (λ (v : List ℕ × ℕ). v.1) variables
  pub means_arguments : AllMean sig variables (all_read g.patterns) e.arguments
  pub names : e.names ≡ names_in_all sig variables [] 0 (all_read g.patterns)
  pub means_condition : MeansTest sig variables (tested_pattern (condition_of_guard sig over g))
      e.condition
  pub quantified : QuantifyEach sig variables g.variables order

-- the guard is this one beside the equations es: the first of these that it repeats has this number
pub record MeansGuard (sig : Signature) (info : SymInfo) (over : SortTree) (es : List Equation)
    (g : GuardParts) (made : Guard) : Type 0 where
  pub equation : Equation
  pub listed : slice_get es made.equation ≡ Some equation
  pub repeats : Repeats sig info over g equation made.order
  pub first : (i : ℕ) (e : Equation) (order : List ℕ) → i < made.equation
      → slice_get es i ≡ Some e → Repeats sig info over g e order → ⊥

-- it repeats one of the equations es
abbrev pub RepeatsSome : Signature → SymInfo → SortTree → List Equation → GuardParts → Type 0
RepeatsSome sig info over es g =
    (i : ℕ) × (e : Equation) × (order : List ℕ) × (slice_get es i ≡ Some e)
    × Repeats sig info over g e order
