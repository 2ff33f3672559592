-- What is built of the patterns of an equation whose form and sorts have no fault.
use Rattle.std.specs.Prelude.{◌≡◌, ℕ, true, false, List, [], Option, Some, None, option_map}
use Rattle.kore_text.specs.Trees.{PatternTree}
use Rattle.term_core.specs.RulePatterns.{plain_pattern}
use Rattle.term_core.specs.PatternLists.{plain_patterns}
use Rattle.term_core.specs.declared.rule_patterns.RulePat.{RulePat}
use Rattle.rule_core.specs.ProgramView.{names_of}
use Rattle.rule_core.specs.declared.signature.Signature.{Signature}
use Rattle.kore_check.specs.Applicative.{IsApplicative}
use Rattle.kore_check.specs.Folds.{Unfolded, Unfoldeds, no_more, and_more, unfolded}
use Rattle.kore_check.specs.PartNames.{names_in_all}
use Rattle.kore_check.specs.PatternFaults.{pattern_faults}
use Rattle.kore_check.specs.PatternMeanings.{with_all_variables, Means, AllMean}
use Rattle.kore_shapes.specs.Shapes.{Condition}
use Rattle.kore_axioms.specs.AxiomMeanings.{MeansTest}
use Rattle.kore_axioms.specs.Conditions.{tested_pattern}
use Rattle.kore_axioms.specs.RuleFaults.{is_bound}
use Rattle.kore_axioms.specs.Uses.{is_bound_by}
use Rattle.kore_equations.specs.ReadableSides.{all_read}
use Rattle.kore_equations.specs.declared.patterns.Sides.{Sides}

-- a pattern has only the forms that rule patterns may have, and no fault except perhaps of its
-- height
pub record IsFine (sig : Signature) (u : Unfolded) : Type 0 where
  pub form : IsApplicative u
  pub clear : pattern_faults sig u ≡ []

abbrev pub AreFine : Signature → Unfoldeds → Type 0
AreFine sig no_more = Unit {0}
AreFine sig (and_more u us) = IsFine sig u × AreFine sig us

-- the tested pattern is so, if there is one
abbrev pub IsFineTest : Signature → Option PatternTree → Type 0
IsFineTest sig None = Unit {0}
IsFineTest sig (Some p) = IsFine sig (unfolded p)

-- the patterns of the arguments and the tested pattern are so
pub record AreFineSides (sig : Signature) (ps : List PatternTree) (c : Condition) : Type 0 where
  pub patterns : AreFine sig (all_read ps)
  pub test : IsFineTest sig (tested_pattern c)

-- The pattern means this one, if these patterns have all its variables, which then stay as they are.
-- Otherwise there is none.
abbrev pub IsMeantBound : Signature → Unfoldeds → Unfolded → List (List ℕ × ℕ) → Option RulePat
    → Type 0
IsMeantBound sig qs u vars None = is_bound_by qs u ≡ false
IsMeantBound sig qs u vars (Some p) =
    (is_bound_by qs u ≡ true) × (vars ≡ with_all_variables sig [] qs)
    × Means sig vars u (plain_pattern p)

-- the same for the tested pattern
abbrev pub AreTested : Signature → Unfoldeds → Option PatternTree → List (List ℕ × ℕ)
    → Option (Option RulePat) → Type 0
AreTested sig qs test vars None = is_bound qs test ≡ false
AreTested sig qs test vars (Some made) =
    (is_bound qs test ≡ true) × (vars ≡ with_all_variables sig [] qs)
    × MeansTest sig vars test (option_map plain_pattern made)

-- The patterns mean these arguments, and the condition this one. Their variables are those of the
-- arguments, which have all variables of the condition.
pub record AreBuiltOf (sig : Signature) (ps : List PatternTree) (c : Condition) (made : Sides) :
    Type 0 where
  pub bound : is_bound (all_read ps) (tested_pattern c) ≡ true
  pub numbered : made.vars ≡ with_all_variables sig [] (all_read ps)
  pub means_arguments : AllMean sig (with_all_variables sig [] (all_read ps)) (all_read ps)
      (plain_patterns made.args.items)
  pub names : names_of made.named.items
      ≡ names_in_all sig (with_all_variables sig [] (all_read ps)) [] 0 (all_read ps)
  pub means_condition : MeansTest sig (with_all_variables sig [] (all_read ps)) (tested_pattern c)
      (option_map plain_pattern made.cond)

-- they do, or the arguments have not all variables of the condition
abbrev pub AreBuilt : Signature → List PatternTree → Condition → Option Sides → Type 0
AreBuilt sig ps c None = is_bound (all_read ps) (tested_pattern c) ≡ false
AreBuilt sig ps c (Some made) = AreBuiltOf sig ps c made
