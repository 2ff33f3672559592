-- What is built of a rewrite rule whose form and sorts have no fault.
use Rattle.std.specs.Prelude.{◌≡◌, ◌&&◌, true, [], ◌∷◌, Option, Some, option_map, Contains}
use Rattle.kore_text.specs.Trees.{SortTree, PatternTree, AxiomDeclaration}
use Rattle.term_core.specs.RulePatterns.{plain_pattern}
use Rattle.rule_core.specs.declared.signature.Signature.{Signature}
use Rattle.kore_sig.specs.FirstFault.{Fault, ByByte, ByNumber, IsFirstBy, Then}
use Rattle.kore_check.specs.Folds.{unfolded}
use Rattle.kore_check.specs.Applicative.{IsApplicative}
use Rattle.kore_check.specs.PatternFaults.{pattern_faults}
use Rattle.kore_check.specs.PatternMeanings.{with_variables, Means}
use Rattle.kore_check.specs.PartNames.{names_in}
use Rattle.kore_check.specs.VariableNames.{named_sorts}
use Rattle.rule_core.specs.ProgramView.{names_of}
use Rattle.kore_axioms.specs.AxiomMeanings.{MeansTest}
use Rattle.kore_axioms.specs.Conditions.{tested_pattern}
use Rattle.kore_axioms.specs.RuleParts.{RuleParts, left_of, right_of}
use Rattle.kore_axioms.specs.RuleForms.{form_faults}
use Rattle.kore_axioms.specs.RuleFaults.{sorted_faults, listed_pattern, is_bound}
use Rattle.kore_axioms.specs.declared.rules.RulePatterns.{RulePatterns}

-- the first fault of the form, or, if the form has none, the first fault of the sorts
abbrev pub FirstOfShape : Signature → AxiomDeclaration → SortTree → RuleParts → Option Fault
    → Type 0
FirstOfShape sig a s w r
    =
    Then (IsFirstBy ByNumber (Contains (form_faults a w)))
    (IsFirstBy ByByte (Contains (sorted_faults sig s w))) r

-- the rule has both sides, and its patterns have no fault and only the forms that rule patterns may
-- have
pub record IsFine (sig : Signature) (w : RuleParts) : Type 0 where
  pub left : PatternTree
  pub is_left : left_of w ≡ Some left
  pub left_form : IsApplicative (unfolded left)
  pub left_clear : pattern_faults sig (unfolded left) ≡ []
  pub right : PatternTree
  pub is_right : right_of w ≡ Some right
  pub right_form : IsApplicative (unfolded right)
  pub right_clear : pattern_faults sig (unfolded right) ≡ []
  pub test_form : (p : PatternTree) → tested_pattern w.condition ≡ Some p
      → IsApplicative (unfolded p)
  pub test_clear : (p : PatternTree) → tested_pattern w.condition ≡ Some p
      → pattern_faults sig (unfolded p) ≡ []

-- The patterns are built of the two sides and of the tested pattern of the condition. If all
-- variables are bound, the built patterns mean these, with the variables of the left side.
pub record IsBuiltOf (sig : Signature) (w : RuleParts) (made : RulePatterns) : Type 0 where
  pub left : PatternTree
  pub is_left : left_of w ≡ Some left
  pub right : PatternTree
  pub is_right : right_of w ≡ Some right
  pub bound : made.bound
      ≡ (is_bound (listed_pattern (left_of w)) (tested_pattern w.condition)
      && is_bound (listed_pattern (left_of w)) (right_of w))
  pub numbered : made.bound ≡ true
      → named_sorts made.vars.items ≡ with_variables sig [] (unfolded left)
  pub means_left : made.bound ≡ true
      → Means sig (named_sorts made.vars.items) (unfolded left) (plain_pattern made.left)
  pub names : made.bound ≡ true
      → names_of made.named.items
      ≡ names_in sig (named_sorts made.vars.items) (0 ∷ []) (unfolded left)
  pub means_condition : made.bound ≡ true
      → MeansTest sig (named_sorts made.vars.items) (tested_pattern w.condition)
      (option_map plain_pattern made.cond)
  pub means_right : made.bound ≡ true
      → Means sig (named_sorts made.vars.items) (unfolded right) (plain_pattern made.right)
