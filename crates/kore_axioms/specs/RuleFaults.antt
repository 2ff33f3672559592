-- The first fault of a rewrite rule. The form is tested first, then the sorts, then how its sides
-- use symbols and variables.
use Rattle.std.specs.Prelude.{ℕ, List, [], ◌∷◌, ◌++◌, Bool, false, true, not, ◌&&◌, Option, Some}
use Rattle.std.specs.Prelude.{None, Contains}
use Rattle.kore_text.specs.Trees.{SortTree, listed_sorts, PatternTree, connected, AxiomDeclaration}
use Rattle.rule_core.specs.declared.signature.Signature.{Signature}
use Rattle.kore_sig.specs.FirstFault.{Fault, ByByte, ByNumber, IsFirstBy, Then, faults_of_tests}
use Rattle.kore_sig.specs.SortReferences.{sort_number}
use Rattle.kore_check.specs.Folds.{Unfolded, Unfoldeds, no_more, and_more, unfolded_byte, unfolded}
use Rattle.kore_check.specs.PatternSorts.{sort_of_pattern}
use Rattle.kore_check.specs.PatternFaults.{sort_faults, clash_faults, all_faults}
use Rattle.kore_shapes.specs.SameSorts.{same_sort}
use Rattle.kore_shapes.specs.Shapes.{Rewriting, Condition, always, tests, ill, found_part}
use Rattle.kore_axioms.specs.Conditions.{tested_pattern}
use Rattle.kore_axioms.specs.RuleParts.{RuleParts, rule_parts, left_of, right_of}
use Rattle.kore_axioms.specs.RuleForms.{holds_of, form_faults}
use Rattle.kore_axioms.specs.Uses.{has_symbol, is_bound_by, is_plain_function, is_ac_symbol}

-- there is no fault
abbrev pub is_empty : List Fault → Bool
is_empty [] = true
is_empty (f ∷ fs) = false

-- ---- the sorts

-- the faults of a pattern that should have this sort
abbrev pub faults_at_sort : Signature → Option ℕ → Unfolded → List Fault
faults_at_sort sig wanted p =
    all_faults sig p ++ clash_faults (unfolded_byte p) (sort_of_pattern sig p) wanted

-- the faults of a side that should have this sort; none if there is no pattern
abbrev pub side_faults : Signature → Option ℕ → Option PatternTree → List Fault
side_faults sig wanted None = []
side_faults sig wanted (Some p) = faults_at_sort sig wanted (unfolded p)

-- the faults of the pattern that a condition tests; it should have the sort of truth values that
-- the condition names
abbrev pub condition_faults : Signature → Condition → List Fault
condition_faults sig always = []
condition_faults sig (tests s b) = faults_at_sort sig (sort_number sig.sorts s) (unfolded b)
condition_faults sig ill = []

-- the faults of the only sort of a connective at this byte; it should be the sort of the rule
abbrev pub only_sort_faults : Signature → Option ℕ → ℕ → List SortTree → List Fault
only_sort_faults sig wanted at (t ∷ []) =
    sort_faults sig t ++ clash_faults at (sort_number sig.sorts t) wanted
only_sort_faults sig wanted at ts = []

-- the faults of the sort of the `\top{T}()` next to a right side
abbrev pub top_faults : Signature → Option ℕ → PatternTree → List Fault
top_faults sig wanted (connected at op ss ps) = only_sort_faults sig wanted at (listed_sorts ss)
top_faults sig wanted p = []

abbrev pub found_top_faults : Signature → Option ℕ → Option PatternTree → List Fault
found_top_faults sig wanted None = []
found_top_faults sig wanted (Some p) = top_faults sig wanted p

-- the faults of the sorts: those of the sort S, of both sides, of the condition and of the
-- `\top{T}()`
abbrev pub sorted_faults : Signature → SortTree → RuleParts → List Fault
sorted_faults sig s w =
    sort_faults sig s
    ++ (side_faults sig (sort_number sig.sorts s) (left_of w)
    ++ (condition_faults sig w.condition
    ++ (side_faults sig (sort_number sig.sorts s) (right_of w)
    ++ found_top_faults sig (sort_number sig.sorts s) (found_part w.after))))

-- ---- the uses

-- a list of the pattern with its folds read; empty if there is no pattern
abbrev pub listed_pattern : Option PatternTree → Unfoldeds
listed_pattern None = no_more
listed_pattern (Some p) = and_more (unfolded p) no_more

-- each variable of the pattern occurs in one of these; true if there is no pattern
abbrev pub is_bound : Unfoldeds → Option PatternTree → Bool
is_bound qs None = true
is_bound qs (Some p) = is_bound_by qs (unfolded p)

-- there is a first rule, and its sort is written differently
abbrev pub differs_from : Option SortTree → SortTree → Bool
differs_from None s = false
differs_from (Some first) s = not (same_sort first s)

-- The faults of the uses, all at the axiom.
-- 12: a function that is not AC occurs in the left side.
-- 14: an AC symbol occurs in the left side.
-- 18: a variable of the condition or of the right side does not occur in the left side.
-- 19: the sort is not that of the first rule.
abbrev pub use_tests : Signature → Option SortTree → SortTree → RuleParts → List (Bool × ℕ)
use_tests sig first s w = (
  holds_of (λ (p : PatternTree). has_symbol (is_plain_function sig) (unfolded p)) (left_of w),
  12,
)
    ∷ ((holds_of (λ (p : PatternTree). has_symbol (is_ac_symbol sig) (unfolded p)) (left_of w), 14)
    ∷ ((
      not (is_bound (listed_pattern
          (left_of w)) (tested_pattern w.condition)
          && is_bound (listed_pattern (left_of w)) (right_of w)),
      18,
    )
    ∷ ((differs_from first s, 19) ∷ [])))

abbrev pub use_faults : Signature → Option SortTree → ℕ → SortTree → RuleParts → List Fault
use_faults sig first at s w = faults_of_tests at (use_tests sig first s w)

-- ---- the first

-- the first fault of a rule; `first` is the sort of the first rule, if there is one before this
abbrev pub FirstOfParts : Signature → Option SortTree → AxiomDeclaration → SortTree → RuleParts
    → Option Fault → Type 0
FirstOfParts sig first a s w r =
    Then (IsFirstBy ByNumber (Contains (form_faults a w)))
    (Then (IsFirstBy ByByte (Contains (sorted_faults sig s w)))
    (IsFirstBy ByNumber (Contains (use_faults sig first a.at s w)))) r

abbrev pub FirstOfRule : Signature → Option SortTree → AxiomDeclaration → Rewriting → Option Fault
    → Type 0
FirstOfRule sig first a w r = FirstOfParts sig first a w.sort (rule_parts sig w) r
