-- What the patterns of a function's arguments, the condition and the right side of an equation have
-- to be for it to be readable. It only matters whether they have a fault, not which fault is the
-- first. A guard of an equation of the last resort has such patterns and such a condition too.
use Rattle.std.specs.Prelude.{◌≡◌, ◌==◌, ◌+◌, List, [], ◌++◌, Bool, true, not, ◌||◌, ◌&&◌, Some, length}
use Rattle.std.specs.Prelude.{nat_le}
use Rattle.std.specs.List.{list_any}
use Rattle.kore_text.specs.Trees.{PatternTree, pattern_trees}
use Rattle.rule_core.specs.Evaluation.{most_height}
use Rattle.rule_core.specs.Sorting.{sort_at}
use Rattle.rule_core.specs.declared.signature.Signature.{Signature}
use Rattle.rule_core.specs.declared.signature.SymInfo.{SymInfo}
use Rattle.kore_sig.specs.FirstFault.{Fault}
use Rattle.kore_check.specs.Folds.{Unfoldeds, unfolded, all_unfolded, unfolded_heights}
use Rattle.kore_check.specs.PatternFaults.{argument_faults}
use Rattle.kore_shapes.specs.Forms.{others, all_forms, has_form, has_binder}
use Rattle.kore_shapes.specs.Shapes.{Condition}
use Rattle.kore_axioms.specs.Conditions.{tested_pattern, is_ill}
use Rattle.kore_axioms.specs.LeftNames.{has_bad_and}
use Rattle.kore_axioms.specs.RuleForms.{holds_of}
use Rattle.kore_axioms.specs.RuleFaults.{is_empty, faults_at_sort, condition_faults, is_bound}
use Rattle.kore_axioms.specs.Uses.{have_symbol, is_plain_function, is_ac_symbol}

-- patterns with their folds read
abbrev pub all_read : List PatternTree → Unfoldeds
all_read ps = all_unfolded (pattern_trees ps)

-- ---- the form of the patterns and of the condition

-- a pattern or the tested pattern contains a form that it may not have; an `\and` in a pattern may
-- name a part
abbrev pub has_other_form : List PatternTree → Condition → Bool
has_other_form ps c =
    (list_any (has_form others) ps || list_any (has_bad_and ps) ps)
    || holds_of (has_form all_forms) (tested_pattern c)

-- a pattern or the tested pattern contains a binder or a set variable
abbrev pub has_some_binder : List PatternTree → Condition → Bool
has_some_binder ps c = list_any has_binder ps || holds_of has_binder (tested_pattern c)

-- they have no such form and no binder, and the condition has the form of a condition
abbrev pub have_good_form : List PatternTree → Condition → Bool
have_good_form ps c = not (has_other_form ps c) && (not (has_some_binder ps c) && not (is_ill c))

-- ---- their sorts

-- the faults of the patterns, which should have the sorts of the function's arguments, and of the
-- condition
abbrev pub faults_of_sides : Signature → SymInfo → List PatternTree → Condition → List Fault
faults_of_sides sig info ps c =
    argument_faults sig [] info.args.items (all_read ps) ++ condition_faults sig c

-- there are as many patterns as the function has arguments, they have no fault, and the function
-- applied to them is not too high
abbrev pub are_sorted : Signature → SymInfo → List PatternTree → Condition → Bool
are_sorted sig info ps c =
    (length ps == length info.args.items)
    && (is_empty (faults_of_sides sig info ps c)
    && nat_le (unfolded_heights (all_read ps) + 1) most_height)

-- ---- their uses

-- the patterns use no function and no AC symbol, the function is not AC, and each variable of the
-- condition occurs in the patterns
abbrev pub have_good_uses : Signature → SymInfo → List PatternTree → Condition → Bool
have_good_uses sig info ps c =
    not (have_symbol (is_plain_function sig) (all_read ps))
    && (not (info.ac || have_symbol (is_ac_symbol sig) (all_read ps))
    && is_bound (all_read ps) (tested_pattern c))

-- ---- the whole

-- the patterns of the arguments and the condition have no fault
pub record AreReadable (sig : Signature) (info : SymInfo) (ps : List PatternTree) (c : Condition) :
    Type 0 where
  pub good_form : have_good_form ps c ≡ true
  pub sorted : are_sorted sig info ps c ≡ true
  pub good_uses : have_good_uses sig info ps c ≡ true

-- the right side contains no form that it may not have and no binder, has no fault at the function's
-- result sort, and its variables occur in the patterns
abbrev pub is_readable_right : Signature → SymInfo → List PatternTree → PatternTree → Bool
is_readable_right sig info ps r =
    (not (has_form all_forms r) && not (has_binder r))
    && (is_empty (faults_at_sort sig (sort_at [] info.result) (unfolded r))
    && is_bound (all_read ps) (Some r))
