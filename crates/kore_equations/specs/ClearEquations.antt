-- What makes an equation or a guard readable, except that its variables are bound.
use Rattle.std.specs.Prelude.{◌==◌, ◌+◌, List, [], Bool, true, not, ◌&&◌, drop, length, Option, Some}
use Rattle.std.specs.Prelude.{None, codes, nat_le, if◌then◌else◌}
use Rattle.kore_text.specs.Trees.{PatternTree, AxiomDeclaration}
use Rattle.rule_core.specs.Evaluation.{most_height}
use Rattle.rule_core.specs.Sorting.{sort_at}
use Rattle.rule_core.specs.declared.signature.Signature.{Signature}
use Rattle.rule_core.specs.declared.signature.SortRef.{SortRef}
use Rattle.rule_core.specs.declared.signature.SymInfo.{SymInfo}
use Rattle.kore_sig.specs.Attributes.{has_attribute}
use Rattle.kore_check.specs.Folds.{Unfoldeds, no_more, and_more, unfolded, unfolded_heights}
use Rattle.kore_check.specs.PatternFaults.{first_wanted}
use Rattle.kore_shapes.specs.Forms.{all_forms, has_form, has_binder}
use Rattle.kore_shapes.specs.Shapes.{Condition}
use Rattle.kore_shapes.specs.Statements.{StatedEquation}
use Rattle.kore_shapes.specs.EquationForms.{EquationParts, equation_parts}
use Rattle.kore_shapes.specs.LastResorts.{LastResortParts, last_resort_parts}
use Rattle.kore_axioms.specs.Conditions.{tested_pattern}
use Rattle.kore_axioms.specs.Priorities.{has_bad_priority}
use Rattle.kore_axioms.specs.RuleFaults.{is_empty, faults_at_sort, condition_faults, is_bound}
use Rattle.kore_axioms.specs.Uses.{have_symbol, is_plain_function, is_ac_symbol}
use Rattle.kore_equations.specs.ReadableSides.{all_read, have_good_form}
use Rattle.kore_equations.specs.ReadableEquations.{condition_of_equation, fits_function}

-- each pattern has no fault and is not too high, and has the sort of its place; the places are
-- those of a symbol without sort parameters
abbrev pub each_faultless : Signature → List SortRef → Unfoldeds → Bool
each_faultless sig refs no_more = true
each_faultless sig refs (and_more p ps) =
    is_empty (faults_at_sort sig (first_wanted sig [] refs) p)
    && each_faultless sig (drop 1 refs) ps

abbrev pub have_good_symbols : Signature → SymInfo → List PatternTree → Bool
have_good_symbols sig info ps =
    not (have_symbol (is_plain_function sig) (all_read ps))
    && (not info.ac && not (have_symbol (is_ac_symbol sig) (all_read ps)))

-- the patterns of the arguments and the condition
abbrev pub are_clear_sorts : Signature → SymInfo → List PatternTree → Condition → Bool
are_clear_sorts sig info ps c =
    (length ps == length info.args.items)
    && (nat_le (unfolded_heights (all_read ps) + 1) most_height
    && (each_faultless sig info.args.items (all_read ps) && is_empty (condition_faults sig c)))

abbrev pub are_clear : Signature → SymInfo → List PatternTree → Condition → Bool
are_clear sig info ps c =
    have_good_form ps c && (are_clear_sorts sig info ps c && have_good_symbols sig info ps)

abbrev pub is_clear_right : Signature → SymInfo → PatternTree → Bool
is_clear_right sig info r =
    (not (has_form all_forms r) && not (has_binder r))
    && is_empty (faults_at_sort sig (sort_at [] info.result) (unfolded r))

-- the parts of an equation
abbrev pub are_clear_parts : Signature → AxiomDeclaration → SymInfo → StatedEquation → EquationParts
    → Bool
are_clear_parts sig a info e q =
    fits_function sig a info e
    && (not (has_bad_priority a.attributes)
    && (each_faultless sig info.args.items (all_read q.parameters)
    && (are_clear sig info q.patterns (condition_of_equation sig e q)
    && is_clear_right sig info q.right)))

-- the parts, if they are clear
abbrev pub clear_of : Signature → AxiomDeclaration → SymInfo → StatedEquation → Option EquationParts
    → Option EquationParts
clear_of sig a info e None = None
clear_of sig a info e (Some q) = if are_clear_parts sig a info e q then Some q else None

abbrev pub clear_parts : Signature → AxiomDeclaration → SymInfo → StatedEquation
    → Option EquationParts
clear_parts sig a info e =
    if has_attribute (codes "owise") a.attributes then None
    else clear_of sig a info e (equation_parts e)

-- the parts of an equation of the last resort, if what it says beside its guards is clear
abbrev pub clear_resort_of : Signature → AxiomDeclaration → SymInfo → StatedEquation
    → Option LastResortParts → Option LastResortParts
clear_resort_of sig a info e None = None
clear_resort_of sig a info e (Some q) =
    if are_clear_parts sig a info e q.equation then Some q else None

abbrev pub clear_last_resort : Signature → AxiomDeclaration → SymInfo → StatedEquation
    → Option LastResortParts
clear_last_resort sig a info e =
    if has_attribute (codes "owise") a.attributes
    then clear_resort_of sig a info e (last_resort_parts e) else None

-- all variables of the condition and of the right side are bound
abbrev pub are_bound : Signature → StatedEquation → EquationParts → Bool
are_bound sig e q =
    is_bound (all_read q.patterns) (tested_pattern (condition_of_equation sig e q))
    && is_bound (all_read q.patterns) (Some q.right)
