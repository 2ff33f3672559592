-- The faults of the form of a rewrite rule.
use Rattle.std.specs.Prelude.{ℕ, List, [], ◌∷◌, Bool, true, false, ◌||◌, Option, Some, None}
use Rattle.kore_text.specs.Trees.{PatternTree, AxiomDeclaration}
use Rattle.kore_sig.specs.FirstFault.{Fault, faults_of_tests}
use Rattle.kore_shapes.specs.Forms.{others, all_forms, has_form, has_binder}
use Rattle.kore_shapes.specs.Shapes.{Side, without, misshapen}
use Rattle.kore_axioms.specs.Conditions.{tested_pattern, is_ill}
use Rattle.kore_axioms.specs.LeftNames.{is_badly_named}
use Rattle.kore_axioms.specs.RuleParts.{RuleParts, left_of, right_of}
use Rattle.kore_axioms.specs.Priorities.{has_bad_priority}

-- there is a pattern, and the test holds of it
abbrev pub holds_of : (PatternTree → Bool) → Option PatternTree → Bool
holds_of test None = false
holds_of test (Some p) = test p

abbrev pub is_misshapen : Side → Bool
is_misshapen misshapen = true
is_misshapen _ = false

abbrev pub is_without : Side → Bool
is_without without = true
is_without _ = false

-- a side is an `\and` of another sort or of another number of patterns, or a side or the tested
-- pattern contains a form that no rule has; an `\and` inside the left side may name a part
abbrev pub has_bad_form : RuleParts → Bool
has_bad_form w =
    (is_misshapen w.before || is_misshapen w.after)
    || (holds_of (has_form others) (left_of w)
    || (holds_of (has_form all_forms) (tested_pattern w.condition)
    || holds_of (has_form all_forms) (right_of w)))

-- The faults of the form, all at the axiom.
-- 13: a side or the tested pattern has a bad form.
-- 15: a binder or a set variable occurs somewhere.
-- 16: the right side is an `\and` without `\top`.
-- 17: the left side is an `\and` without a condition, or the condition has another form.
-- 22: an `\and` inside the left side has not two patterns, or is not of an element variable and a
-- pattern that is no variable, or its variable stands elsewhere in the left side.
-- 23: the priority is no number of one to nine digits.
abbrev pub form_tests : AxiomDeclaration → RuleParts → List (Bool × ℕ)
form_tests a w =
    (has_bad_form w, 13)
    ∷ ((has_binder a.pattern, 15)
    ∷ ((is_without w.after, 16)
    ∷ ((is_without w.before || is_ill w.condition, 17)
    ∷ ((holds_of is_badly_named (left_of w), 22)
    ∷ ((has_bad_priority a.attributes, 23) ∷ [])))))

abbrev pub form_faults : AxiomDeclaration → RuleParts → List Fault
form_faults a w = faults_of_tests a.at (form_tests a w)
