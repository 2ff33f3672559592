use Rattle.std.proofs.Common.{◌≡◌, ◌*◌, ◌+◌, ◌≤◌}
use Rattle.ml_pat.specs.FormsIn.{forms_in}
use Rattle.ml_pat.specs.Judgements.{predicate}
use Rattle.ml_pat.specs.PatternView.{pattern_of}
use Rattle.ml_pat.proofs.judgements.+is_pred.Given as goal

abbrev pub decreases-is_pred : goal.decreases-is_pred
decreases-is_pred l = 2 * forms_in l.pat.now + 1

abbrev pub decreases-predicate_by_form : goal.decreases-predicate_by_form
decreases-predicate_by_form l = 2 * forms_in (pattern_of l.form.now)

abbrev pub decreases-is_pred-loop-answer : goal.decreases-is_pred-loop-answer
decreases-is_pred-loop-answer l = forms_in l.part

abbrev pub invariant-is_pred-loop-answer : goal.invariant-is_pred-loop-answer
invariant-is_pred-loop-answer l =
    (predicate l.part ≡ predicate l.fn.pat) × (forms_in l.part ≤ forms_in l.fn.pat)
