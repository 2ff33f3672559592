use Rattle.std.proofs.Common.{◌≡◌, ◌*◌, ◌+◌, ◌≤◌}
use Rattle.ml_pat.specs.FormsIn.{forms_in}
use Rattle.ml_pat.specs.Judgements.{fresh}
use Rattle.ml_pat.specs.PatternView.{pattern_of}
use Rattle.ml_pat.proofs.judgements.+fresh.Given as goal

abbrev pub decreases-fresh : goal.decreases-fresh
decreases-fresh l = 2 * forms_in l.pat.now + 1

abbrev pub decreases-fresh_by_form : goal.decreases-fresh_by_form
decreases-fresh_by_form l = 2 * forms_in (pattern_of l.form.now)

abbrev pub decreases-fresh-loop-answer : goal.decreases-fresh-loop-answer
decreases-fresh-loop-answer l = forms_in l.part

abbrev pub invariant-fresh-loop-answer : goal.invariant-fresh-loop-answer
invariant-fresh-loop-answer l =
    (fresh l.fn.x.0 l.part ≡ fresh l.fn.x.0 l.fn.pat) × (forms_in l.part ≤ forms_in l.fn.pat)
