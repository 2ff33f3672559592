use Rattle.std.proofs.Common.{◌≡◌, ◌↔◌, ◌*◌, ◌+◌, ◌≤◌}
use Rattle.ml_pat.specs.FormsIn.{forms_in}
use Rattle.ml_pat.specs.PatternView.{pattern_of}
use Rattle.ml_pat.proofs.+same.Given as goal

abbrev pub decreases-same::compared : goal.decreases-same::compared
decreases-same::compared l = 2 * forms_in (pattern_of l.form.now)

abbrev pub decreases-patterns::MPat::same : goal.decreases-patterns::MPat::same
decreases-patterns::MPat::same l = 2 * forms_in l.self.now + 1

abbrev pub decreases-patterns::MPat::same-loop-same : goal.decreases-patterns::MPat::same-loop-same
decreases-patterns::MPat::same-loop-same l = forms_in l.p

abbrev pub invariant-patterns::MPat::same-loop-same : goal.invariant-patterns::MPat::same-loop-same
invariant-patterns::MPat::same-loop-same l =
    ((l.p ≡ l.q) ↔ (l.fn.self ≡ l.fn.other)) × (forms_in l.p ≤ forms_in l.fn.self)
