use Rattle.std.proofs.Common.{◌*◌, ◌+◌, ◌≤◌}
use Rattle.ml_pat.specs.FormsIn.{forms_in}
use Rattle.ml_pat.specs.Dropping.{later_forms, later_weight}
use Rattle.ml_pat.proofs.+pattern_drop.Given as goal

abbrev pub decreases-patterns::MPat::drop : goal.decreases-patterns::MPat::drop
decreases-patterns::MPat::drop l = goal.size-patterns::MPat::drop l

abbrev pub decreases-patterns::MPat::next_later : goal.decreases-patterns::MPat::next_later
decreases-patterns::MPat::next_later l = goal.size-patterns::MPat::next_later l

abbrev pub decreases-patterns::Node::take_apart : goal.decreases-patterns::Node::take_apart
decreases-patterns::Node::take_apart l = goal.size-patterns::Node::take_apart l

abbrev pub invariant-patterns::MPat::drop-loop-later : goal.invariant-patterns::MPat::drop-loop-later
invariant-patterns::MPat::drop-loop-later l =
    forms_in l.self + later_forms l.later ≤ forms_in l.fn.self

abbrev pub decreases-patterns::MPat::drop-loop-later : goal.decreases-patterns::MPat::drop-loop-later
decreases-patterns::MPat::drop-loop-later l = 2 * forms_in l.self + later_weight l.later
