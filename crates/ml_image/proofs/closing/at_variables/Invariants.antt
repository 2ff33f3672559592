use Rattle.std.proofs.Common.{◌≡◌}
use Rattle.ml_image.specs.Counted.{at_variables}
use Rattle.ml_image.proofs.closing.at_variables.Given as goal

abbrev pub invariant-loop-i : goal.invariant-loop-i
invariant-loop-i l = l.made ≡ at_variables l.initial.made l.first l.i
