use Rattle.std.proofs.Common.{◌≡◌}
use Rattle.ml_image.specs.Counted.{at_pairs}
use Rattle.ml_image.proofs.closing.at_pairs.Given as goal

abbrev pub invariant-loop-i : goal.invariant-loop-i
invariant-loop-i l = l.made ≡ at_pairs l.initial.made l.first l.second l.i
