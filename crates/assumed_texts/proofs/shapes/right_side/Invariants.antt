use Rattle.std.proofs.Common.{◌≡◌}
use Rattle.assumed_texts.specs.Shapes.{right_side}
use Rattle.assumed_texts.proofs.shapes.right_side.Given as goal

abbrev pub invariant-loop-q : goal.invariant-loop-q
invariant-loop-q l = right_side l.at ≡ right_side l.fn.pat
