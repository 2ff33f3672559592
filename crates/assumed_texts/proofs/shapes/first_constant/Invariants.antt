use Rattle.std.proofs.Common.{◌≡◌}
use Rattle.ml_pat.specs.FormsIn.{forms_in}
use Rattle.assumed_texts.specs.Shapes.{first_constant}
use Rattle.assumed_texts.proofs.shapes.first_constant.Given as goal

abbrev pub invariant-loop-c : goal.invariant-loop-c
invariant-loop-c l = first_constant l.at ≡ first_constant l.fn.pat

abbrev pub decreases-loop-c : goal.decreases-loop-c
decreases-loop-c l = forms_in l.at
