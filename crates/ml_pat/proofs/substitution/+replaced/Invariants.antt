use Rattle.std.proofs.Common.{◌≡◌, ◌*◌, ◌+◌, length}
use Rattle.ml_pat.specs.Patterns.{Pattern}
use Rattle.ml_pat.specs.FormsIn.{forms_in}
use Rattle.ml_pat.specs.Spines.{LeadsTo}
use Rattle.ml_pat.specs.Replacing.{replaced}
use Rattle.ml_pat.proofs.substitution.+replaced.Given as goal

abbrev pub decreases-replaced : goal.decreases-replaced
decreases-replaced l = 2 * forms_in l.pat.now + 1

abbrev pub decreases-replaced_around : goal.decreases-replaced_around
decreases-replaced_around l = 2 * forms_in l.pat.now

abbrev pub invariant-replaced-loop-part : goal.invariant-replaced-loop-part
invariant-replaced-loop-part l = LeadsTo l.fn.pat l.above.items l.lowest

abbrev pub decreases-replaced-loop-part : goal.decreases-replaced-loop-part
decreases-replaced-loop-part l = forms_in l.lowest

abbrev pub invariant-replaced-loop-whole : goal.invariant-replaced-loop-whole
invariant-replaced-loop-whole l =
    (p : Pattern) × (LeadsTo l.fn.pat l.above.items p × (l.made ≡ replaced l.fn.x.0 l.fn.by p))

abbrev pub decreases-replaced-loop-whole : goal.decreases-replaced-loop-whole
decreases-replaced-loop-whole l = length l.above.items
