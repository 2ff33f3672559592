use Rattle.std.proofs.Common.{◌≡◌, ◌*◌, ◌+◌, length}
use Rattle.ml_pat.specs.Patterns.{Pattern}
use Rattle.ml_pat.specs.FormsIn.{forms_in}
use Rattle.ml_kernel.specs.Lemmas.{instance}
use Rattle.ml_pat.specs.Spines.{LeadsTo}
use Rattle.ml_kernel.proofs.instances.+filled.Given as goal

abbrev pub decreases-filled : goal.decreases-filled
decreases-filled l = 2 * forms_in l.pat.now + 1

abbrev pub decreases-filled_around : goal.decreases-filled_around
decreases-filled_around l = 2 * forms_in l.pat.now

abbrev pub invariant-filled-loop-part : goal.invariant-filled-loop-part
invariant-filled-loop-part l = LeadsTo l.fn.pat l.above.items l.lowest

abbrev pub decreases-filled-loop-part : goal.decreases-filled-loop-part
decreases-filled-loop-part l = forms_in l.lowest

abbrev pub invariant-filled-loop-whole : goal.invariant-filled-loop-whole
invariant-filled-loop-whole l =
    (p : Pattern) × (LeadsTo l.fn.pat l.above.items p × (l.made ≡ instance l.fn.metas p))

abbrev pub decreases-filled-loop-whole : goal.decreases-filled-loop-whole
decreases-filled-loop-whole l = length l.above.items
