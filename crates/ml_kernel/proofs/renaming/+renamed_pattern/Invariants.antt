use Rattle.std.proofs.Common.{◌≡◌, ◌*◌, ◌+◌, length}
use Rattle.ml_pat.specs.Patterns.{Pattern}
use Rattle.ml_pat.specs.FormsIn.{forms_in}
use Rattle.ml_kernel.specs.Renamings.{by_place, renamed}
use Rattle.ml_kernel.specs.StepView.{numbers_of}
use Rattle.ml_pat.specs.Spines.{LeadsTo}
use Rattle.ml_kernel.proofs.renaming.+renamed_pattern.Given as goal

abbrev pub decreases-renamed_pattern : goal.decreases-renamed_pattern
decreases-renamed_pattern l = 2 * forms_in l.pat.now + 1

abbrev pub decreases-renamed_around : goal.decreases-renamed_around
decreases-renamed_around l = 2 * forms_in l.pat.now

abbrev pub invariant-renamed_pattern-loop-part : goal.invariant-renamed_pattern-loop-part
invariant-renamed_pattern-loop-part l = LeadsTo l.fn.pat l.above.items l.lowest

abbrev pub decreases-renamed_pattern-loop-part : goal.decreases-renamed_pattern-loop-part
decreases-renamed_pattern-loop-part l = forms_in l.lowest

abbrev pub invariant-renamed_pattern-loop-whole : goal.invariant-renamed_pattern-loop-whole
invariant-renamed_pattern-loop-whole l =
    (p : Pattern) × (LeadsTo l.fn.pat l.above.items p × (l.made ≡ renamed (by_place (numbers_of l.fn.new)) p))

abbrev pub decreases-renamed_pattern-loop-whole : goal.decreases-renamed_pattern-loop-whole
decreases-renamed_pattern-loop-whole l = length l.above.items
