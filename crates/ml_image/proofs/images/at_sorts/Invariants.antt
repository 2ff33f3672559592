use Rattle.std.proofs.Common.{◌≡◌, Some, take}
use Rattle.term_core.specs.RulePatterns.{sort_numbers}
use Rattle.ml_image.specs.Images.{at_sorts}
use Rattle.ml_image.specs.Gained.{HasGained}
use Rattle.ml_image.proofs.images.at_sorts.Given as goal

abbrev pub invariant-loop-sort : goal.invariant-loop-sort
invariant-loop-sort l =
    (at_sorts l.sig l.names (Some l.initial.made) (sort_numbers (take l.sort-index l.sorts))
    ≡ Some l.made) × HasGained l.sig l.initial.names l.names
