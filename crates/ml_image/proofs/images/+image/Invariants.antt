use Rattle.std.proofs.Common.{◌≡◌, ◌+◌, ◌*◌, Some, take}
use Rattle.term_core.specs.RulePatterns.{plain_pattern}
use Rattle.term_core.specs.PatternLists.{plain_patterns}
use Rattle.term_core.proofs.PatternLaws.{depth, depths}
use Rattle.ml_image.specs.Numbering.{number_in}
use Rattle.ml_image.specs.Images.{applied, all_renamed}
use Rattle.ml_image.specs.Gained.{HasGained}
use Rattle.ml_image.proofs.images.+image.Given as goal

abbrev pub decreases-image : goal.decreases-image
decreases-image l = 2 * depth (plain_pattern l.pat.now)

abbrev pub decreases-applied : goal.decreases-applied
decreases-applied l = 2 * depths (plain_patterns l.args.now) + 1

abbrev pub invariant-applied-loop-arg : goal.invariant-applied-loop-arg
invariant-applied-loop-arg l =
    (applied l.sig l.names (Some l.initial.made)
    (all_renamed (number_in l.numbering) (plain_patterns (take l.arg-index l.args))) ≡ Some l.made)
    × HasGained l.sig l.initial.names l.names
