use Rattle.std.proofs.Common.{◌≡◌, ◌+◌, ◌*◌, Some, take}
use Rattle.term_core.specs.RulePatterns.{plain_pattern}
use Rattle.term_core.specs.PatternLists.{plain_patterns}
use Rattle.term_core.proofs.PatternLaws.{depth, depths}
use Rattle.ml_image.specs.Numbering.{number_in}
use Rattle.ml_image.specs.Gained.{HasGained}
use Rattle.ml_image.specs.PartNames.{part_names, sides_renamed}
use Rattle.ml_image.specs.Sentences.{sentence_image}
use Rattle.ml_image.proofs.left_sides.+left_image.Given as goal

abbrev pub decreases-left_image : goal.decreases-left_image
decreases-left_image l = 3 * depth (plain_pattern l.pat.now) + 2

abbrev pub decreases-part_image : goal.decreases-part_image
decreases-part_image l = 3 * depth (plain_pattern l.pat.now) + 1

abbrev pub decreases-sides_image : goal.decreases-sides_image
decreases-sides_image l = 3 * depths (plain_patterns l.args.now) + 3

abbrev pub invariant-sides_image-loop-i : goal.invariant-sides_image-loop-i
invariant-sides_image-loop-i l = record {
  images : sentence_image l.sig l.names
      (sides_renamed (number_in l.numbering) (part_names l.parts) l.fn.symbol.0 (plain_patterns
      (take l.i l.args)))
      ≡ Some l.made;
  gained : HasGained l.sig l.initial.names l.names;
}
