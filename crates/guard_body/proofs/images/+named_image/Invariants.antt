use Rattle.std.proofs.Common.{◌≡◌, ◌+◌, ◌*◌, Some, take}
use Rattle.term_core.specs.RulePatterns.{plain_pattern}
use Rattle.term_core.specs.PatternLists.{plain_patterns}
use Rattle.term_core.proofs.PatternLaws.{depth, depths}
use Rattle.ml_image.specs.PartNames.{part_names, sides_renamed}
use Rattle.ml_image.specs.Sentences.{sentence_image}
use Rattle.guard_body.specs.Renaming.{itself}
use Rattle.guard_body.proofs.images.+named_image.Given as goal

abbrev pub decreases-named_image : goal.decreases-named_image
decreases-named_image l = 3 * depth (plain_pattern l.pat.now) + 2

abbrev pub decreases-part_image : goal.decreases-part_image
decreases-part_image l = 3 * depth (plain_pattern l.pat.now) + 1

abbrev pub decreases-sides_image : goal.decreases-sides_image
decreases-sides_image l = 3 * depths (plain_patterns l.args.now) + 3

abbrev pub invariant-sides_image-loop-i : goal.invariant-sides_image-loop-i
invariant-sides_image-loop-i l =
    sentence_image l.fn.cx.program.sig l.fn.cx.names
    (sides_renamed itself (part_names l.names) l.fn.symbol.0 (plain_patterns (take l.i l.args)))
    ≡ Some l.made
