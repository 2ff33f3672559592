use Rattle.std.proofs.Common.{◌+◌, ◌*◌}
use Rattle.term_core.specs.RulePatterns.{plain_pattern}
use Rattle.term_core.specs.PatternLists.{plain_patterns}
use Rattle.term_core.proofs.PatternLaws.{depth, depths}
use Rattle.ml_image.specs.PartNames.{part_names}
use Rattle.refute.proofs.DroppingLaws.{AreAppliedFrom}
use Rattle.refute.proofs.dropping.+dropped.Given as goal

abbrev pub decreases-dropped : goal.decreases-dropped
decreases-dropped l = 3 * depth (plain_pattern l.pat.now) + 2

abbrev pub decreases-part_dropped : goal.decreases-part_dropped
decreases-part_dropped l = 3 * depth (plain_pattern l.pat.now) + 1

abbrev pub decreases-all_dropped : goal.decreases-all_dropped
decreases-all_dropped l = 3 * depths (plain_patterns l.args.now) + 3

abbrev pub invariant-all_dropped-loop-i : goal.invariant-all_dropped-loop-i
invariant-all_dropped-loop-i l =
    AreAppliedFrom l.fn.cx (part_names l.names) l.x l.fn.constructor.0 l.i l.args l.present
