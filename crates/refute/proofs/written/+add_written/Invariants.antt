use Rattle.std.proofs.Common.{◌≡◌, ◌+◌, ◌*◌, drop}
use Rattle.term_core.specs.RulePatterns.{plain_pattern}
use Rattle.term_core.specs.PatternLists.{plain_patterns}
use Rattle.term_core.proofs.PatternLaws.{depth, depths}
use Rattle.ml_image.specs.PartNames.{part_names}
use Rattle.refute.specs.Written.{and_new_in_all}
use Rattle.refute.proofs.written.+add_written.Given as goal

abbrev pub decreases-add_written : goal.decreases-add_written
decreases-add_written l = 3 * depth (plain_pattern l.pat.now) + 2

abbrev pub decreases-add_part : goal.decreases-add_part
decreases-add_part l = 3 * depth (plain_pattern l.pat.now) + 1

abbrev pub decreases-add_all_written : goal.decreases-add_all_written
decreases-add_all_written l = 3 * depths (plain_patterns l.args.now) + 3

abbrev pub invariant-add_all_written-loop-i : goal.invariant-add_all_written-loop-i
invariant-add_all_written-loop-i l =
    and_new_in_all l.variables.items (part_names l.names) l.i (plain_patterns (drop l.i l.args))
    ≡ and_new_in_all l.fn.variables.items (part_names l.names) 0 (plain_patterns l.args)
