use Rattle.std.proofs.Common.{◌≡◌, ◌+◌, ◌*◌, ◌++◌, drop, map}
use Rattle.term_core.specs.RulePatterns.{plain_pattern}
use Rattle.term_core.specs.PatternLists.{plain_patterns}
use Rattle.term_core.proofs.PatternLaws.{depth, depths}
use Rattle.ml_image.specs.PartNames.{part_names}
use Rattle.refute.proofs.ChosenLists.{chosen_list}
use Rattle.refute.proofs.choosing.+chosen.Given as goal

abbrev pub decreases-chosen : goal.decreases-chosen
decreases-chosen l = 3 * depth (plain_pattern l.pat.now) + 2

abbrev pub decreases-part_chosen : goal.decreases-part_chosen
decreases-part_chosen l = 3 * depth (plain_pattern l.pat.now) + 1

abbrev pub decreases-all_chosen : goal.decreases-all_chosen
decreases-all_chosen l = 3 * depths (plain_patterns l.args.now) + 3

abbrev pub invariant-all_chosen-loop-i : goal.invariant-all_chosen-loop-i
invariant-all_chosen-loop-i l =
    map plain_pattern l.done.items
    ++ chosen_list l.x (part_names l.names) l.i (drop l.i l.args)
    ≡ chosen_list l.x (part_names l.names) 0 l.args
