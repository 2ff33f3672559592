use Rattle.std.proofs.Common.{◌≡◌, ◌++◌, ◌*◌, ◌+◌, take}
use Rattle.term_core.specs.RulePatterns.{plain_pattern}
use Rattle.term_core.specs.PatternLists.{plain_patterns}
use Rattle.term_core.proofs.PatternLaws.{depth, depths}
use Rattle.pat_matrix.specs.Occurrences.{all_occurrences}
use Rattle.pat_matrix.specs.PlaceView.{occurrences_of}
use Rattle.pat_matrix.proofs.places.+places.Given as goal

abbrev pub decreases-add : goal.decreases-add
decreases-add l = 3 * depth (plain_pattern l.pat.now)

abbrev pub decreases-add_under : goal.decreases-add_under
decreases-add_under l = 3 * depth (plain_pattern l.pat.now) + 1

abbrev pub decreases-add_all : goal.decreases-add_all
decreases-add_all l = 3 * depths (plain_patterns l.pats.now) + 1

abbrev pub invariant-add_all-loop-i : goal.invariant-add_all-loop-i
invariant-add_all-loop-i l =
    occurrences_of l.all.items
    ≡ occurrences_of l.initial.all.items
    ++ all_occurrences l.position 0 (plain_patterns (take l.i l.pats))
