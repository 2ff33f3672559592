use Rattle.std.proofs.Common.{◌≡◌, ◌+◌, ◌*◌, map, take}
use Rattle.term_core.specs.Terms.{height, heights}
use Rattle.term_core.specs.Forests.{forest, children}
use Rattle.term_core.specs.Patterns.{ground_pattern}
use Rattle.term_core.specs.RulePatterns.{plain_pattern}
use Rattle.term_core.proofs.rule_patterns.+copied.Given as goal

abbrev pub decreases-copied : goal.decreases-copied
decreases-copied l = 2 * height l.term.now

abbrev pub decreases-copied_children : goal.decreases-copied_children
decreases-copied_children l = 2 * heights (forest (children l.term.now)) + 1

abbrev pub invariant-copied_children-loop-i : goal.invariant-copied_children-loop-i
invariant-copied_children-loop-i l =
    map plain_pattern l.pats.items ≡ map ground_pattern (take l.i (children l.term))
