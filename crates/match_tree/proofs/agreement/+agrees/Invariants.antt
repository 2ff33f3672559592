use Rattle.std.proofs.Common.{◌≡◌, ◌+◌, ◌*◌, drop}
use Rattle.term_core.specs.Forests.{children}
use Rattle.term_core.specs.RulePatterns.{plain_pattern}
use Rattle.term_core.specs.PatternLists.{plain_patterns}
use Rattle.term_core.proofs.PatternLaws.{depth, depths}
use Rattle.match_tree.specs.Agreement.{all_agree}
use Rattle.match_tree.proofs.agreement.+agrees.Given as goal

abbrev pub decreases-agrees : goal.decreases-agrees
decreases-agrees g l = 2 * depth (plain_pattern l.pat.now)

abbrev pub decreases-children_agree : goal.decreases-children_agree
decreases-children_agree g l = 2 * depths (plain_patterns l.pats.now) + 1

abbrev pub invariant-children_agree-loop-i : goal.invariant-children_agree-loop-i
invariant-children_agree-loop-i g l =
    all_agree l.subsorts (plain_patterns (drop l.i l.pats)) (drop l.i (children l.term))
    ≡ all_agree l.subsorts (plain_patterns l.pats) (children l.term)
