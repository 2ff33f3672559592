use Rattle.std.proofs.Common.{◌≡◌, ◌+◌, ◌*◌, length, drop}
use Rattle.term_core.specs.Forests.{forest, children}
use Rattle.term_core.specs.RulePatterns.{plain_pattern}
use Rattle.term_core.specs.PatternLists.{plain_patterns}
use Rattle.term_core.proofs.PatternLaws.{depth, depths}
use Rattle.rule_core.specs.MatchSteps.{all_matched}
use Rattle.match_tree.proofs.binding.+binding.Given as goal

abbrev pub decreases-bind : goal.decreases-bind
decreases-bind g l = 2 * depth (plain_pattern l.pat.now)

abbrev pub decreases-bind_children : goal.decreases-bind_children
decreases-bind_children g l = 2 * depths (plain_patterns l.pats.now) + 1

abbrev pub decreases-bind_under : goal.decreases-bind_under
decreases-bind_under g l = 2 * depth (plain_pattern l.pat.now)

abbrev pub invariant-bind_children-loop-i : goal.invariant-bind_children-loop-i
invariant-bind_children-loop-i g l = record {
  room : length l.subst ≡ length l.initial.subst;
  rest : all_matched l.subsorts (plain_patterns (drop l.i l.pats))
      (forest (drop l.i (children l.term))) l.subst
      ≡ all_matched l.subsorts (plain_patterns l.pats) (forest (children l.term)) l.initial.subst;
}
