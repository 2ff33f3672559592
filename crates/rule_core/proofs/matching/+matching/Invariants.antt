use Rattle.std.proofs.Common.{◌≡◌, ◌≤◌, ◌+◌, ◌*◌, length, drop}
use Rattle.term_core.specs.Forests.{forest, children}
use Rattle.term_core.specs.RulePatterns.{plain_pattern}
use Rattle.term_core.specs.PatternLists.{plain_patterns}
use Rattle.term_core.proofs.PatternLaws.{depth, depths}
use Rattle.rule_core.specs.MatchSearch.{all_nodes}
use Rattle.rule_core.specs.MatchSteps.{all_matched}
use Rattle.rule_core.proofs.matching.+matching.Given as goal

abbrev pub decreases-match_term : goal.decreases-match_term
decreases-match_term g l = 3 * depth (plain_pattern l.pat.now)

abbrev pub decreases-match_children : goal.decreases-match_children
decreases-match_children g l = 3 * depths (plain_patterns l.pats.now) + 1

abbrev pub decreases-match_lowered : goal.decreases-match_lowered
decreases-match_lowered g l = 3 * depth (plain_pattern l.pat.now) + 2

abbrev pub decreases-match_injected : goal.decreases-match_injected
decreases-match_injected g l = 3 * depth (plain_pattern l.pat.now) + 1

abbrev pub invariant-match_children-loop-i : goal.invariant-match_children-loop-i
invariant-match_children-loop-i g l = record {
  room : length l.subst ≡ length l.initial.subst;
  rest : all_matched l.subsorts (plain_patterns (drop l.i l.pats))
      (forest (drop l.i (children l.term))) l.subst
      ≡ all_matched l.subsorts (plain_patterns l.pats) (forest (children l.term)) l.initial.subst;
  looks : l.steps + all_nodes (plain_patterns (drop l.i l.pats))
      ≤ l.initial.steps + all_nodes (plain_patterns l.pats);
}
