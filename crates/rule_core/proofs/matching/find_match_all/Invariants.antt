use Rattle.std.proofs.Common.{◌≡◌, ◌≤◌, ◌+◌, length, drop, replicate, None}
use Rattle.term_core.specs.Forests.{forest}
use Rattle.term_core.specs.PatternLists.{plain_patterns}
use Rattle.rule_core.specs.MatchSearch.{all_nodes}
use Rattle.rule_core.specs.MatchSteps.{all_matched}
use Rattle.rule_core.proofs.matching.find_match_all.Given as goal

abbrev pub invariant-loop-pat : goal.invariant-loop-pat
invariant-loop-pat g l = record {
  room : length l.subst ≡ l.vars;
  rest : all_matched l.subsorts (plain_patterns (drop (length l.yielded) l.pats)) (forest (drop
      (length l.yielded) l.terms))
      l.subst
      ≡ all_matched l.subsorts (plain_patterns l.pats) (forest l.terms) (replicate l.vars None);
  looks : l.steps + all_nodes (plain_patterns (drop (length l.yielded) l.pats))
      ≤ l.initial.steps + all_nodes (plain_patterns l.pats);
}
