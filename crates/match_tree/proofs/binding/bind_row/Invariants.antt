use Rattle.std.proofs.Common.{◌≡◌, length, drop}
use Rattle.term_core.specs.Forests.{forest}
use Rattle.term_core.specs.PatternLists.{plain_patterns}
use Rattle.rule_core.specs.MatchSteps.{all_matched}
use Rattle.match_tree.proofs.binding.bind_row.Given as goal

abbrev pub invariant-loop-i : goal.invariant-loop-i
invariant-loop-i g l = record {
  room : length l.subst ≡ length l.initial.subst;
  rest : all_matched l.subsorts (plain_patterns (drop l.i l.row)) (forest (drop l.i l.terms))
      l.subst
      ≡ all_matched l.subsorts (plain_patterns l.row) (forest l.terms) l.initial.subst;
}
