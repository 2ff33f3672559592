use Rattle.std.proofs.Common.{◌≡◌, map, take}
use Rattle.term_core.specs.RulePatterns.{plain_pattern}
use Rattle.term_core.specs.declared.rule_patterns.RulePat.{RulePat}
use Rattle.pat_matrix.specs.Collapsed.{collapsed}
use Rattle.pat_matrix.proofs.collapsing.+collapsed.Given as goal

abbrev pub invariant-all_collapsed-loop-pat : goal.invariant-all_collapsed-loop-pat
invariant-all_collapsed-loop-pat l =
    map plain_pattern l.done.items
    ≡ map (λ (p : RulePat). collapsed (plain_pattern p)) (take l.pat-index l.pats)
