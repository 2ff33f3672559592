use Rattle.std.proofs.Common.{ap, map}
use Rattle.term_core.specs.RulePatterns.{plain_pattern}
use Rattle.rule_core.specs.ProgramView.{rewrite_rule}
use Rattle.rule_core.specs.declared.rules.Rule.{Rule}
use Rattle.pat_matrix.specs.Collapsed.{collapsed}
use Rattle.match_tree.specs.Programs.{rule_row}
use Rattle.match_tree.proofs.ProgramRows.{rows_next}
use Rattle.match_tree.proofs.programs.left_sides.Goals as goal

pub loop-rule-preserved : goal.loop-rule-preserved
loop-rule-preserved c =
    rows_next (λ (rule : Rule). rule_row (rewrite_rule rule)) c.args.rules.now
    c.loop-rule.rule-index c.rule-item.result _ _ _ c.loop-rule-test.true c.rule-item.is
    c.in_ok-push.ensures.items
    (ap (λ ps. map collapsed (map plain_pattern ps)) c.from_ref.ensures.value)
    c.loop-rule.invariant
