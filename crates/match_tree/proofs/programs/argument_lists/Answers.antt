use Rattle.std.proofs.Common.{◌∙◌, ap, map}
use Rattle.term_core.specs.RulePatterns.{plain_pattern}
use Rattle.rule_core.specs.ProgramView.{function_equation}
use Rattle.rule_core.specs.declared.rules.Equation.{Equation}
use Rattle.pat_matrix.specs.Collapsed.{collapsed}
use Rattle.match_tree.specs.Programs.{equation_row}
use Rattle.match_tree.proofs.ProgramRows.{rows_next, arguments_row}
use Rattle.match_tree.proofs.programs.argument_lists.Goals as goal

pub loop-equation-preserved : goal.loop-equation-preserved
loop-equation-preserved c =
    rows_next (λ (e : Equation). equation_row (function_equation e)) c.args.equations.now
    c.loop-equation.equation-index c.equation-item.result _ _ _ c.loop-equation-test.true
    c.equation-item.is c.in_ok-push.ensures.items
    (ap (λ ps. map collapsed (map plain_pattern ps)) c.as_slice.ensures.value
    ∙ arguments_row c.equation-item.result.args.items)
    c.loop-equation.invariant
