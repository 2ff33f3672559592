use Rattle.std.proofs.Common.{◌≡◌, take, map}
use Rattle.rule_core.specs.ProgramView.{rewrite_rule}
use Rattle.pat_matrix.specs.Rows.{collapsed_rows}
use Rattle.pat_matrix.specs.MatrixView.{lent_rows}
use Rattle.match_tree.specs.Programs.{rule_row}
use Rattle.match_tree.proofs.programs.left_sides.Given as goal

abbrev pub invariant-loop-rule : goal.invariant-loop-rule
invariant-loop-rule l =
    collapsed_rows (lent_rows l.rows.items)
    ≡ map (λ rule. rule_row (rewrite_rule rule)) (take l.rule-index l.rules)
