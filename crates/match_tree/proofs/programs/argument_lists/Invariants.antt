use Rattle.std.proofs.Common.{◌≡◌, take, map}
use Rattle.rule_core.specs.ProgramView.{function_equation}
use Rattle.pat_matrix.specs.Rows.{collapsed_rows}
use Rattle.pat_matrix.specs.MatrixView.{lent_rows}
use Rattle.match_tree.specs.Programs.{equation_row}
use Rattle.match_tree.proofs.programs.argument_lists.Given as goal

abbrev pub invariant-loop-equation : goal.invariant-loop-equation
invariant-loop-equation l =
    collapsed_rows (lent_rows l.rows.items)
    ≡ map (λ e. equation_row (function_equation e)) (take l.equation-index l.equations)
