use Rattle.std.proofs.Common.{◌≡◌, ◌++◌, take}
use Rattle.mm_claims.specs.Blocks.{variable_statements}
use Rattle.mm_render.specs.VariablesView.{plain_variables}
use Rattle.mm_database.specs.StatementTexts.{written_statements}
use Rattle.mm_render.proofs.heads.push_variables.Given as goal

abbrev pub invariant-loop-variable : goal.invariant-loop-variable
invariant-loop-variable l = l.to.items
    ≡ l.initial.to.items
    ++ written_statements
    (variable_statements l.serial (plain_variables (take l.variable-index l.variables)))
