use Rattle.std.proofs.Common.{◌≡◌, ◌++◌, drop}
use Rattle.mm_claims.specs.Statements.{all_name_statements}
use Rattle.mm_database.specs.StatementTexts.{written_statements}
use Rattle.mm_render.proofs.renderer.push_names.Given as goal

abbrev pub invariant-loop-no : goal.invariant-loop-no
invariant-loop-no l = l.to.items
    ++ written_statements (all_name_statements l.no (drop l.no l.names))
    ≡ l.initial.to.items ++ written_statements (all_name_statements l.first (drop l.first l.names))
