use Rattle.std.proofs.Common.{◌≡◌, ◌++◌, take}
use Rattle.mm_claims.specs.Blocks.{premise_statements}
use Rattle.mm_database.specs.StatementTexts.{written_statements}
use Rattle.mm_render.proofs.heads.push_premises.Given as goal

abbrev pub invariant-loop-no : goal.invariant-loop-no
invariant-loop-no l = l.to.items
    ≡ l.initial.to.items
    ++ written_statements (premise_statements l.names l.serial 0 (take l.no l.hypotheses))
