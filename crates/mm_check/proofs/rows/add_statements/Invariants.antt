use Rattle.std.proofs.Common.{◌≡◌, take, map}
use Rattle.rule_core.specs.DistinctNames.{names_of}
use Rattle.mm_header.specs.HeaderTable.{row_of}
use Rattle.mm_check.specs.HeaderLookup.{statement_texts}
use Rattle.mm_check.proofs.rows.add_statements.Given as goal

abbrev pub invariant-loop-row : goal.invariant-loop-row
invariant-loop-row l =
    names_of l.numbers ≡ take l.row-index (statement_texts (map row_of l.rows))
