use Rattle.rule_core.specs.ProgramView.{theory_of}
use Rattle.run_tests.proofs.trees.found.Goals as goal

pub rows_that_match-requires-clause-wide : goal.rows_that_match-requires-clause-wide
rows_that_match-requires-clause-wide c =
    c.program_laws.ensures.rule_width (theory_of c.in_ok-program.program) c.in-Ok.tree c.in-Ok.ensures
