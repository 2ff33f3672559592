use Rattle.match_tree.proofs.ProgramLaws.{walk_goes_on, rule_tree_is_wide, rule_walk_tells}
use Rattle.match_tree.proofs.ProgramLaws.{equation_tree_is_wide, equation_walk_tells}
use Rattle.match_tree.proofs.ProgramLaws.{unmatched_equations_are_skipped}
use Rattle.match_tree.proofs.laws.program_laws.Goals as goal

pub returns-clause-goes_on : goal.returns-clause-goes_on
returns-clause-goes_on c = walk_goes_on

pub returns-clause-rule_width : goal.returns-clause-rule_width
returns-clause-rule_width c = rule_tree_is_wide

pub returns-clause-rules : goal.returns-clause-rules
returns-clause-rules c = rule_walk_tells

pub returns-clause-equation_width : goal.returns-clause-equation_width
returns-clause-equation_width c = equation_tree_is_wide

pub returns-clause-equations : goal.returns-clause-equations
returns-clause-equations c = equation_walk_tells

pub returns-clause-skipped : goal.returns-clause-skipped
returns-clause-skipped c = unmatched_equations_are_skipped
