use Rattle.std.proofs.Common.{◌≡◌, take}
use Rattle.term_core.specs.RulePatterns.{sort_numbers}
use Rattle.rule_core.specs.ProgramView.{sorts_of}
use Rattle.refute_tests.proofs.left_sides.variable_sorts.Given as goal

abbrev pub invariant-loop-var : goal.invariant-loop-var
invariant-loop-var l = sort_numbers l.sorts.items ≡ sorts_of (take l.var-index l.vars)
