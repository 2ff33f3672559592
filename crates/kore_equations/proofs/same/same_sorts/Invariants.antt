use Rattle.term_core.specs.RulePatterns.{sort_numbers}
use Rattle.kore_equations.proofs.SameLists.{AreSameFrom}
use Rattle.kore_equations.proofs.same.same_sorts.Given as goal

abbrev pub invariant-loop-i : goal.invariant-loop-i
invariant-loop-i l = AreSameFrom sort_numbers l.sorts l.others l.i
