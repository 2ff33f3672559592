use Rattle.rule_core.specs.ProgramView.{sorts_of}
use Rattle.kore_equations.proofs.SameLists.{AreSameFrom}
use Rattle.kore_equations.proofs.guards.same_sorts.Given as goal

abbrev pub invariant-loop-i : goal.invariant-loop-i
invariant-loop-i l = AreSameFrom sorts_of l.vars l.others l.i
