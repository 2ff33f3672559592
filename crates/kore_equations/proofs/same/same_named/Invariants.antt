use Rattle.rule_core.specs.ProgramView.{names_of}
use Rattle.kore_equations.proofs.SameLists.{AreSameFrom}
use Rattle.kore_equations.proofs.same.same_named.Given as goal

abbrev pub invariant-loop-i : goal.invariant-loop-i
invariant-loop-i l = AreSameFrom names_of l.named l.others l.i
