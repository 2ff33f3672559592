use Rattle.term_core.specs.PatternLists.{plain_patterns}
use Rattle.kore_equations.proofs.SameLists.{AreSameFrom}
use Rattle.kore_equations.proofs.same.+same.Given as goal

abbrev pub invariant-same_patterns-loop-i : goal.invariant-same_patterns-loop-i
invariant-same_patterns-loop-i l = AreSameFrom plain_patterns l.pats l.others l.i
