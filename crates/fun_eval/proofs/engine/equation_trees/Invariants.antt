use Rattle.rule_core.specs.ProgramView.{theory_of}
use Rattle.fun_eval.proofs.EquationTrees.{AreFirstTrees}
use Rattle.fun_eval.proofs.engine.equation_trees.Given as goal

abbrev pub invariant-loop-i : goal.invariant-loop-i
invariant-loop-i l = AreFirstTrees (theory_of l.program) l.i l.trees.items
