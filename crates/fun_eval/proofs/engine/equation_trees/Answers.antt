use Rattle.rule_core.specs.ProgramView.{theory_of}
use Rattle.fun_eval.proofs.EquationTrees.{one_more}
use Rattle.fun_eval.proofs.engine.equation_trees.Goals as goal

pub loop-i-preserved : goal.loop-i-preserved
loop-i-preserved c =
    one_more (theory_of c.args.program.now) c.loop-i.i c.loop-i.trees.items c.push.new.self.items
    c.in_ok-equation_tree.field-0 c.loop-i.invariant c.in_ok-push.ensures.items
    c.in_ok-equation_tree.ensures
