use Rattle.fun_eval.proofs.LastResorts.{one_list_more}
use Rattle.fun_eval.proofs.engine.last_resorts.Goals as goal

pub loop-equations-preserved : goal.loop-equations-preserved
loop-equations-preserved c =
    one_list_more c.args.program.now.equations.items c.deref-equations-items.result.now
    c.loop-equations.equations-index
    c.equations-item.result c.loop-equations.found.items c.push.new.self.items
    c.any_last_resort.result c.deref.result.now c.deref-equations-items.ensures.value
    c.equations-item.is c.loop-equations-test.true
    c.loop-equations.invariant c.in_ok-push.ensures.items c.any_last_resort.ensures
    c.deref.ensures.value
