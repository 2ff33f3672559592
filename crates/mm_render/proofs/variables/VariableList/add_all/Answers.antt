use Rattle.mm_render.specs.ListedVariables.{listed}
use Rattle.mm_render.proofs.StackedVariables.{form_taken, taken_smaller}
use Rattle.mm_render.proofs.variables.VariableList.add_all.Goals as goal

pub loop-next-smaller : goal.loop-next-smaller
loop-next-smaller c =
    taken_smaller c.in-Some.next c.loop-next.stack.items c.pop.new.self.items
    c.take_form.new.stack.items (listed c.loop-next.self) (listed c.take_form.new.self)
    c.in-Some.ensures.items c.in_ok-take_form.ensures

pub loop-next-preserved : goal.loop-next-preserved
loop-next-preserved c =
    form_taken c.in-Some.next c.loop-next.stack.items c.pop.new.self.items
    c.take_form.new.stack.items (listed c.loop-next.self) (listed c.take_form.new.self) _
    c.in-Some.ensures.items c.in_ok-take_form.ensures c.loop-next.invariant
