use Rattle.mm_render.proofs.KeyLaws.{form_added, form_smaller}
use Rattle.mm_render.proofs.places.push_key.Goals as goal

pub loop-next-smaller : goal.loop-next-smaller
loop-next-smaller c =
    form_smaller c.in-Some.next c.loop-next.stack.items c.pop.new.self.items
    c.push_form.new.stack.items c.loop-next.key.items c.push_form.new.key.items
    c.in-Some.ensures.items c.in_ok-push_form.ensures

pub loop-next-preserved : goal.loop-next-preserved
loop-next-preserved c =
    form_added c.in-Some.next c.loop-next.stack.items c.pop.new.self.items
    c.push_form.new.stack.items c.loop-next.key.items c.push_form.new.key.items _
    c.in-Some.ensures.items c.in_ok-push_form.ensures c.loop-next.invariant
