use Rattle.std.proofs.Common.{◌∙◌}
use Rattle.mm_render.proofs.PartLaws.{left_next, left_smaller}
use Rattle.mm_render.proofs.derivations.prove_derivation.Goals as goal

pub loop-next-smaller : goal.loop-next-smaller
loop-next-smaller c =
    left_smaller c.args.at.now c.in-Some.next c.loop-next.stack.items c.pop.new.self.items
    c.take_part.new.stack.items c.loop-next.table c.take_part.new.table c.in-Some.ensures.items
    c.in_ok-take_part.ensures

pub loop-next-preserved : goal.loop-next-preserved
loop-next-preserved c = (
  c.in_ok-take_part.ensures.serial ∙ c.loop-next.invariant.0,
  left_next c.args.at.now c.in-Some.next c.loop-next.stack.items c.pop.new.self.items
      c.take_part.new.stack.items c.loop-next.table c.take_part.new.table _
      c.in-Some.ensures.items c.in_ok-take_part.ensures c.loop-next.invariant.1,
)
