use Rattle.std.proofs.Common.{◌∙◌}
use Rattle.mm_proof.proofs.Stacking.{left_next, left_smaller, next_is_ready}
use Rattle.mm_proof.proofs.works.prove_goal.Goals as goal

pub take_work-requires : goal.take_work-requires
take_work-requires c =
    next_is_ready c.loop-next.table.serial c.in-Some.next c.loop-next.stack.items
    c.pop.new.self.items _ _ c.in-Some.ensures.items c.loop-next.invariant.1

pub loop-next-smaller : goal.loop-next-smaller
loop-next-smaller c =
    left_smaller c.in-Some.next c.loop-next.stack.items c.pop.new.self.items
    c.take_work.new.stack.items c.loop-next.table c.take_work.new.table c.in-Some.ensures.items
    c.in_ok-take_work.ensures

pub loop-next-preserved : goal.loop-next-preserved
loop-next-preserved c = (
  c.in_ok-take_work.ensures.serial ∙ c.loop-next.invariant.0,
  left_next c.in-Some.next c.loop-next.stack.items c.pop.new.self.items
      c.take_work.new.stack.items c.loop-next.table c.take_work.new.table _
      c.in-Some.ensures.items c.in_ok-take_work.ensures c.loop-next.invariant.1,
)
