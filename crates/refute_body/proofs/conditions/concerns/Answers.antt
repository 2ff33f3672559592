use Rattle.std.proofs.Common.{sym, ◌∙◌, arith}
use Rattle.refute_body.proofs.ConditionFresh.{all_below, copied_none, one_more_fresh}
use Rattle.refute_body.proofs.conditions.concerns.Goals as goal

pub returns : goal.returns
returns c =
    λ is x t bound.
    c.loop-x.invariant x t
    (all_below c.args.theta.now c.loop-x.x x t
    (omega (arith, c.loop-x-test.false, c.vars-x-end.ensures.value)) bound) bound

pub loop-x-preserved : goal.loop-x-preserved
loop-x-preserved c =
    elim c.else-is_some.branch [
      | goal.else-is_some-via-then-is_some+else-not-fresh w ↦
          one_more_fresh c.args.theta.now c.loop-x.x c.args.condition.now c.loop-x.invariant
          (λ t bound. sym w.fresh.ensures ∙ w.if-not-fresh.false)
      | goal.else-is_some-via-else-is_some w ↦
          one_more_fresh c.args.theta.now c.loop-x.x c.args.condition.now c.loop-x.invariant
          (λ t bound. absurd (copied_none c.get.result t
          (sym c.is_some.ensures ∙ w.if-is_some.false) (c.get.ensures ∙ bound)))
    ]
