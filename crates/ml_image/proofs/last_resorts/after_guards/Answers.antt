use Rattle.std.proofs.Common.{◌<◌, ◌+◌, ◌^◌, length, map, arith}
use Rattle.rule_core.specs.ProgramView.{guard_of}
use Rattle.ml_image.specs.HasImages.{after_guards}
use Rattle.ml_image.proofs.LastResortLaws.{after_low}
use Rattle.ml_image.proofs.last_resorts.after_guards.Goals.{After-len}
use Rattle.ml_image.proofs.last_resorts.after_guards.Goals as goal

-- there is room for the variables of this guard
few : (c : After-len) → c.loop-guard.next + length c.guard-item.result.order.items < 2 ^ 32
few c =
    after_low c.loop-guard.next c.args.guards.now c.loop-guard.guard-index c.guard-item.result
    (after_guards c.args.first (map guard_of c.args.guards.now)) c.loop-guard-test.true
    c.guard-item.is c.loop-guard.invariant c.requires

pub overflow_cast-next : goal.overflow_cast-next
overflow_cast-next c =
    omega (arith, few (goal.at.overflow_cast-next c).After-len, c.len.ensures)

pub overflow_add-next : goal.overflow_add-next
overflow_add-next c =
    omega (arith, few (goal.at.overflow_add-next c).After-len, c.len.ensures)
