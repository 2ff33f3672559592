use Rattle.std.proofs.Common.{◌<◌, length, arith}
use Rattle.ml_kernel.proofs.Merging.{parts-next}
use Rattle.ml_kernel.proofs.theorems.kept_parts.Goals as goal

pub loop-part-preserved : goal.loop-part-preserved
loop-part-preserved c =
    let lt : c.loop-part.part-index < length c.args.parts.now = omega arith in
    parts-next c.args.parts.now c.loop-part.part-index c.part-item.result c.loop-part.kept.items
    c.push.new.self.items c.in_ok-kept_part.field-0 c.loop-part.invariant lt c.part-item.is
    c.in_ok-kept_part.ensures
    c.in_ok-push.ensures.items
