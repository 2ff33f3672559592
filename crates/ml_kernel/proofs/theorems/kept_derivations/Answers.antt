use Rattle.std.proofs.Common.{◌<◌, length, ◌∙◌, arith}
use Rattle.ml_kernel.proofs.Merging.{derivations-next}
use Rattle.ml_kernel.proofs.theorems.kept_derivations.Goals as goal

pub loop-thm-preserved : goal.loop-thm-preserved
loop-thm-preserved c =
    let lt : c.loop-thm.thm-index < length c.args.premises.now = omega arith in
    derivations-next c.args.premises.now c.loop-thm.thm-index c.thm-item.result
    c.loop-thm.below.items c.push.new.self.items c.in_ok-share.field-0 c.loop-thm.invariant lt
    c.thm-item.is
    (c.in_ok-share.ensures ∙ c.derivation.ensures)
    c.in_ok-push.ensures.items
