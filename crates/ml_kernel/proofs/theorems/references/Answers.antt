use Rattle.std.proofs.Common.{◌<◌, ◌++◌, ◌∷◌, [], length, ap, sym, ◌∙◌, arith}
use Rattle.ml_kernel.specs.Premises.{theorems_of}
use Rattle.ml_kernel.proofs.Merging.{next_taken, theorems_of-push}
use Rattle.ml_kernel.proofs.theorems.references.Goals as goal

pub loop-thm-preserved : goal.loop-thm-preserved
loop-thm-preserved c =
    let lt : c.loop-thm.thm-index < length c.args.proofs.now = omega arith in
    ap theorems_of c.in_ok-push.ensures.items ∙ theorems_of-push c.loop-thm.all.items _
    ∙ ap (λ ts. ts ++ c.thm-item.result ∷ []) c.loop-thm.invariant
    ∙ sym (next_taken c.args.proofs.now c.loop-thm.thm-index c.thm-item.result lt c.thm-item.is)
