use Rattle.std.proofs.Common.{◌<◌, length, subst, List, arith}
use Rattle.ml_pat.specs.Patterns.{Pattern}
use Rattle.ml_kernel.specs.Theorems.{AddsNew}
use Rattle.ml_kernel.proofs.Merging.{merged-next, AreKept-next}
use Rattle.ml_kernel.proofs.theorems.merged.Goals as goal

pub loop-thm-preserved : goal.loop-thm-preserved
loop-thm-preserved c =
    let lt : c.loop-thm.thm-index < length c.args.premises.now = omega arith in
    record {
      merged =
          merged-next c.args.premises.now c.loop-thm.thm-index c.thm-item.result
          c.loop-thm.all.items c.add_new.new.old.items c.loop-thm.invariant.merged lt
          c.thm-item.is
          (subst (λ (hs : List Pattern). AddsNew c.loop-thm.all.items hs c.add_new.new.old.items)
          c.hypotheses.ensures.value c.in_ok-add_new.ensures);
      kept =
          AreKept-next c.args.premises.now c.loop-thm.thm-index c.thm-item.result
          c.loop-thm.invariant.kept lt c.thm-item.is c.hypotheses.ensures.kept;
    }
