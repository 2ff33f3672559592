use Rattle.ml_kernel.specs.StepView.{instances_of}
use Rattle.ml_kernel.specs.Premises.{parts_of, theorems_of}
use Rattle.ml_kernel.proofs.Merging.{rule-kept}
use Rattle.ml_kernel.proofs.theorems.Thm.by_rule.Goals as goal

pub invariant_of-result : goal.invariant_of-result
invariant_of-result c =
    rule-kept c.args.rule (parts_of c.args.parts.now)
    (instances_of c.in_ok-instances.instances.items) (theorems_of c.args.premises.now)
    c.in_ok-hypotheses.hypotheses.items c.in_ok-below.below.items c.in_ok-derivation.derivation
    c.args.conclusion.now c.in_ok-share.field-0
    c.requires c.in_ok-hypotheses.ensures.kept c.in_ok-hypotheses.ensures.merged
    c.in_ok-instances.ensures c.in_ok-below.ensures c.in_ok-derivation.ensures
    c.in_ok-share.ensures
