use Rattle.std.proofs.Common.{◌≡◌, ap, ◌∙◌, sym, subst}
use Rattle.ml_pat.specs.Patterns.{Pattern}
use Rattle.ml_kernel.specs.Theorems.{Derivation, own_axiom}
use Rattle.ml_kernel.specs.Concluding.{Concludes}
use Rattle.ml_kernel.specs.StepView.{numbers_of}
use Rattle.ml_kernel.proofs.theorems.Thm.of_axiom.Goals as goal

pub invariant_of-result : goal.invariant_of-result
invariant_of-result c =
    let step : c.in_ok-derivation.derivation
    ≡ own_axiom c.args.no.0 c.args.pattern.now (numbers_of c.args.new.items) =
    c.in_ok-derivation.ensures
    ∙ ap (λ (p : Pattern). own_axiom c.args.no.0 p (numbers_of c.args.new.items))
    c.in_ok-share.ensures in
    subst (λ (d : Derivation). Concludes c.new.result.items d c.args.conclusion) (sym step)
    (c.requires.no_meta, c.requires.renames)
