use Rattle.std.proofs.Common.{◌≡◌, ℕ, ◌+◌, suc, ap, sym, ◌∙◌, refl, arith}
use Rattle.ml_pat.specs.Patterns.{Pattern, app}
use Rattle.ml_image.specs.Counted.{at_variables}
use Rattle.ml_image.proofs.ClosingLaws.{at_variables-push}
use Rattle.ml_image.proofs.closing.at_variables.Goals as goal

pub loop-i-init : goal.loop-i-init
loop-i-init c = refl

pub loop-i-preserved : goal.loop-i-preserved
loop-i-preserved c =
    let one : c.loop-i.i + 1 ≡ suc c.loop-i.i = omega arith in
    c.in_ok-made.ensures ∙ ap (λ (p : Pattern). app p c.in_ok-var.field-0) c.loop-i.invariant
    ∙ ap (λ (p : Pattern). app (at_variables c.args.head c.args.first c.loop-i.i) p)
    c.in_ok-var.ensures
    ∙ sym (at_variables-push c.loop-i.i c.args.first c.args.head)
    ∙ ap (λ (n : ℕ). at_variables c.args.head c.args.first n) (sym one)

pub returns : goal.returns
returns c =
    let whole : c.loop-i.i ≡ c.args.count =
    omega (arith, c.loop-i-test.false, c.loop-i.auto.i-end) in
    c.loop-i.invariant ∙ ap (λ (n : ℕ). at_variables c.args.head c.args.first n) whole
