use Rattle.std.proofs.Common.{◌≡◌, ℕ, ◌+◌, suc, ap, sym, ◌∙◌, refl, arith}
use Rattle.ml_pat.specs.Patterns.{Pattern, app}
use Rattle.ml_image.specs.Counted.{at_pairs}
use Rattle.ml_image.proofs.ClosingLaws.{at_pairs-push}
use Rattle.ml_image.proofs.closing.at_pairs.Goals as goal

pub loop-i-init : goal.loop-i-init
loop-i-init c = refl

pub loop-i-preserved : goal.loop-i-preserved
loop-i-preserved c =
    let one : c.loop-i.i + 1 ≡ suc c.loop-i.i = omega arith in
    c.in_ok-made.ensures ∙ ap (λ (p : Pattern). app p c.in_ok-pair.pair) c.loop-i.invariant
    ∙ ap (λ (p : Pattern). app (at_pairs c.args.head c.args.first c.args.second c.loop-i.i) p)
    c.in_ok-pair.ensures
    ∙ sym (at_pairs-push c.loop-i.i c.args.first c.args.second c.args.head)
    ∙ ap (λ (n : ℕ). at_pairs c.args.head c.args.first c.args.second n) (sym one)

pub returns : goal.returns
returns c =
    let whole : c.loop-i.i ≡ c.args.count =
    omega (arith, c.loop-i-test.false, c.loop-i.auto.i-end) in
    c.loop-i.invariant ∙ ap (λ (n : ℕ). at_pairs c.args.head c.args.first c.args.second n) whole
