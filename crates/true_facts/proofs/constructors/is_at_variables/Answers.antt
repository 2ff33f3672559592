use Rattle.std.proofs.Common.{◌≡◌, ℕ, ◌-◌, sym, subst, arith}
use Rattle.std.proofs.lemmas.Bool.{false≢true}
use Rattle.ml_pat.specs.Patterns.{constant}
use Rattle.ml_pat.specs.declared.numbers.ConstNo.{ConstNo}
use Rattle.ml_image.specs.Counted.{at_variables}
use Rattle.true_facts.proofs.ConstructorLaws.{variables-next, no_application, other_argument}
use Rattle.true_facts.proofs.ConstructorLaws.{constant_test}
use Rattle.true_facts.proofs.constructors.is_at_variables.Goals as goal

pub loop-i-init : goal.loop-i-init
loop-i-init c = λ x. (λ h. h, λ h. h)

pub loop-i-preserved : goal.loop-i-preserved
loop-i-preserved c = λ x.
    variables-next c.args.pattern.now c.loop-i.head.now c.in-Some.inner.now c.in-Some.arg.now x
    c.args.first c.args.count c.loop-i.i (c.loop-i.i - 1) (omega (arith, c.loop-i-test.true))
    c.in-Some.ensures (c.is_variable.ensures.0 c.if-not-is_variable.false) (c.loop-i.invariant x)

pub returns-in_default : goal.returns-in_default
returns-in_default c = (
  λ t. absurd (false≢true t),
  λ h. absurd (no_application c.loop-i.head.now h.0 c.args.first c.loop-i.i (c.loop-i.i - 1)
      (omega (arith, c.loop-i-test.true)) c.in_default.ensures ((c.loop-i.invariant h.0).0 h.1)),
)

pub returns-then-not-is_variable : goal.returns-then-not-is_variable
returns-then-not-is_variable c = (
  λ t. absurd (false≢true t),
  λ h. absurd (other_argument c.loop-i.head.now c.in-Some.inner.now c.in-Some.arg.now h.0
      c.args.first c.loop-i.i (c.loop-i.i - 1) (omega (arith, c.loop-i-test.true))
      c.in-Some.ensures (λ e. false≢true (c.if-not-is_variable.ensures.1 e))
      ((c.loop-i.invariant h.0).0 h.1)),
)

pub returns : goal.returns
returns c =
    let none : c.loop-i.i ≡ 0 = omega (arith, c.loop-i-test.false) in
    let test = constant_test (λ (n : ConstNo). n.0) c.as_constant.result c.loop-i.head.now
    c.is_some.result c.as_constant.ensures c.is_some.ensures in (
      λ t. (
        (test.0 t).0,
        (c.loop-i.invariant (test.0 t).0).1
            (subst (λ (i : ℕ). c.loop-i.head.now
            ≡ at_variables (constant (test.0 t).0) c.args.first i)
            (sym none) (test.0 t).1),
      ),
      λ h. test.1 (
        h.0,
        subst (λ (i : ℕ). c.loop-i.head.now ≡ at_variables (constant h.0) c.args.first i)
            none ((c.loop-i.invariant h.0).0 h.1),
      ),
    )
