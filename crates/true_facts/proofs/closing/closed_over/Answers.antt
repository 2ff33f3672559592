use Rattle.std.proofs.Common.{◌≡◌, ◌+◌, ℕ, refl, sym, subst, arith}
use Rattle.term_core.specs.RulePatterns.{sort_numbers}
use Rattle.true_facts.specs.Closing.{IsClosed}
use Rattle.true_facts.proofs.ClosingLaws.{closed-next, not_closed, closed-all}
use Rattle.true_facts.proofs.closing.closed_over.Goals as goal

pub loop-i-init : goal.loop-i-init
loop-i-init c = λ q.
    let none : c.args.first ≡ c.args.first + 0 = omega arith in (
      λ h. subst (λ (k : ℕ). IsClosed c.args.sig.now c.args.names.now k
          (sort_numbers c.args.sorts.now) c.args.pattern.now q) none h,
      λ h. subst (λ (k : ℕ). IsClosed c.args.sig.now c.args.names.now k
          (sort_numbers c.args.sorts.now) c.args.pattern.now q) (sym none) h,
    )

pub loop-i-preserved : goal.loop-i-preserved
loop-i-preserved c = λ q.
    let step = closed-next c.args.sig.now c.args.names.now c.args.first c.loop-i.i
    c.args.sorts.now (record { 0 = 0 }) c.loop-i.body.now q c.in-Some.inner.now c.loop-i-test.true
    c.in-Some.ensures in (
      λ h. step.0 ((c.loop-i.invariant q).0 h),
      λ h. (c.loop-i.invariant q).1 (step.1 h),
    )

pub returns-in_default : goal.returns-in_default
returns-in_default c = λ q h.
    not_closed c.args.sig.now c.args.names.now c.args.first c.loop-i.i
    c.args.sorts.now (record { 0 = 0 }) c.loop-i.body.now q c.loop-i-test.true
    (λ r. c.in_default.ensures r)
    ((c.loop-i.invariant q).0 h)

pub returns : goal.returns
returns c =
    (c.loop-i.invariant c.loop-i.body.now).1
    (closed-all c.args.sig.now c.args.names.now (c.args.first + c.loop-i.i) c.loop-i.i
    c.args.sorts.now
    c.loop-i.body.now c.loop-i.body.now (omega arith) refl)
