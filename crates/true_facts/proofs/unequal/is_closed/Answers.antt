use Rattle.std.proofs.Common.{◌≡◌, ◌+◌, ◌++◌, length, Bor, subst, arith}
use Rattle.ml_pat.specs.Patterns.{Pattern, not}
use Rattle.ml_image.proofs.ListedLaws.{length-numbers}
use Rattle.term_core.specs.RulePatterns.{sort_numbers}
use Rattle.true_facts.specs.Closing.{IsClosed}
use Rattle.true_facts.proofs.ClosingLaws.{closed-same, closed-join, closed-split, negation_test}
use Rattle.true_facts.proofs.OnlyLaws.{is_false}
use Rattle.true_facts.proofs.unequal.is_closed.Goals as goal

pub returns-in_default : goal.returns-in_default
returns-in_default c =
    is_false ((p : Pattern) × IsClosed c.args.sig.now c.args.names.now 0
    (sort_numbers c.args.first.now ++ sort_numbers c.args.others.now) c.args.pattern.now (not p))
    (λ h.
    let many : length c.args.first.now ≡ 0 + length (sort_numbers c.args.first.now) =
    omega (arith, length-numbers c.args.first.now) in
    let parts = closed-split c.args.sig.now c.args.names.now 0 (length c.args.first.now)
    (sort_numbers c.args.first.now) (sort_numbers c.args.others.now) c.args.pattern.now (not h.0)
    many h.1 in
    c.in_default.ensures parts.0 parts.1)

pub returns-in_default-closed_over : goal.returns-in_default-closed_over
returns-in_default-closed_over c =
    is_false ((p : Pattern) × IsClosed c.args.sig.now c.args.names.now 0
    (sort_numbers c.args.first.now ++ sort_numbers c.args.others.now) c.args.pattern.now (not p))
    (λ h.
    let many : length c.args.first.now ≡ 0 + length (sort_numbers c.args.first.now) =
    omega (arith, length-numbers c.args.first.now) in
    let parts = closed-split c.args.sig.now c.args.names.now 0 (length c.args.first.now)
    (sort_numbers c.args.first.now) (sort_numbers c.args.others.now) c.args.pattern.now (not h.0)
    many h.1 in
    let same : parts.0 ≡ c.in-Some.inner.now =
    closed-same c.args.sig.now c.args.names.now 0 (sort_numbers c.args.first.now)
    c.args.pattern.now parts.0 c.in-Some.inner.now parts.1 c.in-Some.ensures in
    c.in_default-closed_over.ensures (not h.0)
    (subst (λ (q : Pattern). IsClosed c.args.sig.now c.args.names.now (length c.args.first.now)
    (sort_numbers c.args.others.now) q (not h.0)) same parts.2))

pub returns : goal.returns
returns c =
    let many : length c.args.first.now ≡ 0 + length (sort_numbers c.args.first.now) =
    omega (arith, length-numbers c.args.first.now) in
    let test = negation_test (λ (q : Bor Pattern). q.now) c.as_not.result
    c.in-Some-closed_over.body.now c.is_some.result c.as_not.ensures c.is_some.ensures in (
      λ t.
          let x = test.0 t in (
            x.0,
            closed-join c.args.sig.now c.args.names.now 0 (length c.args.first.now)
                (sort_numbers c.args.first.now) (sort_numbers c.args.others.now)
                c.args.pattern.now c.in-Some.inner.now (not x.0) many c.in-Some.ensures
                (subst (λ (q : Pattern). IsClosed c.args.sig.now c.args.names.now
                (length c.args.first.now) (sort_numbers c.args.others.now) c.in-Some.inner.now q)
                x.1 c.in-Some-closed_over.ensures),
          ),
      λ h.
          let parts = closed-split c.args.sig.now c.args.names.now 0 (length c.args.first.now)
          (sort_numbers c.args.first.now) (sort_numbers c.args.others.now) c.args.pattern.now
          (not h.0) many h.1 in
          let same : parts.0 ≡ c.in-Some.inner.now =
          closed-same c.args.sig.now c.args.names.now 0 (sort_numbers c.args.first.now)
          c.args.pattern.now parts.0 c.in-Some.inner.now parts.1 c.in-Some.ensures in
          test.1 (
            h.0,
            closed-same c.args.sig.now c.args.names.now (length c.args.first.now)
                (sort_numbers c.args.others.now) c.in-Some.inner.now c.in-Some-closed_over.body.now
                (not h.0) c.in-Some-closed_over.ensures
                (subst (λ (q : Pattern). IsClosed c.args.sig.now c.args.names.now
                (length c.args.first.now) (sort_numbers c.args.others.now) q (not h.0)) same
                parts.2),
          ),
    )
