use Rattle.std.proofs.Common.{sym, ◌∙◌, ap, subst}
use Rattle.ml_pat.specs.Patterns.{Pattern, and, imp}
use Rattle.ml_derived.specs.Scopes.{IsOver, IsWithin}
use Rattle.ml_derived.proofs.StayingLaws.{if_ok, made}
use Rattle.stuck_prove.proofs.bodies.inside.Goals as goal

pub both_under-requires-clause-a : goal.both_under-requires-clause-a
both_under-requires-clause-a c =
    c.in_ok-left.ensures.conclusion (and c.in_ok-turned.turned c.args.c.now) c.in_ok-turned.turned
    c.conjuncts.result.0.now c.in_ok-first.ensures.conclusion
    (c.in_ok-and_2.ensures.conclusion
    ∙ ap (λ (p : Pattern). imp p c.conjuncts.result.0.now) (sym c.in_ok-turned.ensures))
    ∙ ap (λ (p : Pattern). imp p c.conjuncts.result.0.now) (sym c.in_ok-body.ensures)

pub both_under-requires-clause-b : goal.both_under-requires-clause-b
both_under-requires-clause-b c =
    c.in_ok-right.ensures.conclusion (and c.in_ok-turned.turned c.args.c.now) c.in_ok-turned.turned
    c.conjuncts.result.1.now c.in_ok-first.ensures.conclusion
    (c.in_ok-and_1.ensures.conclusion
    ∙ ap (λ (p : Pattern). imp p c.conjuncts.result.1.now) (sym c.in_ok-turned.ensures))
    ∙ ap (λ (p : Pattern). imp p c.conjuncts.result.1.now) (sym c.in_ok-body.ensures)

pub returns-clause-stays : goal.returns-clause-stays
returns-clause-stays c =
    if_ok c.both_under.result
    (λ r stays s hp ht.
    let parts : IsOver s (and c.conjuncts.result.0.now c.conjuncts.result.1.now) =
    subst (IsOver s) c.conjuncts.ensures hp.0 in
    let turned : IsOver s c.in_ok-turned.turned =
    made s c.in_ok-turned.turned (and c.conjuncts.result.1.now c.conjuncts.result.0.now)
    (parts.1, parts.0) c.in_ok-turned.ensures in
    let first : IsWithin s c.in_ok-first.first =
    c.in_ok-first.ensures.stays s (turned, (hp.1.0, tt)) tt in
    let left : IsWithin s c.in_ok-left.left =
    c.in_ok-left.ensures.stays s tt
    (first, (c.in_ok-and_2.ensures.stays s (parts.1, (parts.0, tt)) tt, tt)) in
    let right : IsWithin s c.in_ok-right.right =
    c.in_ok-right.ensures.stays s tt
    (first, (c.in_ok-and_1.ensures.stays s (parts.1, (parts.0, tt)) tt, tt)) in
    stays s tt (left, (right, tt)))
    c.both_under.ensures.stays
