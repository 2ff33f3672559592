use Rattle.std.proofs.Common.{◌≡◌, ℕ, sym, ◌∙◌, ap, arith}
use Rattle.ml_pat.specs.Patterns.{imp, top}
use Rattle.term_core.specs.RulePatterns.{sort_numbers}
use Rattle.prove_term.specs.Contexts.{StaysIn}
use Rattle.prove_term.proofs.ResultLaws.{if_ok}
use Rattle.refute_body.specs.Implications.{count_of}
use Rattle.refute_body.proofs.GivenVariables.{IsRead, conjunction, fact_says, no_conjunction}
use Rattle.refute_body.proofs.GivenVariables.{read_hypothesis, read_nothing}
use Rattle.refute_body.proofs.hypotheses.+weaker.Goals.{After-conjuncts}
use Rattle.refute_body.proofs.hypotheses.+weaker.Goals as goal

pub conjuncts-requires : goal.conjuncts-requires
conjuncts-requires t c =
    conjunction c.args.h.now (sym c.is_conjunction.ensures ∙ c.if-not-is_conjunction.false)

-- the first part and the others
read : (t : ℕ) (c : After-conjuncts t) → IsRead c.args.cx.now (sort_numbers c.args.sorts.now)
    c.args.given.now c.conjuncts.result.0.now c.conjuncts.result.1.now
read t c =
    read_hypothesis c.args.cx.now (sort_numbers c.args.sorts.now) c.args.given.now
    c.requires.hypothesis.0 c.args.h.now c.conjuncts.result.0.now c.conjuncts.result.1.now
    c.requires.hypothesis.1 c.requires.hypothesis.2 c.conjuncts.ensures

pub weaker-requires : goal.weaker-requires
weaker-requires t c =
    let r : IsRead c.args.cx.now (sort_numbers c.args.sorts.now)
    c.args.given.now c.conjuncts.result.0.now c.conjuncts.result.1.now = read t c in (
      omega (arith, ap count_of c.conjuncts.ensures, c.decreases),
      (c.requires.given, (r.xs, r.rest, r.facts)),
    )

pub fact_on-fact-requires : goal.fact_on-fact-requires
fact_on-fact-requires t c =
    let r : IsRead c.args.cx.now (sort_numbers c.args.sorts.now)
    c.args.given.now c.conjuncts.result.0.now c.conjuncts.result.1.now =
    read t (goal.at.fact_on-fact-requires t c).After-conjuncts in (r.x, r.sort, r.first, r.fact)

pub both_under-requires-clause-a : goal.both_under-requires-clause-a
both_under-requires-clause-a t c =
    let r : IsRead c.args.cx.now (sort_numbers c.args.sorts.now)
    c.args.given.now c.conjuncts.result.0.now c.conjuncts.result.1.now =
    read t (goal.at.both_under-requires-clause-a t c).After-conjuncts in
    (fact_says c.args.cx.now (sort_numbers c.args.sorts.now) c.args.given.now
    c.conjuncts.result.0.now c.conjuncts.result.1.now c.fact_on-fact.result.now r c.requires.given
    (c.fact_on-fact.ensures r.x r.sort r.first)).0

pub returns-clause-stays : goal.returns-clause-stays
returns-clause-stays t c =
    let r : IsRead c.args.cx.now (sort_numbers c.args.sorts.now)
    c.args.given.now c.conjuncts.result.0.now c.conjuncts.result.1.now =
    read t (goal.at.returns-clause-stays t c).After-conjuncts in
    let fact : StaysIn c.args.cx.now c.fact_on-fact.result.now =
    (fact_says c.args.cx.now (sort_numbers c.args.sorts.now) c.args.given.now
    c.conjuncts.result.0.now c.conjuncts.result.1.now c.fact_on-fact.result.now r c.requires.given
    (c.fact_on-fact.ensures r.x r.sort r.first)).1 in
    if_ok c.both_under.result
    (λ u stays s has. stays s tt (fact s has, (c.in_ok-others.ensures.stays s has, tt)))
    c.both_under.ensures.stays

pub returns-clause-says : goal.returns-clause-says
returns-clause-says t c =
    if_ok c.both_under.result
    (λ u says. says ∙ ap (imp c.args.given.now.hypothesis) (sym c.conjuncts.ensures))
    c.both_under.ensures.conclusion

pub returns-then-not-is_conjunction-clause-says : goal.returns-then-not-is_conjunction-clause-says
returns-then-not-is_conjunction-clause-says t c =
    let none : c.args.h.now ≡ top =
    read_nothing c.args.cx.now (sort_numbers c.args.sorts.now) c.requires.hypothesis.0 c.args.h.now
    c.requires.hypothesis.1
    (λ p q is. no_conjunction c.args.h.now p q
    (sym c.is_conjunction.ensures ∙ c.if-not-is_conjunction.true) is) in
    if_ok c.lift.result
    (λ u says. says ∙ ap (imp c.args.given.now.hypothesis)
    (c.in_ok-top.ensures.conclusion ∙ sym none))
    c.lift.ensures.conclusion

pub returns-then-not-is_conjunction-clause-stays : goal.returns-then-not-is_conjunction-clause-stays
returns-then-not-is_conjunction-clause-stays t c =
    if_ok c.lift.result
    (λ u stays s has. stays s (c.requires.given.over s has, tt)
    (c.in_ok-top.ensures.stays s tt tt, tt))
    c.lift.ensures.stays
