use Rattle.std.proofs.Common.{◌≡◌, [], ◌∷◌, ◌∙◌, rules}
use Rattle.ml_pat.specs.Patterns.{ex, equal, var, fun}
use Rattle.prove_term.proofs.ResultLaws.{if_ok_two}
use Rattle.prove_term.proofs.AssumingLaws.{assumes_nothing, detached_rule, one_as}
use Rattle.prove_term.proofs.schemas.one_element.Goals as goal

pub returns-clause-one : goal.returns-clause-one
returns-clause-one c =
    let o = c.requires.some in
    let fact : c.in_ok-fact.fact ≡ fun o.made o.sort = search rules in
    let none : c.in_ok-rule.rule.hypotheses ≡ [] =
    assumes_nothing (ex c.in-Ex.x.0 c.in-Ex.sort.0 (equal (var c.in-Ex.x.0) c.in-Equal.made) ∷ [])
    c.in_ok-rule.rule c.in_ok-rule.ensures.stays in
    if_ok_two c.detach.result
    (λ t says adds. one_as c.args.some.now t o.variable o.sort o.made o.is (says ∙ fact)
    (detached_rule c.args.some.now c.in_ok-rule.rule t c.requires.falls.0 c.requires.falls.1
    none adds))
    c.detach.ensures.conclusion c.detach.ensures.hypotheses
