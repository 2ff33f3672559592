use Rattle.std.proofs.Common.{◌≡◌, [], ◌∷◌, ◌∙◌, ap, subst}
use Rattle.ml_pat.specs.Patterns.{Pattern, all, fun, meta}
use Rattle.ml_derived.specs.Scopes.{AssumesWithin}
use Rattle.prove_term.proofs.ResultLaws.{if_ok, if_ok_two}
use Rattle.prove_term.proofs.AssumingLaws.{assumes_nothing, detached_rule, detached_fact}
use Rattle.prove_term.proofs.AssumingLaws.{opened_stays}
use Rattle.prove_term.proofs.schemas.assumed.Goals as goal

pub returns-clause-hypotheses : goal.returns-clause-hypotheses
returns-clause-hypotheses c =
    let fact : c.in_ok-share.field-0 ≡ fun (meta c.args.i) c.args.sort.0 =
    c.in_ok-share.ensures ∙ c.in_ok-fact.ensures
    ∙ ap (λ (p : Pattern). fun p c.args.sort.0) c.in_ok-by.ensures in
    let known : c.in_ok-known.known.hypotheses ≡ fun (meta c.args.i) c.args.sort.0 ∷ [] =
    c.in_ok-known.ensures.hypotheses ∙ ap (λ (p : Pattern). p ∷ []) fact in
    let none : c.in_ok-rule.rule.hypotheses ≡ [] =
    assumes_nothing
    (all c.args.x.0 c.args.sort.0 c.args.body.now ∷ c.in_ok-by.by ∷ c.args.opened.now ∷ [])
    c.in_ok-rule.rule c.in_ok-rule.ensures.stays in
    let under : c.in_ok-under.under.hypotheses ≡ c.args.made.now.hypotheses =
    detached_rule c.args.made.now c.in_ok-rule.rule c.in_ok-under.under c.args.i c.requires.falls
    none c.in_ok-under.ensures.hypotheses in
    if_ok c.detach-2.result
    (λ t adds. detached_fact c.in_ok-known.known c.in_ok-under.under t c.args.i c.args.sort.0
    c.args.made.now.hypotheses c.requires.falls known under adds)
    c.detach-2.ensures.hypotheses

pub returns-clause-stays : goal.returns-clause-stays
returns-clause-stays c =
    let known : AssumesWithin c.in_ok-fact.fact c.in_ok-known.known =
    subst (λ (p : Pattern). AssumesWithin p c.in_ok-known.known) c.in_ok-share.ensures
    c.in_ok-known.ensures.stays in
    if_ok_two c.detach-2.result
    (λ t hypotheses stays. opened_stays c.args.made.now c.in_ok-rule.rule c.in_ok-under.under
    c.in_ok-known.known t c.args.i c.args.x.0 c.args.sort.0 c.args.body.now c.in_ok-by.by
    c.in_ok-fact.fact c.args.opened.now
    c.requires.made c.in_ok-by.ensures c.in_ok-fact.ensures c.requires.opened
    c.in_ok-rule.ensures.stays c.in_ok-under.ensures.stays known stays hypotheses)
    (returns-clause-hypotheses c) c.detach-2.ensures.stays
