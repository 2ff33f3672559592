use Rattle.std.proofs.Common.{◌≡◌, ◌∷◌, [], List, ap, sym, ◌∙◌, subst, refl, arith}
use Rattle.ml_pat.specs.Patterns.{Pattern, fun, meta}
use Rattle.prove_term.specs.Falling.{Falls}
use Rattle.prove_term.specs.Assuming.{IsSome}
use Rattle.prove_term.proofs.ResultLaws.{if_ok, if_ok_two}
use Rattle.prove_term.proofs.AssumingLaws.{total_stays}
use Rattle.prove_term.proofs.InjectionLaws.{injecting_opens, injecting_opened, injected_is_some}
use Rattle.prove_term.proofs.InjectionLaws.{injected_from}
use Rattle.prove_term.proofs.joining.injected.Goals as goal

pub at_meta-requires-clause-opens : goal.at_meta-requires-clause-opens
at_meta-requires-clause-opens c =
    injecting_opens c.args.total.now.conclusion c.requires.total.0 c.requires.total.1
    c.requires.total.2 c.requires.total.3

pub one_element-requires-clause-some : goal.one_element-requires-clause-some
one_element-requires-clause-some c =
    injected_is_some c.in_ok-instance.instance.conclusion c.requires.total.0 c.requires.total.1
    c.requires.total.2
    (injecting_opened c.args.total.now c.in_ok-instance.instance c.requires.total.0
    c.requires.total.1 c.requires.total.2 c.requires.total.3 c.in_ok-instance.ensures.opened).0

pub one_element-requires-clause-falls : goal.one_element-requires-clause-falls
one_element-requires-clause-falls c =
    let hypotheses : c.in_ok-instance.instance.hypotheses ≡ fun (meta 0) c.requires.total.1 ∷ [] =
    (injecting_opened c.args.total.now c.in_ok-instance.instance c.requires.total.0
    c.requires.total.1 c.requires.total.2 c.requires.total.3 c.in_ok-instance.ensures.opened).1
    ∙ ap (λ (hs : List Pattern). fun (meta 0) c.requires.total.1 ∷ hs) c.requires.no_hypotheses in
    (1, subst (Falls 1) (sym hypotheses) (0, c.requires.total.1, omega arith, refl, tt))

pub returns-clause-says : goal.returns-clause-says
returns-clause-says c =
    if_ok c.one_element.result
    (λ made one. injected_from c.args.total.now c.in_ok-instance.instance made
    c.requires.no_hypotheses c.in_ok-instance.ensures.opened one)
    c.one_element.ensures.one

pub returns-clause-stays : goal.returns-clause-stays
returns-clause-stays c =
    let some : IsSome c.in_ok-instance.instance.conclusion =
    injected_is_some c.in_ok-instance.instance.conclusion c.requires.total.0 c.requires.total.1
    c.requires.total.2
    (injecting_opened c.args.total.now c.in_ok-instance.instance c.requires.total.0
    c.requires.total.1 c.requires.total.2 c.requires.total.3
    c.in_ok-instance.ensures.opened).0 in
    if_ok_two c.one_element.result
    (λ made one stays. total_stays c.args.total.now c.in_ok-instance.instance made (one some).1
    c.in_ok-instance.ensures.stays stays)
    c.one_element.ensures.one c.one_element.ensures.stays
