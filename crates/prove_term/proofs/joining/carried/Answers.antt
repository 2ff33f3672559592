use Rattle.std.proofs.Common.{◌≡◌, sym, ◌∙◌, subst, rules}
use Rattle.ml_pat.specs.Patterns.{equal, fun}
use Rattle.ml_derived.specs.Scopes.{IsOver}
use Rattle.prove_term.proofs.ResultLaws.{if_ok, if_ok_two}
use Rattle.prove_term.proofs.InjectionLaws.{carried_keeps, carried_as}
use Rattle.prove_term.proofs.joining.carried.Goals as goal

pub returns-clause-says : goal.returns-clause-says
returns-clause-says c =
    let is : c.args.equality.now.conclusion ≡ equal c.in-Equal.field-0 c.in-Equal.right =
    search rules in
    let says : c.args.made.now.conclusion ≡ fun c.in-Fun.field-0 c.in-Fun.sort.0 = search rules in
    if_ok_two c.detach.result
    (λ t result adds. carried_as c.args.equality.now c.args.made.now t c.in-Equal.field-0
    c.in-Equal.right c.in-Fun.field-0 c.in-Fun.sort.0 is says (result ∙ c.in_ok-fact.ensures)
    (λ h one other. carried_keeps c.args.made.now c.in_ok-under.under t h other
    (c.in_ok-under.ensures.hypotheses h one) adds))
    c.detach.ensures.conclusion c.detach.ensures.hypotheses

pub returns-clause-stays : goal.returns-clause-stays
returns-clause-stays c =
    if_ok c.detach.result
    (λ t stays. λ s over within.
    stays s tt (
      within.1.0,
      (
        c.in_ok-under.ensures.stays s
            (over.0, (subst (IsOver s) (sym c.conclusion-3.ensures) within.1.0.conclusion, tt))
            (within.0, tt),
        tt,
      ),
    ))
    c.detach.ensures.stays
