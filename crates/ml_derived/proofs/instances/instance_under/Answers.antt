use Rattle.ml_pat.specs.Patterns.{imp, fun, all}
use Rattle.ml_derived.specs.Scopes.{IsOver, IsWithin}
use Rattle.ml_derived.proofs.StayingLaws.{if_ok, concluded}
use Rattle.ml_derived.proofs.instances.instance_under.Goals as goal

pub returns-clause-stays : goal.returns-clause-stays
returns-clause-stays c =
    if_ok c.under.result
    (λ t stays s hp ht.
    let sentence : IsOver s (imp c.args.h.now
    (all c.args.binder.variable.0 c.args.binder.sort.0 c.args.binder.body.now)) =
    concluded s c.args.a.now (imp c.args.h.now
    (all c.args.binder.variable.0 c.args.binder.sort.0 c.args.binder.body.now)) ht.0 c.requires.a in
    let element : IsOver s (imp c.args.h.now (fun c.args.q.now c.args.binder.sort.0)) =
    concluded s c.args.fact.now (imp c.args.h.now (fun c.args.q.now c.args.binder.sort.0)) ht.1.0
    c.requires.fact in
    let w-rule : IsWithin s c.in_ok-rule.rule =
    c.in_ok-rule.ensures.stays s (sentence.1, (element.1.0, (hp.0, tt))) tt in
    let w-open : IsWithin s c.in_ok-open.open =
    c.in_ok-open.ensures.stays s tt (ht.0, (w-rule, tt)) in
    stays s tt (ht.1.0, (w-open, tt)))
    c.under.ensures.stays
