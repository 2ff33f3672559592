use Rattle.std.proofs.Common.{Some, sym, ◌∙◌, ap, subst}
use Rattle.ml_pat.specs.Patterns.{Pattern, all, fun}
use Rattle.ml_kernel.specs.Lemmas.{HasNoVariable}
use Rattle.ml_derived.specs.Scopes.{leaves_of, IsOver}
use Rattle.ml_derived.specs.Parts.{IsElementOf}
use Rattle.ml_derived.proofs.PutLaws.{substituted-put, EachLeaf-put}
use Rattle.ml_derived.proofs.ContextLaws.{closed_element}
use Rattle.ml_derived.proofs.StayingLaws.{if_ok, concluded}
use Rattle.ml_derived.proofs.instances.instance_at.Goals as goal

pub inst-requires : goal.inst-requires
inst-requires c =
    let element : IsElementOf c.element-q.result.now c.args.fact.now.conclusion =
    subst (IsElementOf c.element-q.result.now) c.conclusion-2.ensures c.element-q.ensures in
    let closed : HasNoVariable c.element-q.result.now =
    closed_element c.args.sentence.now.conclusion c.args.fact.now.conclusion
    c.element-q.result.now c.requires element in
    substituted-put c.bound.result.0.0 c.element-q.result.now c.bound.result.2.now closed
    ∙ ap (λ (p : Pattern). Some p) (sym c.in_ok-made.ensures)

pub returns-clause-stays : goal.returns-clause-stays
returns-clause-stays c =
    let element : IsElementOf c.element-q.result.now c.args.fact.now.conclusion =
    subst (IsElementOf c.element-q.result.now) c.conclusion-2.ensures c.element-q.ensures in
    let closed : HasNoVariable c.element-q.result.now =
    closed_element c.args.sentence.now.conclusion c.args.fact.now.conclusion
    c.element-q.result.now c.requires element in
    if_ok c.mp-2.result
    (λ t stays s hp ht.
    let sentence : IsOver s (all c.bound.result.0.0 c.bound.result.1.0 c.bound.result.2.now) =
    concluded s c.args.sentence.now (all c.bound.result.0.0 c.bound.result.1.0 c.bound.result.2.now)
    ht.0 (sym c.conclusion.ensures ∙ c.bound.ensures) in
    let fact : IsOver s (fun c.element-q.result.now element.0) =
    concluded s c.args.fact.now (fun c.element-q.result.now element.0) ht.1.0 element.1 in
    let made : IsOver s c.in_ok-made.made =
    subst (IsOver s) (sym c.in_ok-made.ensures) (EachLeaf-put (leaves_of s) c.bound.result.0.0
    c.element-q.result.now c.bound.result.2.now closed fact.0 sentence.0) in
    stays s tt (
      ht.1.0,
      (
        c.in_ok-open.ensures.stays s tt (
          ht.0,
          (c.in_ok-rule.ensures.stays s (sentence, (fact.0, (made, tt))) tt, tt),
        ),
        tt,
      ),
    ))
    c.mp-2.ensures.stays
