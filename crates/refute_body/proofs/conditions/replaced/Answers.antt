use Rattle.std.proofs.Common.{◌≡◌, sym, ◌∙◌, ap, subst}
use Rattle.ml_pat.specs.Patterns.{imp, equal, var}
use Rattle.ml_derived.specs.Scopes.{IsOver, IsWithin, leaves_of}
use Rattle.ml_derived.proofs.PutLaws.{EachLeaf-substituted}
use Rattle.ml_derived.proofs.StayingLaws.{if_ok}
use Rattle.refute_body.proofs.conditions.replaced.Goals as goal

pub returns-clause-stays : goal.returns-clause-stays
returns-clause-stays c =
    let says : c.args.present.now.conclusion ≡ imp c.sides.result.0.now
    (imp c.sides-2.result.0.now c.sides-2.result.1.now) =
    sym c.conclusion.ensures ∙ c.sides.ensures ∙ ap (imp c.sides.result.0.now) c.sides-2.ensures in
    if_ok c.under_two.result
    (λ t stays s hp ht.
    let over : IsOver s (imp c.sides.result.0.now
    (imp c.sides-2.result.0.now c.sides-2.result.1.now)) =
    subst (IsOver s) says ht.1.0.conclusion in
    let both : IsOver s (imp c.requires.g
    (imp c.requires.b (equal (var c.args.x.0) c.args.term.now))) =
    subst (IsOver s) c.requires.is_equation ht.0.conclusion in
    let named : IsOver s c.in_ok-variable.variable =
    subst (IsOver s) (sym c.in_ok-variable.ensures) both.1.1.0 in
    let made : IsOver s c.in-Some.made =
    EachLeaf-substituted (leaves_of s) c.args.x.0 c.args.term.now c.sides-2.result.1.now
    c.in-Some.made both.1.1.1 over.1.1 (sym c.in_ok-made.ensures ∙ c.in-Some.is) in
    let rule : IsWithin s c.in_ok-rule.rule =
    c.in_ok-rule.ensures.stays s
    (named, (both.1.1.1, (over.1.1, (over.1.1, (made, (both.1.1.0, tt)))))) tt in
    let step : IsWithin s c.in_ok-step.step =
    c.in_ok-step.ensures.stays s tt (ht.0, (rule, tt)) in
    stays s tt (ht.1.0, (step, tt)))
    c.under_two.ensures.stays
