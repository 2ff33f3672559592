use Rattle.std.proofs.Common.{◌≡◌, sym, ◌∙◌, ap}
use Rattle.ml_pat.specs.Patterns.{Pattern, and, equal, var}
use Rattle.ml_derived.proofs.StayingLaws.{if_ok}
use Rattle.refute_body.proofs.ConditionFillings.{kept_fresh, put_same, read_equation}
use Rattle.refute_body.proofs.conditions.one_filled.Goals as goal

pub returns-then-fresh-clause-conclusion : goal.returns-then-fresh-clause-conclusion
returns-then-fresh-clause-conclusion c =
    λ g b t e r d x equations present put.
    let same : (var x ≡ var c.variable-x.result.0) × (t ≡ c.equals.result.1.now) =
    read_equation (var x) t e (var c.variable-x.result.0) c.equals.result.1.now
    c.conjuncts.result.1.now
    (sym (c.conclusion.ensures g b (and (equal (var x) t) e) equations) ∙ c.conjuncts.ensures
    ∙ ap (λ (p : Pattern). and p c.conjuncts.result.1.now)
    (c.equals.ensures
    ∙ ap (λ (p : Pattern). equal p c.equals.result.1.now) c.variable-x.ensures)) in
    kept_fresh g b t r d x c.variable-x.result.0 c.conclusion-2.result.now c.args.present.conclusion
    same.0 (sym c.fresh.ensures ∙ c.if-fresh.true)
    (c.conclusion-2.ensures g b r present) present put

pub returns-clause-conclusion : goal.returns-clause-conclusion
returns-clause-conclusion c =
    if_ok c.replaced.result
    (λ made says g b t e r d x equations present put.
    let same : (var x ≡ var c.variable-x.result.0) × (t ≡ c.equals.result.1.now) =
    read_equation (var x) t e (var c.variable-x.result.0) c.equals.result.1.now
    c.conjuncts.result.1.now
    (sym (c.conclusion.ensures g b (and (equal (var x) t) e) equations) ∙ c.conjuncts.ensures
    ∙ ap (λ (p : Pattern). and p c.conjuncts.result.1.now)
    (c.equals.ensures
    ∙ ap (λ (p : Pattern). equal p c.equals.result.1.now) c.variable-x.ensures)) in
    says g b r d present
    (put_same x c.variable-x.result.0 t c.equals.result.1.now r d same.0 same.1 put))
    c.replaced.ensures.conclusion
