use Rattle.std.proofs.Common.{sym, ◌∙◌}
use Rattle.ml_pat.specs.Patterns.{imp, fun, all}
use Rattle.ml_derived.specs.Parts.{FitsUnder}
use Rattle.ml_derived.specs.Scopes.{leaves_of, IsOver}
use Rattle.ml_derived.proofs.PutLaws.{EachLeaf-substituted}
use Rattle.ml_derived.proofs.StayingLaws.{if_ok, concluded}
use Rattle.ml_derived.proofs.OpenSteps.{same_put}
use Rattle.ml_derived.proofs.instances.open_at.Goals as goal

pub returns-clause-stays : goal.returns-clause-stays
returns-clause-stays c =
    let fits : FitsUnder c.args.h.now c.args.sentence.now.conclusion c.args.fact.now.conclusion =
    c.requires in
    if_ok c.instance_under.result
    (λ t stays s hp ht.
    let sentence : IsOver s (imp c.args.h.now (all fits.variable fits.sort fits.body)) =
    concluded s c.args.sentence.now (imp c.args.h.now (all fits.variable fits.sort fits.body)) ht.0
    fits.binds in
    let fact : IsOver s (imp c.args.h.now (fun fits.by fits.sort)) =
    concluded s c.args.fact.now (imp c.args.h.now (fun fits.by fits.sort)) ht.1.0 fits.says in
    let made : IsOver s c.in-Some.made =
    EachLeaf-substituted (leaves_of s) fits.variable fits.by fits.body c.in-Some.made fact.1.0
    sentence.1.0
    (same_put c.args.h.now c.args.sentence.now.conclusion c.args.fact.now.conclusion fits
    c.sides.result.0.now c.sides.result.1.now c.sides-2.result.0.now c.sides-2.result.1.now
    c.bound.result.2.now c.element-q.result.now c.bound.result.0.0 c.bound.result.1.0
    (sym c.conclusion.ensures ∙ c.sides.ensures) c.bound.ensures
    (sym c.conclusion-2.ensures ∙ c.sides-2.ensures) c.element-q.ensures
    ∙ sym c.in_ok-made.ensures ∙ c.in-Some.is) in
    stays s (made, tt) ht)
    c.instance_under.ensures.stays
