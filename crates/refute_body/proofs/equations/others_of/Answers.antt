use Rattle.std.proofs.Common.{◌≡◌, sym, ◌∙◌, ap}
use Rattle.ml_pat.specs.Patterns.{imp, and}
use Rattle.ml_derived.specs.Scopes.{IsOver}
use Rattle.ml_derived.proofs.StayingLaws.{if_ok}
use Rattle.refute_body.proofs.Shapes.{parts_over}
use Rattle.refute_body.proofs.equations.others_of.Goals as goal

pub returns-clause-stays : goal.returns-clause-stays
returns-clause-stays c =
    let is : c.args.present.now.conclusion ≡ imp c.sides.result.0.now
    (imp c.sides-2.result.0.now (and c.conjuncts.result.0.now c.conjuncts.result.1.now)) =
    sym c.conclusion.ensures ∙ c.sides.ensures
    ∙ ap (imp c.sides.result.0.now)
    (c.sides-2.ensures ∙ ap (imp c.sides-2.result.0.now) c.conjuncts.ensures) in
    if_ok c.then.result
    (λ t stays s hp ht.
    let parts : IsOver s c.conjuncts.result.0.now × IsOver s c.conjuncts.result.1.now =
    parts_over s c.args.present.now c.sides.result.0.now c.sides-2.result.0.now
    c.conjuncts.result.0.now c.conjuncts.result.1.now ht.0 is in
    stays s tt (ht.0, (c.in_ok-and_2.ensures.stays s (parts.0, (parts.1, tt)) tt, tt)))
    c.then.ensures.stays
