use Rattle.std.proofs.Common.{◌≡◌, sym, ◌∙◌, ap, subst}
use Rattle.ml_pat.specs.Patterns.{imp, and}
use Rattle.ml_derived.specs.Scopes.{IsOver}
use Rattle.ml_derived.proofs.StayingLaws.{if_ok}
use Rattle.refute_guard.proofs.members.without_first.Goals as goal

pub returns-clause-stays : goal.returns-clause-stays
returns-clause-stays c =
    let is : c.args.present.now.conclusion ≡ imp c.sides.result.0.now
    (and c.conjuncts.result.0.now c.conjuncts.result.1.now) =
    sym c.conclusion.ensures ∙ c.sides.ensures ∙ ap (imp c.sides.result.0.now) c.conjuncts.ensures in
    if_ok c.chain.result
    (λ t stays s hp ht.
    let over : IsOver s (imp c.sides.result.0.now
    (and c.conjuncts.result.0.now c.conjuncts.result.1.now)) =
    subst (IsOver s) is ht.0.conclusion in
    stays s tt (ht.0, (c.in_ok-and_2.ensures.stays s (over.1.0, (over.1.1, tt)) tt, tt)))
    c.chain.ensures.stays
