use Rattle.std.proofs.Common.{sym, ◌∙◌, subst}
use Rattle.ml_pat.specs.Patterns.{imp, and}
use Rattle.ml_derived.specs.Scopes.{IsOver}
use Rattle.ml_derived.proofs.StayingLaws.{if_ok, concluded}
use Rattle.ml_derived.proofs.implications.free_of_condition.Goals as goal

pub returns-clause-stays : goal.returns-clause-stays
returns-clause-stays c =
    if_ok c.chained.result
    (λ t stays s hp ht.
    let whole : IsOver s (imp c.sides.result.0.now c.sides.result.1.now) =
    concluded s c.args.rule.now _ ht.0 (sym c.conclusion.ensures ∙ c.sides.ensures) in
    let both : IsOver s (and c.conjuncts.result.0.now c.conjuncts.result.1.now) =
    subst (IsOver s) c.conjuncts.ensures whole.0 in
    stays s tt (c.in_ok-with_condition.ensures.stays s (both.0, tt) (ht.1.0, tt), (ht.0, tt)))
    c.chained.ensures.stays
