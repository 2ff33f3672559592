use Rattle.std.proofs.Common.{subst}
use Rattle.ml_pat.specs.Patterns.{and}
use Rattle.ml_derived.specs.Scopes.{IsOver}
use Rattle.ml_derived.proofs.StayingLaws.{if_ok}
use Rattle.refute_guard.proofs.conditions.condition_of.Goals as goal

pub returns-clause-stays : goal.returns-clause-stays
returns-clause-stays c =
    if_ok c.lift.result
    (λ t stays s hp ht.
    let parts : IsOver s (and c.conjuncts.result.0.now c.conjuncts.result.1.now) =
    subst (IsOver s) c.conjuncts.ensures hp.1.0 in
    stays s (hp.0, tt) (c.in_ok-first.ensures.stays s (parts.0, (parts.1, tt)) tt, tt))
    c.lift.ensures.stays
