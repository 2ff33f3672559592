use Rattle.std.proofs.Common.{subst}
use Rattle.ml_pat.specs.Patterns.{and}
use Rattle.ml_derived.specs.Scopes.{IsOver}
use Rattle.ml_derived.proofs.StayingLaws.{if_ok, made}
use Rattle.stuck_prove.proofs.bodies.condition_in.Goals as goal

pub returns-clause-stays : goal.returns-clause-stays
returns-clause-stays c =
    if_ok c.lift.result
    (λ r stays s hp ht.
    let parts : IsOver s (and c.conjuncts.result.0.now c.conjuncts.result.1.now) =
    subst (IsOver s) c.conjuncts.ensures hp.1.0 in
    let turned : IsOver s c.in_ok-turned.turned =
    made s c.in_ok-turned.turned (and c.conjuncts.result.1.now c.conjuncts.result.0.now)
    (parts.1, parts.0) c.in_ok-turned.ensures in
    stays s (hp.0, tt) (c.in_ok-and_2.ensures.stays s (turned, (hp.1.1.0, tt)) tt, tt))
    c.lift.ensures.stays
