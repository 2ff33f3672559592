use Rattle.ml_pat.specs.Patterns.{imp}
use Rattle.ml_derived.specs.Scopes.{IsOver, IsWithin}
use Rattle.ml_derived.proofs.StayingLaws.{if_ok, concluded}
use Rattle.stuck_prove.proofs.bodies.from_both.Goals as goal

pub returns-clause-stays : goal.returns-clause-stays
returns-clause-stays c =
    if_ok c.chain_under.result
    (λ r stays s hp ht.
    let parts : IsOver s (imp c.args.g.now (imp c.args.both.now c.requires.rule.0)) =
    concluded s c.args.rule.now (imp c.args.g.now (imp c.args.both.now c.requires.rule.0)) ht.0
    c.requires.rule.1 in
    let in_both : IsWithin s c.in_ok-inside.inside =
    c.in_ok-inside.ensures.stays s (parts.1.0, (hp.1.0, tt)) tt in
    stays s tt (c.in_ok-lift.ensures.stays s (hp.0, tt) (in_both, tt), (ht.0, tt)))
    c.chain_under.ensures.stays
