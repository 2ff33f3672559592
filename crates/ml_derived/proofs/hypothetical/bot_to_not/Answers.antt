use Rattle.ml_pat.specs.Patterns.{bot, imp}
use Rattle.ml_derived.specs.Scopes.{IsOver, IsWithin}
use Rattle.ml_derived.proofs.StayingLaws.{if_ok, concluded}
use Rattle.ml_derived.proofs.hypothetical.bot_to_not.Goals as goal

pub returns-clause-stays : goal.returns-clause-stays
returns-clause-stays c =
    if_ok c.chained.result
    (λ t stays s hp ht.
    let parts : IsOver s (imp c.args.r.now (imp c.args.p.now bot)) =
    concluded s c.args.a.now (imp c.args.r.now (imp c.args.p.now bot)) ht.0 c.requires in
    let w-rule : IsWithin s c.in_ok-rule.rule =
    c.in_ok-rule.ensures.stays s (parts.1.0, tt) tt in
    stays s tt (ht.0, (w-rule, tt)))
    c.chained.ensures.stays
