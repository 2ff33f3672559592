use Rattle.ml_pat.specs.Patterns.{imp}
use Rattle.ml_derived.specs.Scopes.{IsOver}
use Rattle.ml_derived.proofs.StayingLaws.{if_ok, concluded}
use Rattle.ml_derived.proofs.implications.distributed.Goals as goal

pub returns-clause-stays : goal.returns-clause-stays
returns-clause-stays c =
    if_ok c.mp.result
    (λ t stays s hp ht.
    let parts : IsOver s (imp c.args.h.now (imp c.args.p.now c.args.q.now)) =
    concluded s c.args.b.now (imp c.args.h.now (imp c.args.p.now c.args.q.now)) ht.0 c.requires.b in
    stays s tt
    (ht.0, (c.in_ok-rule.ensures.stays s (parts.0, (parts.1.0, (parts.1.1, tt))) tt, tt)))
    c.mp.ensures.stays
