use Rattle.ml_pat.specs.Patterns.{imp}
use Rattle.ml_derived.specs.Scopes.{IsOver, IsWithin}
use Rattle.ml_derived.proofs.StayingLaws.{if_ok, concluded}
use Rattle.ml_derived.proofs.hypothetical.then.Goals as goal

pub returns-clause-stays : goal.returns-clause-stays
returns-clause-stays c =
    if_ok c.chained.result
    (λ t stays s hp ht.
    let parts : IsOver s (imp c.args.h.now (imp c.args.p.now c.args.q.now)) =
    concluded s c.args.a.now (imp c.args.h.now (imp c.args.p.now c.args.q.now)) ht.0 c.requires.a in
    let parts2 : IsOver s (imp c.args.q.now c.args.r.now) =
    concluded s c.args.b.now (imp c.args.q.now c.args.r.now) ht.1.0 c.requires.b in
    let w-lifted : IsWithin s c.in_ok-lifted.lifted =
    c.in_ok-lifted.ensures.stays s (parts.1.0, tt) (ht.1.0, tt) in
    let w-sides : IsWithin s c.in_ok-sides.sides =
    c.in_ok-sides.ensures.stays s tt (w-lifted, tt) in
    stays s tt (ht.0, (w-sides, tt)))
    c.chained.ensures.stays
