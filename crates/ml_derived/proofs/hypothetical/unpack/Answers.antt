use Rattle.ml_pat.specs.Patterns.{imp, and}
use Rattle.ml_derived.specs.Scopes.{IsOver, IsWithin}
use Rattle.ml_derived.proofs.StayingLaws.{if_ok, concluded}
use Rattle.ml_derived.proofs.hypothetical.unpack.Goals as goal

pub returns-clause-stays : goal.returns-clause-stays
returns-clause-stays c =
    if_ok c.then.result
    (λ t stays s hp ht.
    let parts : IsOver s (imp (and c.args.h.now c.args.p.now) c.args.q.now) =
    concluded s c.args.a.now (imp (and c.args.h.now c.args.p.now) c.args.q.now) ht.0 c.requires in
    let w-joining : IsWithin s c.in_ok-joining.joining =
    c.in_ok-joining.ensures.stays s (parts.0.0, (parts.0.1, tt)) tt in
    stays s tt (w-joining, (ht.0, tt)))
    c.then.ensures.stays
