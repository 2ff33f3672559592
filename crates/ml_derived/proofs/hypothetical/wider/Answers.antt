use Rattle.ml_pat.specs.Patterns.{imp}
use Rattle.ml_derived.specs.Scopes.{IsOver, IsWithin}
use Rattle.ml_derived.proofs.StayingLaws.{if_ok, concluded}
use Rattle.ml_derived.proofs.hypothetical.wider.Goals as goal

pub returns-clause-stays : goal.returns-clause-stays
returns-clause-stays c =
    if_ok c.both_under.result
    (λ t stays s hp ht.
    let parts : IsOver s (imp c.args.p.now c.args.q.now) =
    concluded s c.args.a.now (imp c.args.p.now c.args.q.now) ht.0 c.requires in
    let w-first : IsWithin s c.in_ok-first.first =
    c.in_ok-first.ensures.stays s (parts.0, (hp.0, tt)) tt in
    let w-into : IsWithin s c.in_ok-into.into =
    c.in_ok-into.ensures.stays s tt (w-first, (ht.0, tt)) in
    let w-second : IsWithin s c.in_ok-second.second =
    c.in_ok-second.ensures.stays s (parts.0, (hp.0, tt)) tt in
    stays s tt (w-into, (w-second, tt)))
    c.both_under.ensures.stays
