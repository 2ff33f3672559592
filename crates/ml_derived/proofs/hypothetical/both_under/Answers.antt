use Rattle.ml_pat.specs.Patterns.{imp}
use Rattle.ml_derived.specs.Scopes.{IsOver, IsWithin}
use Rattle.ml_derived.proofs.StayingLaws.{if_ok, concluded}
use Rattle.ml_derived.proofs.hypothetical.both_under.Goals as goal

pub returns-clause-stays : goal.returns-clause-stays
returns-clause-stays c =
    if_ok c.under.result
    (λ t stays s hp ht.
    let parts : IsOver s (imp c.args.h.now c.args.p.now) =
    concluded s c.args.a.now (imp c.args.h.now c.args.p.now) ht.0 c.requires.a in
    let parts2 : IsOver s (imp c.args.h.now c.args.q.now) =
    concluded s c.args.b.now (imp c.args.h.now c.args.q.now) ht.1.0 c.requires.b in
    let w-joining : IsWithin s c.in_ok-joining.joining =
    c.in_ok-joining.ensures.stays s (parts.1, (parts2.1, tt)) tt in
    let w-open : IsWithin s c.in_ok-open.open =
    c.in_ok-open.ensures.stays s tt (ht.0, (w-joining, tt)) in
    stays s tt (ht.1.0, (w-open, tt)))
    c.under.ensures.stays
