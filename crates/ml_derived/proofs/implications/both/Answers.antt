use Rattle.std.proofs.Common.{sym}
use Rattle.ml_derived.specs.Scopes.{IsOver}
use Rattle.ml_derived.proofs.StayingLaws.{if_ok, concluded}
use Rattle.ml_derived.proofs.implications.both.Goals as goal

pub returns-clause-stays : goal.returns-clause-stays
returns-clause-stays c =
    if_ok c.mp-2.result
    (λ t stays s hp ht.
    let p : IsOver s c.conclusion-p.result.now =
    concluded s c.args.a.now c.conclusion-p.result.now ht.0 (sym c.conclusion-p.ensures) in
    let q : IsOver s c.conclusion-q.result.now =
    concluded s c.args.b.now c.conclusion-q.result.now ht.1.0 (sym c.conclusion-q.ensures) in
    stays s tt (
      ht.1.0,
      (
        c.in_ok-open.ensures.stays s tt
            (ht.0, (c.in_ok-joining.ensures.stays s (p, (q, tt)) tt, tt)),
        tt,
      ),
    ))
    c.mp-2.ensures.stays
