use Rattle.std.proofs.Common.{sym}
use Rattle.ml_derived.proofs.StayingLaws.{if_ok, concluded}
use Rattle.ml_derived.proofs.implications.lift.Goals as goal

pub returns-clause-stays : goal.returns-clause-stays
returns-clause-stays c =
    if_ok c.mp.result
    (λ t stays s hp ht.
    stays s tt (
      ht.0,
      (
        c.in_ok-weaken.ensures.stays s
            (concluded s c.args.a.now _ ht.0 (sym c.conclusion-q.ensures), (hp.0, tt)) tt,
        tt,
      ),
    ))
    c.mp.ensures.stays
