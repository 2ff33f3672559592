use Rattle.std.proofs.Common.{sym}
use Rattle.ml_derived.specs.Scopes.{IsOver}
use Rattle.ml_derived.proofs.StayingLaws.{if_ok, concluded}
use Rattle.ml_derived.proofs.implications.add_condition.Goals as goal

pub returns-clause-stays : goal.returns-clause-stays
returns-clause-stays c =
    if_ok c.under.result
    (λ t stays s hp ht.
    let held : IsOver s c.conclusion-c.result.now =
    concluded s c.args.condition.now c.conclusion-c.result.now ht.0 (sym c.conclusion-c.ensures) in
    stays s tt (
      c.in_ok-lifted.ensures.stays s hp ht,
      (c.in_ok-joining.ensures.stays s (hp.0, (held, tt)) tt, tt),
    ))
    c.under.ensures.stays
