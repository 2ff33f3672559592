use Rattle.ml_derived.specs.Scopes.{IsWithin}
use Rattle.ml_derived.proofs.StayingLaws.{if_ok}
use Rattle.ml_derived.proofs.refuting.disjoint.Goals as goal

pub returns-clause-stays : goal.returns-clause-stays
returns-clause-stays c =
    if_ok c.not_to_bot.result
    (λ t stays s hp ht.
    let w-open : IsWithin s c.in_ok-open.open =
    c.in_ok-open.ensures.stays s tt (ht.1.0, (ht.1.1.0, tt)) in
    let w-denied : IsWithin s c.in_ok-denied.denied =
    c.in_ok-denied.ensures.stays s tt (ht.0, (w-open, tt)) in
    stays s tt (w-denied, tt))
    c.not_to_bot.ensures.stays
