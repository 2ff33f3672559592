use Rattle.ml_derived.specs.Scopes.{IsWithin}
use Rattle.ml_derived.proofs.StayingLaws.{if_ok}
use Rattle.ml_derived.proofs.denying.denied_by.Goals as goal

pub returns-clause-stays : goal.returns-clause-stays
returns-clause-stays c =
    if_ok c.bot_to_not.result
    (λ t stays s hp ht.
    let w-denied : IsWithin s c.in_ok-denied.denied =
    c.in_ok-denied.ensures.stays s tt (ht.1.0, tt) in
    let w-none : IsWithin s c.in_ok-none.none =
    c.in_ok-none.ensures.stays s tt (ht.0, (w-denied, tt)) in
    stays s tt (w-none, tt))
    c.bot_to_not.ensures.stays
