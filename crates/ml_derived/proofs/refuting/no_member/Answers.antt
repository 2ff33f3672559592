use Rattle.ml_derived.specs.Scopes.{IsWithin}
use Rattle.ml_derived.proofs.StayingLaws.{if_ok}
use Rattle.ml_derived.proofs.refuting.no_member.Goals as goal

pub returns-clause-stays : goal.returns-clause-stays
returns-clause-stays c =
    if_ok c.not_to_bot.result
    (λ t stays s hp ht.
    let w-none : IsWithin s c.in_ok-none.none =
    c.in_ok-none.ensures.stays s tt (ht.0, tt) in
    let w-outside : IsWithin s c.in_ok-outside.outside =
    c.in_ok-outside.ensures.stays s tt (w-none, tt) in
    stays s tt (w-outside, tt))
    c.not_to_bot.ensures.stays
