use Rattle.ml_derived.specs.Scopes.{IsWithin}
use Rattle.ml_derived.proofs.StayingLaws.{if_ok}
use Rattle.ml_derived.proofs.refuting.no_argument.Goals as goal

pub returns-clause-stays : goal.returns-clause-stays
returns-clause-stays c =
    if_ok c.then.result
    (λ t stays s hp ht.
    let w-inner : IsWithin s c.in_ok-inner.inner =
    c.in_ok-inner.ensures.stays s (hp.0, tt) (ht.0, tt) in
    let w-rule : IsWithin s c.in_ok-rule.rule =
    c.in_ok-rule.ensures.stays s (hp.0, tt) tt in
    stays s tt (w-inner, (w-rule, tt)))
    c.then.ensures.stays
