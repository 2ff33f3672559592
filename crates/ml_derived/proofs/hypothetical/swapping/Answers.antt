use Rattle.ml_pat.specs.Patterns.{imp}
use Rattle.ml_derived.specs.Scopes.{IsWithin}
use Rattle.ml_derived.proofs.StayingLaws.{if_ok, made}
use Rattle.ml_derived.proofs.hypothetical.swapping.Goals as goal

pub returns-clause-stays : goal.returns-clause-stays
returns-clause-stays c =
    if_ok c.chained.result
    (λ t stays s hp ht.
    let w-rule : IsWithin s c.in_ok-rule.rule =
    c.in_ok-rule.ensures.stays s (hp.0, (hp.1.0, (hp.1.1.0, tt))) tt in
    let w-weaker : IsWithin s c.in_ok-weaker.weaker =
    c.in_ok-weaker.ensures.stays s (hp.1.0, (hp.0, tt)) tt in
    let w-into : IsWithin s c.in_ok-into.into =
    c.in_ok-into.ensures.stays s ((made s c.in_ok-whole.whole (imp c.args.p.now c.args.r.now) (hp.0, hp.1.1.0) c.in_ok-whole.ensures), tt) (w-weaker, tt) in
    stays s tt (w-rule, (w-into, tt)))
    c.chained.ensures.stays
