use Rattle.ml_pat.specs.Patterns.{imp}
use Rattle.ml_derived.specs.Scopes.{IsWithin}
use Rattle.ml_derived.proofs.StayingLaws.{if_ok, made}
use Rattle.ml_derived.proofs.hypothetical.itself.Goals as goal

pub returns-clause-stays : goal.returns-clause-stays
returns-clause-stays c =
    if_ok c.under.result
    (λ t stays s hp ht.
    let w-first : IsWithin s c.in_ok-first.first =
    c.in_ok-first.ensures.stays s (hp.0, (hp.0, tt)) tt in
    let w-second : IsWithin s c.in_ok-second.second =
    c.in_ok-second.ensures.stays s (hp.0, ((made s c.in_ok-same.same (imp c.args.p.now c.args.p.now) (hp.0, hp.0) c.in_ok-same.ensures), tt)) tt in
    stays s tt (w-first, (w-second, tt)))
    c.under.ensures.stays
