use Rattle.ml_pat.specs.Patterns.{imp}
use Rattle.ml_derived.specs.Scopes.{IsOver, IsWithin}
use Rattle.ml_derived.proofs.StayingLaws.{if_ok, concluded, made}
use Rattle.ml_derived.proofs.hypothetical.before.Goals as goal

pub returns-clause-stays : goal.returns-clause-stays
returns-clause-stays c =
    if_ok c.under.result
    (λ t stays s hp ht.
    let parts : IsOver s (imp c.args.p.now c.args.q.now) =
    concluded s c.args.a.now (imp c.args.p.now c.args.q.now) ht.0 c.requires in
    let w-weaker : IsWithin s c.in_ok-weaker.weaker =
    c.in_ok-weaker.ensures.stays s ((made s c.in_ok-after.after (imp c.args.q.now c.args.r.now) (parts.1, hp.0) c.in_ok-after.ensures), (parts.0, tt)) tt in
    let w-rule : IsWithin s c.in_ok-rule.rule =
    c.in_ok-rule.ensures.stays s (parts.0, (parts.1, (hp.0, tt))) tt in
    let w-open : IsWithin s c.in_ok-open.open =
    c.in_ok-open.ensures.stays s tt (w-weaker, (w-rule, tt)) in
    let w-lifted : IsWithin s c.in_ok-lifted.lifted =
    c.in_ok-lifted.ensures.stays s ((made s c.in_ok-after.after (imp c.args.q.now c.args.r.now) (parts.1, hp.0) c.in_ok-after.ensures), tt) (ht.0, tt) in
    stays s tt (w-lifted, (w-open, tt)))
    c.under.ensures.stays
