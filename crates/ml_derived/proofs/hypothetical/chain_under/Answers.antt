use Rattle.ml_pat.specs.Patterns.{imp}
use Rattle.ml_derived.specs.Scopes.{IsOver, IsWithin}
use Rattle.ml_derived.proofs.StayingLaws.{if_ok, concluded, made}
use Rattle.ml_derived.proofs.hypothetical.chain_under.Goals as goal

pub returns-clause-stays : goal.returns-clause-stays
returns-clause-stays c =
    if_ok c.under_two.result
    (λ t stays s hp ht.
    let parts : IsOver s (imp c.args.h.now (imp c.args.p.now c.args.q.now)) =
    concluded s c.args.a.now (imp c.args.h.now (imp c.args.p.now c.args.q.now)) ht.0 c.requires.a in
    let parts2 : IsOver s (imp c.args.h.now (imp c.args.q.now c.args.r.now)) =
    concluded s c.args.b.now (imp c.args.h.now (imp c.args.q.now c.args.r.now)) ht.1.0 c.requires.b in
    let w-weaker : IsWithin s c.in_ok-weaker.weaker =
    c.in_ok-weaker.ensures.stays s ((made s c.in_ok-next.next (imp c.args.q.now c.args.r.now) (parts.1.1, parts2.1.1) c.in_ok-next.ensures), (parts.1.0, tt)) tt in
    let w-open : IsWithin s c.in_ok-open.open =
    c.in_ok-open.ensures.stays s tt (ht.1.0, (w-weaker, tt)) in
    stays s tt (ht.0, (w-open, tt)))
    c.under_two.ensures.stays
