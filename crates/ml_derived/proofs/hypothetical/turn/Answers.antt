use Rattle.ml_pat.specs.Patterns.{bot, imp, and}
use Rattle.ml_derived.specs.Scopes.{IsOver, IsWithin}
use Rattle.ml_derived.proofs.StayingLaws.{if_ok, concluded, made}
use Rattle.ml_derived.proofs.hypothetical.turn.Goals as goal

pub returns-clause-stays : goal.returns-clause-stays
returns-clause-stays c =
    if_ok c.chained.result
    (λ t stays s hp ht.
    let parts : IsOver s (imp c.args.r.now (imp (and c.args.p.now c.args.q.now) bot)) =
    concluded s c.args.a.now (imp c.args.r.now (imp (and c.args.p.now c.args.q.now) bot)) ht.0 c.requires in
    let w-second : IsWithin s c.in_ok-second.second =
    c.in_ok-second.ensures.stays s (parts.1.0.1, (parts.1.0.0, tt)) tt in
    let w-first : IsWithin s c.in_ok-first.first =
    c.in_ok-first.ensures.stays s (parts.1.0.1, (parts.1.0.0, tt)) tt in
    let w-into : IsWithin s c.in_ok-into.into =
    c.in_ok-into.ensures.stays s tt (w-second, (w-first, tt)) in
    let w-rule : IsWithin s c.in_ok-rule.rule =
    c.in_ok-rule.ensures.stays s ((made s c.in_ok-nothing.nothing bot tt c.in_ok-nothing.ensures), tt) (w-into, tt) in
    stays s tt (ht.0, (w-rule, tt)))
    c.chained.ensures.stays
