use Rattle.ml_pat.specs.Patterns.{imp, fun}
use Rattle.ml_derived.specs.Scopes.{IsOver, IsWithin}
use Rattle.ml_derived.proofs.StayingLaws.{if_ok, concluded}
use Rattle.ml_derived.proofs.refuting.own_member.Goals as goal

pub returns-clause-stays : goal.returns-clause-stays
returns-clause-stays c =
    if_ok c.chained.result
    (λ t stays s hp ht.
    let one : IsOver s (imp c.args.r.now (fun c.args.p.pattern.now c.args.p.sort.0)) =
    concluded s c.args.p.fact.now (imp c.args.r.now (fun c.args.p.pattern.now c.args.p.sort.0)) ht.0 c.requires.p in
    let w-rule : IsWithin s c.in_ok-rule.rule =
    c.in_ok-rule.ensures.stays s (one.1, tt) tt in
    stays s tt (ht.0, (w-rule, tt)))
    c.chained.ensures.stays
