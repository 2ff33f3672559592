use Rattle.ml_pat.specs.Patterns.{imp, fun}
use Rattle.ml_derived.specs.Scopes.{IsOver, IsWithin}
use Rattle.ml_derived.proofs.StayingLaws.{if_ok, concluded}
use Rattle.ml_derived.proofs.refuting.parted.Goals as goal

pub returns-clause-stays : goal.returns-clause-stays
returns-clause-stays c =
    if_ok c.under.result
    (λ t stays s hp ht.
    let one : IsOver s (imp c.args.r.now (fun c.args.p.pattern.now c.args.p.sort.0)) =
    concluded s c.args.p.fact.now (imp c.args.r.now (fun c.args.p.pattern.now c.args.p.sort.0)) ht.0 c.requires.p in
    let other : IsOver s (imp c.args.r.now (fun c.args.q.pattern.now c.args.q.sort.0)) =
    concluded s c.args.q.fact.now (imp c.args.r.now (fun c.args.q.pattern.now c.args.q.sort.0)) ht.1.0 c.requires.q in
    let w-rule : IsWithin s c.in_ok-rule.rule =
    c.in_ok-rule.ensures.stays s (one.1, (other.1, tt)) tt in
    let w-open : IsWithin s c.in_ok-open.open =
    c.in_ok-open.ensures.stays s tt (ht.0, (w-rule, tt)) in
    stays s tt (ht.1.0, (w-open, tt)))
    c.under.ensures.stays
