use Rattle.ml_pat.specs.Patterns.{imp, fun, member, var}
use Rattle.ml_derived.specs.Scopes.{IsOver, IsWithin}
use Rattle.ml_derived.proofs.StayingLaws.{if_ok, concluded, made}
use Rattle.ml_derived.proofs.refuting.moved.Goals as goal

pub returns-clause-stays : goal.returns-clause-stays
returns-clause-stays c =
    if_ok c.chained.result
    (λ t stays s hp ht.
    let one : IsOver s (imp c.args.r.now (fun c.args.p.pattern.now c.args.p.sort.0)) =
    concluded s c.args.p.fact.now (imp c.args.r.now (fun c.args.p.pattern.now c.args.p.sort.0)) ht.0 c.requires.p in
    let own : IsOver s c.in_ok-own.own =
    made s c.in_ok-own.own (member c.args.p.pattern.now c.args.p.pattern.now) (one.1.0, one.1.0) c.in_ok-own.ensures in
    let inside : IsOver s c.in_ok-inside.inside =
    made s c.in_ok-inside.inside (member c.args.p.pattern.now c.args.t.now) (one.1.0, hp.0) c.in_ok-inside.ensures in
    let mark : IsOver s c.in_ok-var.field-0 =
    made s c.in_ok-var.field-0 (var c.args.y.0) hp.1.0 c.in_ok-var.ensures in
    let context : IsOver s c.in_ok-context.context =
    made s c.in_ok-context.context (member c.args.p.pattern.now c.in_ok-var.field-0) (one.1.0, mark)
    c.in_ok-context.ensures in
    let w-held : IsWithin s c.in_ok-held.held =
    c.in_ok-held.ensures.stays s tt (ht.0, tt) in
    let w-rule : IsWithin s c.in_ok-rule.rule =
    c.in_ok-rule.ensures.stays s (one.1.0, (hp.0, (context, (own, (inside, (hp.1.0, tt)))))) tt in
    let w-swapped : IsWithin s c.in_ok-swapped.swapped =
    c.in_ok-swapped.ensures.stays s tt (w-rule, tt) in
    stays s tt (w-held, (w-swapped, tt)))
    c.chained.ensures.stays
