use Rattle.ml_pat.specs.Patterns.{not, equal, var}
use Rattle.ml_derived.specs.Scopes.{IsOver, IsWithin}
use Rattle.ml_derived.proofs.StayingLaws.{if_ok, concluded, made}
use Rattle.ml_derived.proofs.denying.not_both.Goals as goal

pub returns-clause-stays : goal.returns-clause-stays
returns-clause-stays c =
    if_ok c.then.result
    (λ t stays s hp ht.
    let unequal : IsOver s (not (equal c.args.p.now c.args.q.now)) =
    concluded s c.args.differ.now (not (equal c.args.p.now c.args.q.now)) ht.0 c.requires.differ in
    let second : IsOver s c.in_ok-second.second =
    made s c.in_ok-second.second (equal c.args.x.now c.args.q.now) (hp.0, unequal.1) c.in_ok-second.ensures in
    let same : IsOver s c.in_ok-same.same =
    made s c.in_ok-same.same (equal c.args.p.now c.args.q.now) unequal c.in_ok-same.ensures in
    let mark : IsOver s c.in_ok-mark.mark =
    made s c.in_ok-mark.mark (var c.args.y.0) hp.1.0 c.in_ok-mark.ensures in
    let context : IsOver s c.in_ok-context.context =
    made s c.in_ok-context.context (equal c.in_ok-mark.mark c.args.q.now) (mark, unequal.1) c.in_ok-context.ensures in
    let w-rule : IsWithin s c.in_ok-rule.rule =
    c.in_ok-rule.ensures.stays s (hp.0, (unequal.0, (context, (second, (same, (hp.1.0, tt)))))) tt in
    let w-denied : IsWithin s c.in_ok-denied.denied =
    c.in_ok-denied.ensures.stays s tt (ht.0, tt) in
    stays s tt (w-rule, (w-denied, tt)))
    c.then.ensures.stays
