use Rattle.ml_pat.specs.Patterns.{imp, not, equal, var}
use Rattle.ml_derived.specs.Scopes.{IsOver, IsWithin}
use Rattle.ml_derived.proofs.StayingLaws.{if_ok, concluded, made}
use Rattle.ml_derived.proofs.denying.unequal_to.Goals as goal

pub returns-clause-stays : goal.returns-clause-stays
returns-clause-stays c =
    if_ok c.chained.result
    (λ t stays s hp ht.
    let unequal : IsOver s (imp c.args.r.now (not (equal c.args.p.now c.args.q.now))) =
    concluded s c.args.a.now (imp c.args.r.now (not (equal c.args.p.now c.args.q.now))) ht.0 c.requires.a in
    let same : IsOver s (equal c.args.q.now c.args.t.now) =
    concluded s c.args.eq.now (equal c.args.q.now c.args.t.now) ht.1.0 c.requires.eq in
    let mark : IsOver s c.in_ok-mark.mark =
    made s c.in_ok-mark.mark (var c.args.y.0) hp.0 c.in_ok-mark.ensures in
    let place : IsOver s c.in_ok-place.place =
    made s c.in_ok-place.place (equal c.args.p.now c.in_ok-mark.mark) (unequal.1.0, mark) c.in_ok-place.ensures in
    let context : IsOver s c.in_ok-context.context =
    made s c.in_ok-context.context (not c.in_ok-place.place) place c.in_ok-context.ensures in
    let first : IsOver s c.in_ok-first.first =
    made s c.in_ok-first.first (equal c.args.p.now c.args.q.now) unequal.1 c.in_ok-first.ensures in
    let second : IsOver s c.in_ok-second.second =
    made s c.in_ok-second.second (equal c.args.p.now c.args.t.now) (unequal.1.0, same.1) c.in_ok-second.ensures in
    let from : IsOver s c.in_ok-from.from =
    made s c.in_ok-from.from (not c.in_ok-first.first) first c.in_ok-from.ensures in
    let to : IsOver s c.in_ok-to.to =
    made s c.in_ok-to.to (not c.in_ok-second.second) second c.in_ok-to.ensures in
    let w-rule : IsWithin s c.in_ok-rule.rule =
    c.in_ok-rule.ensures.stays s (unequal.1.1, (same.1, (context, (from, (to, (hp.0, tt)))))) tt in
    let w-moved : IsWithin s c.in_ok-moved.moved =
    c.in_ok-moved.ensures.stays s tt (ht.1.0, (w-rule, tt)) in
    stays s tt (ht.0, (w-moved, tt)))
    c.chained.ensures.stays
