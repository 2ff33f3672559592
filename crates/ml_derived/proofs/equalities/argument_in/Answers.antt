use Rattle.std.proofs.Common.{◌≡◌, sym, ◌∙◌, ap, subst}
use Rattle.ml_pat.specs.Patterns.{Pattern, equal, app, var}
use Rattle.ml_derived.specs.Scopes.{IsOver}
use Rattle.ml_derived.proofs.ContextLaws.{at_argument}
use Rattle.ml_derived.proofs.StayingLaws.{if_ok, concluded}
use Rattle.ml_derived.proofs.equalities.argument_in.Goals as goal

pub carried-requires-clause-given : goal.carried-requires-clause-given
carried-requires-clause-given c =
    let context : c.in_ok-context.context ≡ equal c.args.from.now (app c.args.q.now (var 0)) =
    c.in_ok-context.ensures
    ∙ ap (λ (o : Pattern). equal c.args.from.now o)
    (c.in_ok-open.ensures ∙ ap (λ (v : Pattern). app c.args.q.now v) c.in_ok-var.ensures) in
    at_argument c.args.from.now c.args.q.now c.args.r.now c.in_ok-context.context
    c.args.one.now.conclusion context c.requires.one c.requires.closed_from c.requires.closed_q

pub carried-requires-clause-made : goal.carried-requires-clause-made
carried-requires-clause-made c =
    let context : c.in_ok-context.context ≡ equal c.args.from.now (app c.args.q.now (var 0)) =
    c.in_ok-context.ensures
    ∙ ap (λ (o : Pattern). equal c.args.from.now o)
    (c.in_ok-open.ensures ∙ ap (λ (v : Pattern). app c.args.q.now v) c.in_ok-var.ensures) in
    at_argument c.args.from.now c.args.q.now c.args.t.now c.in_ok-context.context c.in_ok-made.made
    context
    (c.in_ok-made.ensures ∙ ap (λ (p : Pattern). equal c.args.from.now p) c.in_ok-app.ensures)
    c.requires.closed_from c.requires.closed_q

pub returns-clause-stays : goal.returns-clause-stays
returns-clause-stays c =
    let is : c.in_ok-context.context ≡ equal c.args.from.now (app c.args.q.now (var 0)) =
    c.in_ok-context.ensures
    ∙ ap (λ (o : Pattern). equal c.args.from.now o)
    (c.in_ok-open.ensures ∙ ap (λ (v : Pattern). app c.args.q.now v) c.in_ok-var.ensures) in
    if_ok c.carried.result
    (λ t stays s hp ht.
    let sides : IsOver s (equal c.args.from.now (app c.args.q.now c.args.r.now)) =
    concluded s c.args.one.now (equal c.args.from.now (app c.args.q.now c.args.r.now)) ht.0
    c.requires.one in
    let context : IsOver s c.in_ok-context.context =
    subst (IsOver s) (sym is) (sides.0, (sides.1.0, hp.0)) in
    stays s (context, (hp.0, tt)) (ht.1.0, (ht.0, tt)))
    c.carried.ensures.stays
