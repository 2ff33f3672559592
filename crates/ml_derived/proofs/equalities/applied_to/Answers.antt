use Rattle.std.proofs.Common.{◌≡◌, sym, ◌∙◌, ap, subst}
use Rattle.ml_pat.specs.Patterns.{Pattern, equal, app, var}
use Rattle.ml_kernel.specs.Lemmas.{HasNoVariable}
use Rattle.ml_derived.specs.Scopes.{IsOver}
use Rattle.ml_derived.proofs.ContextLaws.{at_function}
use Rattle.ml_derived.proofs.StayingLaws.{if_ok, concluded}
use Rattle.ml_derived.proofs.equalities.applied_to.Goals as goal

pub carried-requires-clause-given : goal.carried-requires-clause-given
carried-requires-clause-given c =
    let context : c.in_ok-context.context ≡ equal c.args.from.now (app (var 0) c.args.r.now) =
    c.in_ok-context.ensures
    ∙ ap (λ (o : Pattern). equal c.args.from.now o)
    (c.in_ok-open.ensures ∙ ap (λ (v : Pattern). app v c.args.r.now) c.in_ok-var.ensures) in
    let closed : HasNoVariable c.args.from.now =
    subst (λ (p : Pattern). HasNoVariable p) (sym c.requires.from)
    (c.requires.closed_p, c.requires.closed_r) in
    at_function c.args.from.now c.args.r.now c.args.p.now c.in_ok-context.context
    c.in_ok-same.same.conclusion context
    (c.in_ok-same.ensures.conclusion
    ∙ ap (λ (p : Pattern). equal c.args.from.now p) c.requires.from) closed
    c.requires.closed_r

pub carried-requires-clause-made : goal.carried-requires-clause-made
carried-requires-clause-made c =
    let context : c.in_ok-context.context ≡ equal c.args.from.now (app (var 0) c.args.r.now) =
    c.in_ok-context.ensures
    ∙ ap (λ (o : Pattern). equal c.args.from.now o)
    (c.in_ok-open.ensures ∙ ap (λ (v : Pattern). app v c.args.r.now) c.in_ok-var.ensures) in
    let closed : HasNoVariable c.args.from.now =
    subst (λ (p : Pattern). HasNoVariable p) (sym c.requires.from)
    (c.requires.closed_p, c.requires.closed_r) in
    at_function c.args.from.now c.args.r.now c.args.q.now c.in_ok-context.context c.in_ok-made.made
    context
    (c.in_ok-made.ensures ∙ ap (λ (p : Pattern). equal c.args.from.now p) c.in_ok-app.ensures)
    closed c.requires.closed_r

pub returns-clause-stays : goal.returns-clause-stays
returns-clause-stays c =
    let is : c.in_ok-context.context ≡ equal c.args.from.now (app (var 0) c.args.r.now) =
    c.in_ok-context.ensures
    ∙ ap (λ (o : Pattern). equal c.args.from.now o)
    (c.in_ok-open.ensures ∙ ap (λ (v : Pattern). app v c.args.r.now) c.in_ok-var.ensures) in
    if_ok c.carried.result
    (λ t stays s hp ht.
    let sides : IsOver s (equal c.args.p.now c.args.q.now) =
    concluded s c.args.f.now (equal c.args.p.now c.args.q.now) ht.0 c.requires.f in
    let from : IsOver s c.args.from.now = subst (IsOver s) (sym c.requires.from) (sides.0, hp.0) in
    let context : IsOver s c.in_ok-context.context =
    subst (IsOver s) (sym is) (from, (hp.1.0, hp.0)) in
    stays s (context, (hp.1.0, tt)) (ht.0, (c.in_ok-same.ensures.stays s (from, tt) tt, tt)))
    c.carried.ensures.stays
