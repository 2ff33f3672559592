use Rattle.std.proofs.Common.{◌≡◌, sym, ◌∙◌, ap, subst}
use Rattle.ml_pat.specs.Patterns.{Pattern, equal, var}
use Rattle.ml_kernel.specs.Lemmas.{HasNoVariable}
use Rattle.ml_derived.specs.Scopes.{IsOver}
use Rattle.ml_derived.proofs.ContextLaws.{at_first_side, closed_side}
use Rattle.ml_derived.proofs.StayingLaws.{if_ok, concluded}
use Rattle.ml_derived.proofs.equalities.flip.Goals as goal

pub carried-requires-clause-given : goal.carried-requires-clause-given
carried-requires-clause-given c =
    let context : c.in_ok-context.context ≡ equal (var 0) c.sides.result.0.now =
    c.in_ok-context.ensures
    ∙ ap (λ (v : Pattern). equal v c.sides.result.0.now) c.in_ok-var.ensures in
    let closed : HasNoVariable c.sides.result.0.now =
    closed_side c.args.ab.now.conclusion c.sides.result.0.now c.sides.result.1.now c.requires
    (sym c.conclusion.ensures ∙ c.sides.ensures) in
    at_first_side c.sides.result.0.now c.sides.result.0.now c.in_ok-context.context
    c.in_ok-same.same.conclusion context c.in_ok-same.ensures.conclusion closed

pub carried-requires-clause-made : goal.carried-requires-clause-made
carried-requires-clause-made c =
    let context : c.in_ok-context.context ≡ equal (var 0) c.sides.result.0.now =
    c.in_ok-context.ensures
    ∙ ap (λ (v : Pattern). equal v c.sides.result.0.now) c.in_ok-var.ensures in
    let closed : HasNoVariable c.sides.result.0.now =
    closed_side c.args.ab.now.conclusion c.sides.result.0.now c.sides.result.1.now c.requires
    (sym c.conclusion.ensures ∙ c.sides.ensures) in
    at_first_side c.sides.result.0.now c.sides.result.1.now c.in_ok-context.context
    c.in_ok-flipped.flipped context c.in_ok-flipped.ensures closed

pub returns-clause-stays : goal.returns-clause-stays
returns-clause-stays c =
    let is : c.in_ok-context.context ≡ equal (var 0) c.sides.result.0.now =
    c.in_ok-context.ensures
    ∙ ap (λ (v : Pattern). equal v c.sides.result.0.now) c.in_ok-var.ensures in
    if_ok c.carried.result
    (λ t stays s hp ht.
    let sides : IsOver s (equal c.sides.result.0.now c.sides.result.1.now) =
    concluded s c.args.ab.now (equal c.sides.result.0.now c.sides.result.1.now) ht.0
    (sym c.conclusion.ensures ∙ c.sides.ensures) in
    let context : IsOver s c.in_ok-context.context = subst (IsOver s) (sym is) (hp.0, sides.0) in
    stays s (context, (hp.0, tt)) (ht.0, (c.in_ok-same.ensures.stays s (sides.0, tt) tt, tt)))
    c.carried.ensures.stays
