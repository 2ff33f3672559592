use Rattle.std.proofs.Common.{◌≡◌, sym, ◌∙◌, ap}
use Rattle.ml_pat.specs.Patterns.{Pattern, equal, var}
use Rattle.ml_kernel.specs.Lemmas.{HasNoVariable}
use Rattle.ml_derived.proofs.ContextLaws.{at_last_side, closed_join, to_middle}
use Rattle.ml_derived.proofs.equalities.join.Goals as goal

pub carried-requires-clause-given : goal.carried-requires-clause-given
carried-requires-clause-given c =
    let first : c.args.ab.now.conclusion ≡ equal c.sides.result.0.now c.sides.result.1.now =
    sym c.conclusion.ensures ∙ c.sides.ensures in
    let second : c.args.bc.now.conclusion ≡ equal c.sides-2.result.0.now c.sides-2.result.1.now =
    sym c.conclusion-2.ensures ∙ c.sides-2.ensures in
    let context : c.in_ok-context.context ≡ equal c.sides.result.0.now (var 0) =
    c.in_ok-context.ensures
    ∙ ap (λ (v : Pattern). equal c.sides.result.0.now v) c.in_ok-var.ensures in
    let closed : HasNoVariable c.sides.result.0.now =
    closed_join c.args.ab.now.conclusion c.args.bc.now.conclusion c.sides.result.0.now
    c.sides.result.1.now c.requires first in
    at_last_side c.sides.result.0.now c.sides-2.result.0.now c.in_ok-context.context
    c.args.ab.now.conclusion context
    (to_middle c.args.ab.now.conclusion c.args.bc.now.conclusion c.sides.result.0.now
    c.sides.result.1.now c.sides-2.result.0.now c.sides-2.result.1.now c.requires first
    second) closed

pub carried-requires-clause-made : goal.carried-requires-clause-made
carried-requires-clause-made c =
    let first : c.args.ab.now.conclusion ≡ equal c.sides.result.0.now c.sides.result.1.now =
    sym c.conclusion.ensures ∙ c.sides.ensures in
    let context : c.in_ok-context.context ≡ equal c.sides.result.0.now (var 0) =
    c.in_ok-context.ensures
    ∙ ap (λ (v : Pattern). equal c.sides.result.0.now v) c.in_ok-var.ensures in
    let closed : HasNoVariable c.sides.result.0.now =
    closed_join c.args.ab.now.conclusion c.args.bc.now.conclusion c.sides.result.0.now
    c.sides.result.1.now c.requires first in
    at_last_side c.sides.result.0.now c.sides-2.result.1.now c.in_ok-context.context
    c.in_ok-joined.joined context c.in_ok-joined.ensures closed
