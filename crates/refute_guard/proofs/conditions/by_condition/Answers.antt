use Rattle.std.proofs.Common.{◌≡◌, ◌+◌, Some, slice_get, sym, subst}
use Rattle.ml_pat.specs.Judgements.{IsFresh}
use Rattle.ml_kernel.specs.Theorems.{Theorem}
use Rattle.term_core.specs.RulePatterns.{sort_numbers}
use Rattle.prove_term.specs.Contexts.{Context, HasGrown}
use Rattle.prove_term.proofs.ContextLaws.{grown_none, grown_twice}
use Rattle.refute_guard.specs.Bodies.{variables_of}
use Rattle.guard_body.proofs.FoundLists.{item_there}
use Rattle.refute_guard.proofs.GuardConditions.{IsSofar, IsSofarFrom, argument_at, body_denied}
use Rattle.refute_guard.proofs.GuardConditions.{can_fill, few_bound, matches_at}
use Rattle.refute_guard.proofs.GuardConditions.{sofar_begins, sofar_denied, sofar_fills}
use Rattle.refute_guard.proofs.GuardConditions.{sofar_skips}
use Rattle.refute_guard.proofs.GuardParts.{guarded_grown}
use Rattle.refute_body.proofs.Shapes.{if_ok_two}
use Rattle.refute_guard.proofs.conditions.by_condition.Goals as goal

pub loop-place-init : goal.loop-place-init
loop-place-init c = record {
  grown = grown_none c.args.cx.now;
  sofar =
      sofar_begins c.args.cx.now c.args.guard.now c.args.denial.now c.in_ok-present.present
      c.in_ok-present.ensures.conclusion c.in_ok-present.ensures.stays;
}

pub conclusion-requires : goal.conclusion-requires
conclusion-requires c =
    let now : IsSofar c.loop-place.cx c.args.guard.now c.requires.guard.2.q c.requires.guard.2.sort
    c.requires.guard.2.theta c.loop-place.place c.loop-place.present =
    c.loop-place.invariant.sofar c.requires.guard.0 c.requires.guard.1 c.requires.guard.2 in
    (c.args.guard.now.given.hypothesis, c.args.guard.now.body, now.holds.image, now.holds.says)

pub concerns-requires : goal.concerns-requires
concerns-requires c =
    few_bound c.args.cx.now c.requires.guard.0 c.args.guard.now c.args.found.now
    c.index-found-place.result c.loop-place.place c.requires.guard.1 c.requires.together
    (item_there c.args.found.now c.loop-place.place c.index-found-place.result
    c.loop-place-test.true c.index-found-place.is)

pub inverted-requires-clause-guard : goal.inverted-requires-clause-guard
inverted-requires-clause-guard c = (
  c.requires.guard.0,
  guarded_grown c.args.cx.now c.loop-place.cx c.requires.guard.0 c.args.guard.now
      c.loop-place.invariant.grown c.requires.guard.1,
)

pub inverted-requires-clause-matches : goal.inverted-requires-clause-matches
inverted-requires-clause-matches c =
    matches_at c.args.cx.now c.loop-place.cx c.args.guard.now c.args.found.now
    c.index-found-place-then-concerns.result c.loop-place.place c.loop-place.invariant.grown
    c.requires.together
    (item_there c.args.found.now c.loop-place.place c.index-found-place-then-concerns.result
    c.loop-place-test.true c.index-found-place-then-concerns.is)

pub filled-requires : goal.filled-requires
filled-requires c =
    let there : slice_get c.args.found.now c.loop-place.place
    ≡ Some c.index-found-place-then-concerns.result =
    item_there c.args.found.now c.loop-place.place c.index-found-place-then-concerns.result
    c.loop-place-test.true c.index-found-place-then-concerns.is in
    let one = argument_at c.args.cx.now.program.sig (sort_numbers c.args.guard.now.sorts.items)
    c.args.guard.now.arguments.items c.args.found.now c.loop-place.place c.requires.together
    c.loop-place-test.true in
    let now : IsSofar c.loop-place.cx c.args.guard.now c.requires.guard.2.q c.requires.guard.2.sort
    c.requires.guard.2.theta c.loop-place.place c.loop-place.present =
    c.loop-place.invariant.sofar c.requires.guard.0 c.requires.guard.1 c.requires.guard.2 in (
      c.inverted.new.cx,
      c.args.guard.now.given.hypothesis,
      c.args.guard.now.body,
      variables_of one.0,
      c.index-found-place-then-concerns.result,
      now.r,
      c.requires.guard.2.sort,
      can_fill c.args.cx.now c.loop-place.cx c.inverted.new.cx c.args.guard.now
          c.requires.guard.2.q c.requires.guard.2.sort c.requires.guard.2.theta c.loop-place.present
          c.in_ok-equations.equations c.loop-place.place one.0 c.args.found.now
          c.index-found-place-then-concerns.result c.inverted.ensures.grown c.requires.together
          there one.1 now (c.in_ok-equations.ensures.says one.0 one.1),
    )

pub loop-place-preserved : goal.loop-place-preserved
loop-place-preserved c =
    elim c.if-concerns.branch [
      | goal.then-concerns+in_ok-equations+in_ok-present-2 w ↦ record {
        grown =
            subst (HasGrown c.args.cx.now) (sym w.cx-is)
            (grown_twice c.args.cx.now c.loop-place.cx w.inverted.new.cx
            c.loop-place.invariant.grown w.inverted.ensures.grown);
        sofar =
            subst (λ (x : Context). IsSofarFrom c.args.cx.now x c.args.guard.now c.args.denial.now
            (c.loop-place.place + 1) c.if-concerns.present) (sym w.cx-is)
            (subst (λ (t : Theorem). IsSofarFrom c.args.cx.now w.inverted.new.cx c.args.guard.now
            c.args.denial.now (c.loop-place.place + 1) t) (sym w.present-is)
            (sofar_fills c.args.cx.now c.loop-place.cx w.inverted.new.cx c.args.guard.now
            c.args.denial.now c.loop-place.present w.in_ok-equations.equations
            w.in_ok-present-2.present c.loop-place.place c.args.found.now
            w.index-found-place-then-concerns.result w.inverted.ensures.grown c.requires.together
            (item_there c.args.found.now c.loop-place.place
            w.index-found-place-then-concerns.result c.loop-place-test.true
            w.index-found-place-then-concerns.is) c.loop-place.invariant.sofar
            w.in_ok-equations.ensures.says w.in_ok-present-2.ensures));
      }
      | goal.else-concerns w ↦ record {
        grown = subst (HasGrown c.args.cx.now) (sym w.cx-is) c.loop-place.invariant.grown;
        sofar =
            subst (λ (x : Context). IsSofarFrom c.args.cx.now x c.args.guard.now c.args.denial.now
            (c.loop-place.place + 1) c.if-concerns.present) (sym w.cx-is)
            (subst (λ (t : Theorem). IsSofarFrom c.args.cx.now c.loop-place.cx c.args.guard.now
            c.args.denial.now (c.loop-place.place + 1) t) (sym w.present-is)
            (sofar_skips c.args.cx.now c.loop-place.cx c.args.guard.now c.args.denial.now
            c.loop-place.present c.loop-place.place c.args.found.now c.index-found-place.result
            c.requires.together
            (item_there c.args.found.now c.loop-place.place c.index-found-place.result
            c.loop-place-test.true c.index-found-place.is)
            (λ g b p says y u bound. subst (IsFresh y) (c.conclusion.ensures g b p says)
            (c.concerns.ensures w.if-concerns.false y u bound)) c.loop-place.invariant.sofar));
      }
    ]

pub denied_by-requires : goal.denied_by-requires
denied_by-requires c =
    let denied = sofar_denied c.args.cx.now c.loop-place.cx c.requires.guard.0 c.args.guard.now
    c.args.denial.now c.loop-place.present c.loop-place.place c.args.found.now
    c.loop-place.invariant.grown c.requires.guard.1 c.requires.guard.2 c.requires.together
    c.loop-place-test.false c.loop-place.invariant.sofar in
    (c.args.guard.now.given.hypothesis, c.args.guard.now.body, denied.0, denied.1, denied.2)

pub returns-clause-says : goal.returns-clause-says
returns-clause-says c =
    if_ok_two c.denied_by.result
    (λ made says stays. body_denied c.args.cx.now c.loop-place.cx c.requires.guard.0
    c.args.guard.now c.args.denial.now c.loop-place.present made c.loop-place.place
    c.args.found.now c.loop-place.invariant.grown c.requires.guard.1 c.requires.guard.2
    c.requires.together c.loop-place-test.false c.loop-place.invariant.sofar says stays)
    c.denied_by.ensures.conclusion c.denied_by.ensures.stays
