use Rattle.std.proofs.Common.{◌≡◌, ◌<◌, ◌+◌, ◌-◌, ℕ, length, drop, sym, ◌∙◌, ap, subst, arith}
use Rattle.ml_pat.specs.Patterns.{Pattern, bot, imp}
use Rattle.ml_derived.specs.Scopes.{IsOver}
use Rattle.prove_open.proofs.ScopeLaws.{stays_no_hypotheses}
use Rattle.refute_guard.specs.Guards.{DenyGuards}
use Rattle.refute_guard.specs.Implications.{IsDenial}
use Rattle.refute_guard.proofs.NoGuards.{dropped_denied, item_denial, more_denied}
use Rattle.refute_guard.proofs.NoGuards.{none_denied, present_denial, said, DeniesAll}
use Rattle.refute_body.proofs.Shapes.{if_ok_two, imp_right}
use Rattle.refute_guard.proofs.none.no_guard.Goals.{After-conclusion}
use Rattle.refute_guard.proofs.none.no_guard.Goals as goal

pub loop-i-init : goal.loop-i-init
loop-i-init c =
    none_denied c.args.denied.now c.in_ok-present.present
    (c.in_ok-present.ensures.conclusion
    ∙ ap (λ (p : Pattern). imp p p) c.in_ok-bot.ensures)
    (λ s hp ht. c.in_ok-present.ensures.stays s
    (subst (IsOver s) (sym c.in_ok-bot.ensures) tt, tt) tt)

pub loop-i-preserved : goal.loop-i-preserved
loop-i-preserved c =
    let low : c.loop-i.i - 1 < length c.args.denied.now =
    omega (arith, c.loop-i-test.true, c.loop-i.auto.i) in
    let next : c.loop-i.i ≡ c.loop-i.i - 1 + 1 = omega (arith, c.loop-i-test.true) in
    more_denied c.args.denied.now c.loop-i.i (c.loop-i.i - 1) c.index-denied-i.result
    c.loop-i.present c.in_ok-present-2.present next low c.index-denied-i.is c.loop-i.invariant
    c.in_ok-present-2.ensures.conclusion c.in_ok-present-2.ensures.stays

pub one_more-requires-clause-one : goal.one_more-requires-clause-one
one_more-requires-clause-one c =
    let low : c.loop-i.i - 1 < length c.args.denied.now =
    omega (arith, c.loop-i-test.true, c.loop-i.auto.i) in
    item_denial c.args.denied.now (c.loop-i.i - 1) c.index-denied-i.result low
    c.index-denied-i.is (record {
      cx = c.requires.0;
      equations = c.requires.1;
      k = c.requires.2;
      gs = c.requires.3;
      ts = c.requires.4;
      deny = c.requires.5;
    })

pub one_more-requires-clause-others : goal.one_more-requires-clause-others
one_more-requires-clause-others c =
    present_denial (drop c.loop-i.i c.args.denied.now) c.loop-i.present
    (dropped_denied c.args.denied.now c.loop-i.i (record {
      cx = c.requires.0;
      equations = c.requires.1;
      k = c.requires.2;
      gs = c.requires.3;
      ts = c.requires.4;
      deny = c.requires.5;
    })) c.loop-i.invariant

-- everything is denied
denial : (c : After-conclusion) → IsDenial c.loop-i.present
denial c =
    present_denial (drop c.loop-i.i c.args.denied.now) c.loop-i.present
    (dropped_denied c.args.denied.now c.loop-i.i (record {
      cx = c.requires.0;
      equations = c.requires.1;
      k = c.requires.2;
      gs = c.requires.3;
      ts = c.requires.4;
      deny = c.requires.5;
    })) c.loop-i.invariant

pub sides-requires : goal.sides-requires
sides-requires c =
    let d : IsDenial c.loop-i.present = denial c in (d.0, bot, c.conclusion.ensures ∙ d.1)

pub to_not-requires : goal.to_not-requires
to_not-requires c =
    let d : IsDenial c.loop-i.present = denial (goal.at.to_not-requires c).After-conclusion in
    let nothing : c.sides.result.1.now ≡ bot =
    imp_right c.sides.result.0.now c.sides.result.1.now d.0 bot
    (sym c.sides.ensures ∙ c.conclusion.ensures ∙ d.1) in
    sym c.conclusion.ensures ∙ c.sides.ensures ∙ ap (imp c.sides.result.0.now) nothing

pub returns : goal.returns
returns c =
    let none : 0 ≡ c.loop-i.i = omega (arith, c.loop-i-test.false) in
    if_ok_two c.to_not.result
    (λ t says stays cx equations k gs ts deny.
    let all : DeniesAll cx equations k gs ts c.loop-i.present =
    c.loop-i.invariant cx equations k gs ts
    (subst (λ (n : ℕ). DenyGuards cx equations k gs ts (drop n c.args.denied.now)) none deny) in
    said cx equations k gs ts c.loop-i.present t c.sides.result.0.now c.sides.result.1.now all
    (sym c.conclusion.ensures ∙ c.sides.ensures) says stays
    (stays_no_hypotheses cx t (λ s has. stays s tt (all.stays s has, tt))))
    c.to_not.ensures.conclusion c.to_not.ensures.stays
