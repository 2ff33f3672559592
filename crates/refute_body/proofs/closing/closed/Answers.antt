use Rattle.std.proofs.Common.{◌≡◌, length, sym, ◌∙◌, arith}
use Rattle.ml_pat.specs.Patterns.{top, bot, imp}
use Rattle.ml_derived.proofs.StayingLaws.{if_ok}
use Rattle.refute_body.specs.Implications.{for_some_of}
use Rattle.refute_body.proofs.Closings.{none_closed, can_close, next_closed, all_closed}
use Rattle.refute_body.proofs.Shapes.{imp_left, imp_right}
use Rattle.refute_body.proofs.closing.closed.Goals.{After-conclusion}
use Rattle.refute_body.proofs.closing.closed.Goals as goal

pub loop-init : goal.loop-init
loop-init c = none_closed c.args.none

pub one_closed-requires : goal.one_closed-requires
one_closed-requires c =
    can_close c.args.none c.loop.present c.loop.counter c.requires.0 c.requires.1 c.requires.2
    (omega (arith, c.loop-test.true, c.requires.3)) c.loop.invariant

pub loop-preserved : goal.loop-preserved
loop-preserved c =
    next_closed c.args.none c.loop.present c.in_ok-present.present c.loop.counter
    c.loop.invariant c.in_ok-present.ensures.conclusion c.in_ok-present.ensures.stays

-- everything is closed
closed : (c : After-conclusion)
    → c.conclusion.result.now ≡ imp top (imp (for_some_of c.requires.0 c.requires.1) bot)
closed c =
    let all : c.loop.counter ≡ length c.requires.0 =
    omega (arith, c.loop-test.false, c.loop.auto.counter-end, c.requires.3) in
    c.conclusion.ensures
    ∙ all_closed c.args.none c.loop.present c.loop.counter c.requires.0 c.requires.1 c.requires.2
    all c.loop.invariant

pub sides-requires : goal.sides-requires
sides-requires c = (top, imp (for_some_of c.requires.0 c.requires.1) bot, closed c)

pub mp-requires-clause-a : goal.mp-requires-clause-a
mp-requires-clause-a c =
    c.in_ok-top.ensures.conclusion
    ∙ imp_left top (imp (for_some_of c.requires.0 c.requires.1) bot) c.sides.result.0.now
    c.sides.result.1.now
    (sym (closed (goal.at.mp-requires-clause-a c).After-conclusion) ∙ c.sides.ensures)

pub returns-clause-conclusion : goal.returns-clause-conclusion
returns-clause-conclusion c =
    if_ok c.mp.result
    (λ t says ps e begins many.
    let all : c.loop.counter ≡ length ps =
    omega (arith, c.loop-test.false, c.loop.auto.counter-end, many) in
    says
    ∙ imp_right c.sides.result.0.now c.sides.result.1.now top (imp (for_some_of ps e) bot)
    (sym c.sides.ensures ∙ c.conclusion.ensures
    ∙ all_closed c.args.none c.loop.present c.loop.counter ps e begins all c.loop.invariant))
    c.mp.ensures.conclusion

pub returns-clause-stays : goal.returns-clause-stays
returns-clause-stays c =
    if_ok c.mp.result
    (λ t stays s hp ht.
    stays s tt (c.in_ok-top.ensures.stays s tt tt, (c.loop.invariant.1 s hp ht, tt)))
    c.mp.ensures.stays
