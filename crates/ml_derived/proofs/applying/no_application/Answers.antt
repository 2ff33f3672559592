use Rattle.std.proofs.Common.{◌<◌, ◌≤◌, length, arith}
use Rattle.ml_derived.proofs.ApplyingLaws.{carried_at_start, carried_further, carried_at_end}
use Rattle.ml_derived.proofs.applying.no_application.Goals as goal

pub loop-argument-init : goal.loop-argument-init
loop-argument-init c =
    carried_at_start c.args.r.now c.args.f.now c.in_ok-at.at c.args.arguments.now c.args.a
    c.requires.a c.in_ok-at.ensures

pub loop-argument-preserved : goal.loop-argument-preserved
loop-argument-preserved c =
    let lt : c.loop-argument.argument-index < length c.args.arguments.now = omega arith in
    carried_further c.args.r.now c.args.f.now c.loop-argument.at c.in_ok-at-2.at
    c.args.arguments.now c.args.a c.loop-argument.argument-index c.argument-item.result
    c.loop-argument.present c.in_ok-present.present c.loop-argument.invariant lt
    c.argument-item.is c.in_ok-present.ensures.conclusion c.in_ok-at-2.ensures
    c.in_ok-present.ensures.stays

pub returns-clause-conclusion : goal.returns-clause-conclusion
returns-clause-conclusion c =
    let le : length c.args.arguments.now ≤ c.loop-argument.argument-index = omega arith in
    carried_at_end c.args.r.now c.args.f.now c.loop-argument.at c.args.arguments.now c.args.a
    c.loop-argument.argument-index c.loop-argument.present c.loop-argument.invariant le

pub returns-clause-stays : goal.returns-clause-stays
returns-clause-stays c = c.loop-argument.invariant.stays
