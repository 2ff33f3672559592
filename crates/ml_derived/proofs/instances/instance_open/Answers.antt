use Rattle.std.proofs.Common.{◌<◌, ◌≤◌, length, arith}
use Rattle.ml_derived.proofs.OpenSteps.{open_start, open_fact, open_next, open_end}
use Rattle.ml_derived.proofs.instances.instance_open.Goals as goal

pub loop-fact-init : goal.loop-fact-init
loop-fact-init c =
    open_start c.args.h.now c.args.sentence.now c.args.facts.now c.in_ok-present.present c.requires
    c.in_ok-present.ensures.conclusion c.in_ok-present.ensures.stays

pub open_at-requires : goal.open_at-requires
open_at-requires c =
    let lt : c.loop-fact.fact-index < length c.args.facts.now = omega arith in
    open_fact c.args.h.now c.args.sentence.now c.args.facts.now c.loop-fact.fact-index
    c.loop-fact.present c.fact-item.result c.loop-fact.invariant lt c.fact-item.is

pub loop-fact-preserved : goal.loop-fact-preserved
loop-fact-preserved c =
    let lt : c.loop-fact.fact-index < length c.args.facts.now = omega arith in
    open_next c.args.h.now c.args.sentence.now c.args.facts.now c.loop-fact.fact-index
    c.loop-fact.present c.fact-item.result c.in_ok-present-2.present c.loop-fact.invariant lt
    c.fact-item.is c.in_ok-present-2.ensures.conclusion c.in_ok-present-2.ensures.stays

pub returns-clause-conclusion : goal.returns-clause-conclusion
returns-clause-conclusion c =
    let le : length c.args.facts.now ≤ c.loop-fact.fact-index = omega arith in
    open_end c.args.h.now c.args.sentence.now c.args.facts.now c.loop-fact.fact-index
    c.loop-fact.present c.loop-fact.invariant le

pub returns-clause-stays : goal.returns-clause-stays
returns-clause-stays c = c.loop-fact.invariant.stays
