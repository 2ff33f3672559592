use Rattle.std.proofs.Common.{◌<◌, ◌≤◌, length, arith}
use Rattle.ml_derived.proofs.InstanceSteps.{at_start, at_fact, after_fact, at_end}
use Rattle.ml_derived.proofs.instances.instance.Goals as goal

pub loop-fact-init : goal.loop-fact-init
loop-fact-init c = at_start c.args.sentence c.args.facts.now c.requires

pub instance_at-requires : goal.instance_at-requires
instance_at-requires c =
    let lt : c.loop-fact.fact-index < length c.args.facts.now = omega arith in
    at_fact c.args.sentence c.args.facts.now c.loop-fact.fact-index c.loop-fact.sentence
    c.fact-item.result c.loop-fact.invariant lt c.fact-item.is

pub loop-fact-preserved : goal.loop-fact-preserved
loop-fact-preserved c =
    let lt : c.loop-fact.fact-index < length c.args.facts.now = omega arith in
    after_fact c.args.sentence c.args.facts.now c.loop-fact.fact-index c.loop-fact.sentence
    c.fact-item.result c.in_ok-sentence.sentence c.loop-fact.invariant lt c.fact-item.is
    c.in_ok-sentence.ensures.conclusion c.in_ok-sentence.ensures.stays

pub returns-clause-conclusion : goal.returns-clause-conclusion
returns-clause-conclusion c =
    let le : length c.args.facts.now ≤ c.loop-fact.fact-index = omega arith in
    at_end c.args.sentence c.args.facts.now c.loop-fact.fact-index c.loop-fact.sentence
    c.loop-fact.invariant le

pub returns-clause-stays : goal.returns-clause-stays
returns-clause-stays c = c.loop-fact.invariant.stays
