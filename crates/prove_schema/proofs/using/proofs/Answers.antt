use Rattle.std.proofs.Common.{rules, ◌≡◌, ◌<◌, ◌+◌, List, [], ◌∷◌, ◌++◌, length, take, sym, subst}
use Rattle.std.proofs.Common.{arith}
use Rattle.ml_kernel.specs.Theorems.{Theorem}
use Rattle.prove_schema.specs.Giving.{AreGiven}
use Rattle.prove_schema.proofs.UsingLaws.{one_more_given, hypothesis_proved}
use Rattle.prove_schema.proofs.using.proofs.Goals as goal

pub proof-requires : goal.proof-requires
proof-requires c =
    let low : c.loop-hypothesis.hypothesis-index < length c.args.hypotheses.now =
    omega (arith, c.loop-hypothesis-test.true, c.loop-hypothesis.auto.hypothesis-index-end) in
    hypothesis_proved c.args.hypotheses.now c.args.facts.now c.args.others.now
    c.loop-hypothesis.hypothesis-index c.hypothesis-item.result c.requires low
    c.hypothesis-item.is

pub loop-hypothesis-preserved : goal.loop-hypothesis-preserved
loop-hypothesis-preserved c =
    let t : Theorem = c.in_ok-share.field-0 in
    let items : c.push.new.self.items ≡ c.loop-hypothesis.proofs.items ++ t ∷ [] = search rules in
    let low : c.loop-hypothesis.hypothesis-index < length c.args.hypotheses.now =
    omega (arith, c.loop-hypothesis-test.true, c.loop-hypothesis.auto.hypothesis-index-end) in
    subst (λ (ts : List Theorem). AreGiven
    (take (c.loop-hypothesis.hypothesis-index + 1) c.args.hypotheses.now) c.args.facts.now
    c.args.others.now ts) (sym items)
    (one_more_given c.args.facts.now c.args.others.now c.args.hypotheses.now
    c.loop-hypothesis.hypothesis-index c.hypothesis-item.result c.loop-hypothesis.proofs.items t
    c.proof.result.now
    low c.hypothesis-item.is c.loop-hypothesis.invariant c.proof.ensures c.in_ok-share.ensures)
