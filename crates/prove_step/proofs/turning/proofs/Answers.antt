use Rattle.std.proofs.Common.{rules, ◌≡◌, ◌<◌, ◌+◌, List, [], ◌∷◌, ◌++◌, length, take, sym, subst}
use Rattle.std.proofs.Common.{arith}
use Rattle.std.specs.List.{AllZip}
use Rattle.ml_kernel.specs.Theorems.{Theorem}
use Rattle.prove_step.specs.Turning.{IsProofFor}
use Rattle.prove_step.proofs.TurningLaws.{one_more_proof}
use Rattle.prove_step.proofs.turning.proofs.Goals as goal

pub loop-hypothesis-init : goal.loop-hypothesis-init
loop-hypothesis-init c = rw c.in_ok-proofs.ensures.items tt

pub loop-hypothesis-preserved : goal.loop-hypothesis-preserved
loop-hypothesis-preserved c =
    let t : Theorem = c.in_ok-share.field-0 in
    let items : c.push.new.self.items ≡ c.loop-hypothesis.proofs.items ++ t ∷ [] = search rules in
    let low : c.loop-hypothesis.hypothesis-index < length c.args.hypotheses.now =
    omega (arith, c.loop-hypothesis-test.true, c.loop-hypothesis.auto.hypothesis-index-end) in
    subst (λ (ts : List Theorem). AllZip (IsProofFor c.args.e.now c.args.step.now)
    (take (c.loop-hypothesis.hypothesis-index + 1) c.args.hypotheses.now) ts) (sym items)
    (one_more_proof c.args.e.now c.args.step.now c.args.hypotheses.now
    c.loop-hypothesis.hypothesis-index c.hypothesis-item.result c.loop-hypothesis.proofs.items t
    low c.hypothesis-item.is
    c.loop-hypothesis.invariant (subst
    (IsProofFor c.args.e.now c.args.step.now c.hypothesis-item.result)
    (sym c.in_ok-share.ensures) c.proof_for-proof.ensures))
