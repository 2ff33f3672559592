use Rattle.std.proofs.Common.{rules, ◌≡◌, ◌<◌, ◌+◌, List, [], ◌∷◌, ◌++◌, length, take, sym, subst}
use Rattle.std.proofs.Common.{arith}
use Rattle.std.specs.List.{AllZip}
use Rattle.ml_kernel.specs.Theorems.{Theorem}
use Rattle.prove_term.specs.EqualityLemmas.{ProvesEither}
use Rattle.prove_term.proofs.EqualityLaws.{kind_at, one_more_proof}
use Rattle.prove_term.proofs.equalities.proofs.Goals as goal

pub loop-hypothesis-init : goal.loop-hypothesis-init
loop-hypothesis-init c = rw c.in_ok-proofs.ensures.items tt

pub proof_of-proof-requires : goal.proof_of-proof-requires
proof_of-proof-requires c =
    let low : c.loop-hypothesis.hypothesis-index < length c.args.hypotheses.now =
    omega (arith, c.loop-hypothesis-test.true, c.loop-hypothesis.auto.hypothesis-index-end) in
    kind_at c.args.which c.args.hypotheses.now c.loop-hypothesis.hypothesis-index
    c.hypothesis-item.result c.requires low c.hypothesis-item.is

pub loop-hypothesis-preserved : goal.loop-hypothesis-preserved
loop-hypothesis-preserved c =
    let t : Theorem = c.in_ok-share.field-0 in
    let items : c.push.new.self.items ≡ c.loop-hypothesis.proofs.items ++ t ∷ [] = search rules in
    let low : c.loop-hypothesis.hypothesis-index < length c.args.hypotheses.now =
    omega (arith, c.loop-hypothesis-test.true, c.loop-hypothesis.auto.hypothesis-index-end) in
    subst (λ (ts : List Theorem). AllZip (ProvesEither c.args.first.now c.args.second.now)
    (take (c.loop-hypothesis.hypothesis-index + 1) c.args.hypotheses.now) ts) (sym items)
    (one_more_proof c.args.first.now c.args.second.now c.args.hypotheses.now
    c.loop-hypothesis.hypothesis-index c.hypothesis-item.result c.loop-hypothesis.proofs.items t
    low c.hypothesis-item.is
    c.loop-hypothesis.invariant (subst
    (ProvesEither c.args.first.now c.args.second.now c.hypothesis-item.result)
    (sym c.in_ok-share.ensures) c.proof_of-proof.ensures))
