use Rattle.std.proofs.Common.{◌≡◌, ◌<◌, ◌∙◌, List, ap, length, arith}
use Rattle.std.proofs.lemmas.List.{take_all}
use Rattle.ml_kernel.specs.Theorems.{Theorem}
use Rattle.prove_run.specs.AddedLemmas.{with_lemmas}
use Rattle.prove_run.proofs.LemmaLaws.{may_be_lemma, no_lemmas, one_more_lemma}
use Rattle.prove_run.proofs.proof.keep_lemmas.Goals as goal

pub loop-thm-init : goal.loop-thm-init
loop-thm-init c = no_lemmas c.args.prover.now

pub add_lemma-requires : goal.add_lemma-requires
add_lemma-requires c =
    let low : c.loop-thm.thm-index < length c.args.thms.now =
    omega (arith, c.loop-thm-test.true, c.loop-thm.auto.thm-index-end) in
    may_be_lemma c.args.prover.now c.loop-thm.prover c.args.thms.now c.loop-thm.thm-index
    c.thm-item.result c.in_ok-lemma.lemma low c.thm-item.is c.in_ok-lemma.ensures
    c.loop-thm.invariant c.requires

pub loop-thm-preserved : goal.loop-thm-preserved
loop-thm-preserved c =
    let low : c.loop-thm.thm-index < length c.args.thms.now =
    omega (arith, c.loop-thm-test.true, c.loop-thm.auto.thm-index-end) in
    one_more_lemma c.args.prover.now c.loop-thm.prover c.add_lemma.new.self c.args.thms.now
    c.loop-thm.thm-index c.thm-item.result c.in_ok-lemma.lemma low c.thm-item.is
    c.in_ok-lemma.ensures c.loop-thm.invariant c.in_ok-add_lemma.ensures.ok

pub returns : goal.returns
returns c =
    c.loop-thm.invariant
    ∙ ap (λ (ts : List Theorem). with_lemmas c.args.prover.now ts)
    (take_all c.loop-thm.thm-index c.args.thms.now c.loop-thm-test.false)
