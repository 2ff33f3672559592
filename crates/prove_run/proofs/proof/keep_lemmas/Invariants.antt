use Rattle.std.proofs.Common.{◌≡◌, take}
use Rattle.prove_run.specs.AddedLemmas.{with_lemmas}
use Rattle.prove_run.proofs.proof.keep_lemmas.Given as goal

abbrev pub invariant-loop-thm : goal.invariant-loop-thm
invariant-loop-thm l = l.prover ≡ with_lemmas l.initial.prover (take l.thm-index l.thms)
