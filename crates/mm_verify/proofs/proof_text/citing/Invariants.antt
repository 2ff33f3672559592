use Rattle.std.specs.Prelude.{◌≡◌, map, take}
use Rattle.mm_verify.specs.Running.{citation_of, step_of}
use Rattle.mm_verify.specs.ProofSteps.{citing}
use Rattle.mm_verify.proofs.proof_text.citing.Given as goal

abbrev pub invariant-loop-citation : goal.invariant-loop-citation
invariant-loop-citation l =
    map step_of l.steps.items ≡ citing (map citation_of (take l.citation-index l.citations))
