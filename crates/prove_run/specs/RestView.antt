-- How contracts see a `Rest` of the code: as the proof that was taken apart.
use Rattle.prove_run.specs.RunProof.{RunProof}
use Rattle.prove_run.specs.ProofView.{run_proof, IsProofOrFailed}
use Rattle.prove_run.specs.declared.proof.Proof.TheInside.{Inside as Whole}
use Rattle.prove_run.specs.declared.proof.Rest.TheInside.{Inside}

-- the fields of that proof
abbrev pub whole_of : Inside → Whole
whole_of rest = record {
  prover = rest.was.value;
  writer = rest.writer;
  start = rest.start;
  reached = rest.reached;
  last = rest.last;
  reach = rest.reach;
  steps = rest.steps;
  bytes = rest.bytes;
  failed = rest.failed;
}

abbrev pub proof_of_rest : Inside → RunProof
proof_of_rest rest = run_proof (whole_of rest)

abbrev pub IsRestOrFailed : Inside → Type 0
IsRestOrFailed rest = IsProofOrFailed (whole_of rest)
