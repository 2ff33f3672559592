-- The counts that a proof has at its end.
use Rattle.std.specs.Prelude.{◌≡◌, ℕ, List, length}
use Rattle.mm_justify.specs.Counting.{HasCounts, capped}
use Rattle.prove_run.specs.RunProof.{RunProof}
use Rattle.prove_run.specs.declared.summaries.Summary.{Summary}

-- the counts of a proof
abbrev pub summary_of : RunProof → Summary
summary_of proof = record {
  steps = proof.steps;
  facts = proof.facts;
  statements = proof.statements;
  bytes = proof.bytes;
}

-- these are the numbers of facts, statements and bytes of a database
pub record IsSummaryOf (bytes : List ℕ) (summary : Summary) : Type 0 where
  pub counts : HasCounts summary.facts summary.statements bytes
  pub bytes_are : summary.bytes ≡ capped (length bytes)
