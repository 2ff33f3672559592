-- Which texts fit a proof of a run, how a proof begins, and what a step does to it.
use Rattle.std.specs.Prelude.{◌≡◌, ℕ, ◌+◌, false, List, ◌++◌, length, Option, Some, option_map}
use Rattle.term_core.specs.Terms.{Tree}
use Rattle.term_core.specs.Patterns.{ground_pattern}
use Rattle.term_core.specs.declared.rule_patterns.RulePat.{RulePat}
use Rattle.term_core.specs.RulePatterns.{plain_pattern}
use Rattle.rule_core.specs.ProgramView.{theory_of}
use Rattle.rule_core.specs.Records.{StepRecord, result_of}
use Rattle.rule_core.specs.RecordView.{plain_record}
use Rattle.rule_core.specs.declared.records.EvalRecord.{EvalRecord}
use Rattle.rule_core.specs.declared.rules.Program.{Program}
use Rattle.mm_claims.specs.Keeping.{Fits}
use Rattle.mm_justify.specs.Justifying.{HasOnlyAxiomsOf, IsProofOfRun}
use Rattle.mm_justify.specs.Counting.{HasCounts, capped}
use Rattle.prove_step.specs.Steps.{IsStepFrom}
use Rattle.prove_run.specs.RunProof.{RunProof, reached}

-- The text fits the proof. It has exactly what the proof keeps of it. It has only axioms of the
-- program. It is a proof of the run from the start to the present configuration. The proof has its
-- counts.
pub record FitsProof (proof : RunProof) (text : List ℕ) : Type 0 where
  pub fits : Fits proof.names proof.kept text
  pub only : HasOnlyAxiomsOf (theory_of proof.program) text
  pub proves : IsProofOfRun text (theory_of proof.program) (plain_pattern proof.start)
      (reached proof)
  pub counts : HasCounts proof.facts proof.statements text
  pub bytes_are : proof.bytes ≡ capped (length text)

-- the value in a record, if there is a record
abbrev pub value_told : Option EvalRecord → Option Tree
value_told o = option_map (λ (r : EvalRecord). result_of (plain_record r)) o

-- The proof says that a start reaches its value. If there is no value, the start reaches itself in
-- no step. The text fits the proof, which has not failed.
pub record Begins (program : Program) (start : RulePat) (value : Option Tree) (proof : RunProof)
    (text : List ℕ) : Type 0 where
  pub same_program : proof.program ≡ program
  pub starts : proof.start ≡ start
  pub made : proof.made ≡ value
  pub none_made : proof.steps ≡ 0
  pub sound : proof.failed ≡ false
  pub fits : FitsProof proof text

-- The present configuration is a term, and the record is about a step from it.
pub record CanStep (proof : RunProof) (step : StepRecord) : Type 0 where
  pub term : Tree
  pub at : reached proof ≡ ground_pattern term
  pub follows : IsStepFrom (theory_of proof.program) term step

-- The new proof has made one step more, to the term u. Each text that fits the old proof, followed
-- by these bytes, fits the new proof, which has not failed.
pub record StepsTo (old new : RunProof) (u : Tree) (added : List ℕ) : Type 0 where
  pub same_program : new.program ≡ old.program
  pub same_start : new.start ≡ old.start
  pub made : new.made ≡ Some u
  pub one_made : new.steps ≡ capped (old.steps + 1)
  pub sound : new.failed ≡ false
  pub fits : (text : List ℕ) → FitsProof old text → FitsProof new (text ++ added)
