-- How contracts see a `Proof` of the code, and what is true of it.
use Rattle.std.specs.Prelude.{Bool, true, false, Contains}
use Rattle.term_core.specs.RulePatterns.{plain_pattern}
use Rattle.rule_core.specs.BoundVariables.{HasBoundVariables}
use Rattle.rule_core.specs.ProgramView.{theory_of}
use Rattle.rule_core.specs.WellSorted.{IsWellSorted}
use Rattle.proof_writer.specs.PlainNames.{HasPlainNames}
use Rattle.proof_writer.specs.Writing.{HasWritten}
use Rattle.prove_run.specs.RunProof.{RunProof, configuration}
use Rattle.prove_run.specs.Reaching.{HasReached}
use Rattle.prove_run.specs.ReachLemma.{IsReachLemma}
use Rattle.prove_run.specs.declared.proof.Proof.TheInside.{Inside}

abbrev pub run_proof : Inside → RunProof
run_proof p = record {
  program = p.prover.program;
  start = p.start.now;
  made = p.reached;
  names = p.prover.names;
  axioms = p.prover.axioms;
  lemmas = p.prover.lemmas;
  kept = p.writer.renderer;
  steps = p.steps;
  facts = p.writer.facts;
  statements = p.writer.statements;
  bytes = p.bytes;
  failed = p.failed;
}

-- The program is well sorted, its rules and equations bind their variables, and its names can be
-- written in a text. What is written is of the context. The last theorem says how far the run has
-- come. The lemma by which it goes further is in the context.
pub record IsProof (p : Inside) : Type 0 where
  pub well_sorted : IsWellSorted (theory_of p.prover.program)
  pub bound : HasBoundVariables p.prover.program
  pub names : HasPlainNames p.prover.program.sig
  pub written : HasWritten p.writer p.prover
  pub has_reached : HasReached p.prover p.writer p.last (plain_pattern p.start.now)
      (configuration (plain_pattern p.start.now) p.reached)
  pub reach : IsReachLemma p.reach
  pub listed : Contains p.prover.lemmas p.reach

-- the same, unless the proof has failed
abbrev pub IsProofUnless : Bool → Inside → Type 0
IsProofUnless true p = Unit {0}
IsProofUnless false p = IsProof p

abbrev pub IsProofOrFailed : Inside → Type 0
IsProofOrFailed p = IsProofUnless p.failed p
