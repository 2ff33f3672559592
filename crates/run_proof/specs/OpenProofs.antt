-- A run and its proof, whose file is still open.
use Rattle.std.specs.Prelude.{◌≡◌, ℕ, false, ◌⊎◌, List, [], length, Option}
use Rattle.desk_io.specs.Told.{Told}
use Rattle.desk_io.specs.Changes.{Writes}
use Rattle.term_core.specs.Patterns.{Pattern}
use Rattle.rule_core.specs.BoundVariables.{HasBoundVariables}
use Rattle.rule_core.specs.ProgramView.{theory_of}
use Rattle.rule_core.specs.Runs.{Run, kept_by}
use Rattle.run_proof.specs.ClosedProofs.{steps_of}
use Rattle.run_proof.specs.ShownRules.{Shows}
use Rattle.rule_core.specs.Theories.{RewriteTheory}
use Rattle.rule_core.specs.WellSorted.{IsStart}
use Rattle.rule_core.specs.declared.rules.Program.{Program}
use Rattle.mm_justify.specs.Justifying.{IsProofOfRun, IsFrontOfRun}
use Rattle.mm_justify.specs.Counting.{HasCounts, capped}
use Rattle.proof_writer.specs.PlainNames.{HasPlainNames}
use Rattle.prove_run.specs.RunProof.{RunProof}

-- the run of this initial term by this program can be proved
pub record CanProveRun (program : Program) (start : Pattern) : Type 0 where
  pub bound : HasBoundVariables program
  pub plain : HasPlainNames program.sig
  pub is_start : IsStart (theory_of program) start

-- the text is a proof of the run, whose counts and steps the proof has, and shows so many rules
-- unmet; the proof has not failed
pub record IsWholeProof (theory : RewriteTheory) (start : Pattern) (run : Run) (shown : Option ℕ)
    (proof : RunProof) (text : List ℕ) : Type 0 where
  pub proves : IsProofOfRun text theory start (kept_by start run)
  pub counts : HasCounts proof.facts proof.statements text
  pub bytes_are : proof.bytes ≡ capped (length text)
  pub steps_are : proof.steps ≡ steps_of run
  pub shows : Shows text theory run shown
  pub sound : proof.failed ≡ false

-- the created file grew by such a text
abbrev pub WritesProof : Option Told → Option Told → RewriteTheory → Pattern → Run → Option ℕ
    → RunProof → Type 0
WritesProof old new theory start run shown proof =
    (text : List ℕ) × Writes old new text × IsWholeProof theory start run shown proof text

-- the created file grew by the front of a proof of the run, or by nothing
abbrev pub WritesFrontOfRun : Option Told → Option Told → RewriteTheory → ℕ → ℕ → Pattern → Type 0
WritesFrontOfRun old new theory limit calls start =
    (bytes : List ℕ) × Writes old new bytes
    × ((bytes ≡ []) ⊎ IsFrontOfRun theory limit calls start bytes)
