-- The proof of a path, whose file is still open. Only clauses of private functions cite it.
use Rattle.std.specs.Prelude.{◌≡◌, ◌⊎◌, ℕ, false, List, [], Option}
use Rattle.desk_io.specs.Told.{Told}
use Rattle.desk_io.specs.Changes.{Writes}
use Rattle.term_core.specs.Terms.{Tree}
use Rattle.term_core.specs.Patterns.{Pattern, ground_pattern}
use Rattle.rule_core.specs.ProgramView.{theory_of}
use Rattle.rule_core.specs.Records.{StepRecord}
use Rattle.rule_core.specs.Theories.{RewriteTheory}
use Rattle.rule_core.specs.declared.rules.Program.{Program}
use Rattle.hint_file.specs.declared.reading.HintPath.{HintPath}
use Rattle.mm_justify.specs.Justifying.{IsProofOfRun}
use Rattle.prove_run.specs.RunProof.{RunProof, reached}
use Rattle.prove_run.specs.Proving.{FitsProof}
use Rattle.path_proof.specs.PathProofs.{IsFrontOfPath}
use Rattle.path_proof.specs.RecordedPaths.{first_of, IsOnPath, last_of, RecordsSteps, steps_of}

-- the created file grew by a proof of the path, from the initial term to the last configuration
abbrev pub WritesPath : Option Told → Option Told → RewriteTheory → Pattern → Tree
    → List StepRecord → Type 0
WritesPath old new theory start first steps =
    (text : List ℕ) × Writes old new text
    × IsProofOfRun text theory start (ground_pattern (last_of first steps))

-- the created file grew by the front of a proof of the path, or by nothing
abbrev pub WritesFrontOfPath : Option Told → Option Told → RewriteTheory → Pattern → Tree
    → List StepRecord → Type 0
WritesFrontOfPath old new theory start first steps =
    (bytes : List ℕ) × Writes old new bytes
    × ((bytes ≡ []) ⊎ IsFrontOfPath theory start first steps bytes)

-- The created file grew by a text that fits the proof, which has not failed. The proof has reached
-- this configuration of the path, from which these steps are left.
pub record IsProvedTo (old new : Option Told) (program : Program) (path : HintPath)
    (proof : RunProof) (here : Tree) (left : List StepRecord) : Type 0 where
  pub same_program : proof.program ≡ program
  pub starts : proof.start ≡ path.start
  pub is_reached : reached proof ≡ ground_pattern here
  pub sound : proof.failed ≡ false
  pub text : (text : List ℕ) × Writes old new text × FitsProof proof text
  pub recorded : RecordsSteps (theory_of program) here left
  pub same_last : last_of here left ≡ last_of (first_of path) (steps_of path)
  pub further : (t : Tree) → IsOnPath here left t → IsOnPath (first_of path) (steps_of path) t
