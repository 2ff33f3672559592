-- The proof of a path: what a call printed of it, and what the file of the proof holds.
use Rattle.std.specs.Prelude.{◌≡◌, ℕ, ◌⊎◌, List, [], ◌++◌, length, Option, Some, option_map, codes}
use Rattle.std.specs.Prelude.{decimal}
use Rattle.desk_io.specs.Told.{Told}
use Rattle.desk_io.specs.KeptFiles.{KeepsFile}
use Rattle.desk_io.specs.HeldFiles.{TellsNow}
use Rattle.desk_io.specs.Sent.{Appends}
use Rattle.term_core.specs.Terms.{Tree}
use Rattle.term_core.specs.Patterns.{Pattern, ground_pattern}
use Rattle.rule_core.specs.Records.{Record, StepRecord, result_of}
use Rattle.rule_core.specs.Theories.{RewriteTheory}
use Rattle.rule_core.specs.declared.signature.Signature.{Signature}
use Rattle.kore_show.specs.KorePatterns.{kore_pattern}
use Rattle.run_lines.specs.Lines.{two_lines}
use Rattle.mm_justify.specs.Justifying.{IsProofOfRun}
use Rattle.path_proof.specs.PathProofs.{IsFrontOfPath}
use Rattle.path_proof.specs.RecordedPaths.{last_of}
use Rattle.kore_prove.specs.Courses.{Call}
use Rattle.kore_prove.specs.PathFiles.{HoldsPath}
use Rattle.kore_prove.specs.ProveWords.{ProveRequest, IsProve}

-- `proved N` and the canonical text of a configuration, each followed by a newline, if the
-- configuration has a Kore pattern
abbrev pub path_lines : Signature → ℕ → Tree → Option (List ℕ)
path_lines sig n last =
    option_map (two_lines (codes "proved " ++ decimal n)) (kore_pattern sig (ground_pattern last))

-- the file holds a proof that the initial term reaches this configuration
pub record HoldsPathProof (told told' : Option Told) (file : List ℕ) (theory : RewriteTheory)
    (start : Pattern) (last : Tree) : Type 0 where
  pub bytes : List ℕ
  pub held : TellsNow told told' file bytes
  pub proves : IsProofOfRun bytes theory start (ground_pattern last)

-- The hints list a path. The file holds a proof that its initial term reaches its last
-- configuration. The output grew by two lines, with the number of steps and this configuration, or
-- by a part from their front: `Grew` is `Appends` or `AppendsFront`.
pub record SendsPath (Grew : Option (List ℕ) → Option (List ℕ) → List ℕ → Type 0)
    (asked : ProveRequest) (told told' : Option Told) (before after : Option (List ℕ)) :
    Type 0 where
  pub theory : RewriteTheory
  pub start : Pattern
  pub first : Record
  pub steps : List StepRecord
  pub path : HoldsPath told asked theory start first steps
  pub proof : HoldsPathProof told told' asked.proof theory start (last_of (result_of first) steps)
  pub lines : List ℕ
  pub lines_are : path_lines theory.sig (length steps) (last_of (result_of first) steps)
      ≡ Some lines
  pub grew : Grew before after lines

-- if the words ask for a proof of a path, the exit code 0 says that it was proved, and that its
-- lines were printed
abbrev pub ProvesPath : Call → ℕ → Type 0
ProvesPath c code =
    code ≡ 0 → (asked : ProveRequest) → IsProve c.words asked
    → SendsPath Appends asked c.course.desk.told c.course.desk'.told c.course.out.bytes
    c.course.out'.bytes

-- the file is empty, or holds the front of a proof of the path, cut after one of its configurations
pub record HoldsPathFront (told told' : Option Told) (file : List ℕ) (theory : RewriteTheory)
    (start : Pattern) (first : Tree) (steps : List StepRecord) : Type 0 where
  pub bytes : List ℕ
  pub held : TellsNow told told' file bytes
  pub front : (bytes ≡ []) ⊎ IsFrontOfPath theory start first steps bytes

-- the same, for the path that the hints list
pub record HoldsFrontOfPath (asked : ProveRequest) (told told' : Option Told) : Type 0 where
  pub theory : RewriteTheory
  pub start : Pattern
  pub first : Record
  pub steps : List StepRecord
  pub path : HoldsPath told asked theory start first steps
  pub holds : HoldsPathFront told told' asked.proof theory start (result_of first) steps

-- the file is as before, or it was created and holds the front of a proof
abbrev pub LeavesPath : ProveRequest → Option Told → Option Told → Type 0
LeavesPath asked told told' = KeepsFile told told' asked.proof ⊎ HoldsFrontOfPath asked told told'

-- the same if the words ask for a proof of a path, for every exit code
abbrev pub LeavesFrontOfPath : Call → Type 0
LeavesFrontOfPath c =
    (asked : ProveRequest) → IsProve c.words asked
    → LeavesPath asked c.course.desk.told c.course.desk'.told
