-- What the file of a proof holds: a proof of the printed run.
use Rattle.std.specs.Prelude.{◌≡◌, ℕ, List, Option, Some, None}
use Rattle.desk_io.specs.Told.{Told}
use Rattle.desk_io.specs.HeldFiles.{TellsNow}
use Rattle.term_core.specs.Patterns.{Pattern}
use Rattle.rule_core.specs.Theories.{RewriteTheory}
use Rattle.rule_core.specs.Runs.{Run, kept_by}
use Rattle.mm_justify.specs.Justifying.{IsProofOfRun}
use Rattle.kore_prove.specs.RunWords.{RunRequest, IsRun}
use Rattle.kore_prove.specs.Courses.{Call}
use Rattle.kore_prove.specs.PrintedRun.{IsCodeOfRun, IsPrinted}

-- the file holds a proof of the run, from the initial term to what the run keeps
pub record HoldsProof (told told' : Option Told) (file : List ℕ) (theory : RewriteTheory)
    (start : Pattern) (run : Run) :
    Type 0 where
  pub bytes : List ℕ
  pub held : TellsNow told told' file bytes
  pub proves : IsProofOfRun bytes theory start (kept_by start run)

-- if a proof is wanted, its file holds one
abbrev pub HasWantedProof : Option (List ℕ) → Option Told → Option Told → RewriteTheory → Pattern
    → Run → Type 0
HasWantedProof None told told' theory start run = Unit {0}
HasWantedProof (Some file) told told' theory start run = HoldsProof told told' file theory start run

-- the printed run is proved in this file, which the words name
pub record HasProvedRun (words : List (List ℕ)) (told told' : Option Told)
    (before after : Option (List ℕ)) (code : ℕ)
    (file : List ℕ) : Type 0 where
  pub printed : IsPrinted words told before after code
  pub wanted : printed.asked.proof ≡ Some file
  pub proof : HoldsProof told told' file printed.theory printed.start printed.run

-- the words are good, and ask for a run whose proof goes to this file
abbrev pub IsProofRun : List (List ℕ) → List ℕ → Type 0
IsProofRun words file = (asked : RunRequest) × IsRun words asked × (asked.proof ≡ Some file)

-- if the exit code is one of a run and the words name a file for its proof, the run is proved there
abbrev pub ProvesRun : Call → ℕ → Type 0
ProvesRun c code =
    IsCodeOfRun c.words code → (file : List ℕ) → IsProofRun c.words file
    → HasProvedRun c.words c.course.desk.told c.course.desk'.told c.course.out.bytes
    c.course.out'.bytes
    code file
