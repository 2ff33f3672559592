-- What a drill prints and writes: the run of its own definition, and the proof of that run in its
-- file.
use Rattle.std.specs.Prelude.{◌≡◌, ℕ, ◌+◌, ◌⊎◌, List, [], ◌∷◌, ◌++◌, length, Option, Some, codes}
use Rattle.std.specs.Prelude.{decimal}
use Rattle.desk_io.specs.Told.{Told}
use Rattle.desk_io.specs.KeptFiles.{KeepsFile}
use Rattle.desk_io.specs.Sent.{Appends}
use Rattle.term_core.specs.Patterns.{Pattern}
use Rattle.rule_core.specs.Theories.{RewriteTheory}
use Rattle.rule_core.specs.Runs.{Run, IsRunOf}
use Rattle.run_lines.specs.Lines.{lines_of}
use Rattle.mm_justify.specs.Counting.{fact_count, statement_count, capped}
use Rattle.kore_prove.specs.DrillWords.{DrillRequest, IsDrill}
use Rattle.kore_prove.specs.Courses.{Call}
use Rattle.kore_prove.specs.DrillProgram.{IsDrillProgram}
use Rattle.kore_prove.specs.ProvedRun.{HoldsProof}
use Rattle.kore_prove.specs.RunFronts.{HoldsFront}

-- the greatest number of calls of functions in a drill
abbrev pub drill_calls : ℕ
drill_calls = 10000

-- `facts F statements S bytes B`, ended by a newline
abbrev pub counts_line : ℕ → ℕ → ℕ → List ℕ
counts_line facts statements bytes =
    codes "facts " ++ (decimal facts ++ (codes " statements " ++ (decimal statements
    ++ (codes " bytes " ++ (decimal bytes ++ 10 ∷ [])))))

-- the same line, with the counts of a database
abbrev pub counts_line_of : List ℕ → List ℕ
counts_line_of database =
    counts_line (capped (fact_count database)) (capped (statement_count database))
    (capped (length database))

-- The file holds a proof of the run of the drill's program. The limit of this run is one more than
-- the drill's steps. The output grew by the two lines of the run and the line of the counts of the
-- database, or by a part from the front of these lines: `Grew` is `Appends` or `AppendsFront`.
pub record SendsDrill (Grew : Option (List ℕ) → Option (List ℕ) → List ℕ → Type 0)
    (asked : DrillRequest) (told told' : Option Told) (before after : Option (List ℕ)) :
    Type 0 where
  pub theory : RewriteTheory
  pub start : Pattern
  pub program : IsDrillProgram asked.steps theory start
  pub run : Run
  pub is_run : IsRunOf theory (asked.steps + 1) drill_calls start run
  pub proof : HoldsProof told told' asked.file theory start run
  pub lines : List ℕ
  pub lines_are : lines_of theory.sig start run ≡ Some lines
  pub grew : Grew before after (lines ++ counts_line_of proof.bytes)

-- the drill was made, and its three lines were printed
abbrev pub IsDrilled : DrillRequest → Option Told → Option Told → Option (List ℕ)
    → Option (List ℕ) → Type 0
IsDrilled = SendsDrill Appends

-- if the words ask for a drill, the exit code 0 says that it was made
abbrev pub Drills : Call → ℕ → Type 0
Drills c code =
    code ≡ 0 → (asked : DrillRequest) → IsDrill c.words asked
    → IsDrilled asked c.course.desk.told c.course.desk'.told c.course.out.bytes c.course.out'.bytes

-- the file of a drill is empty, or holds the front of a proof of the run of the drill's program
pub record HoldsFrontOfDrill (asked : DrillRequest) (told told' : Option Told) : Type 0 where
  pub theory : RewriteTheory
  pub start : Pattern
  pub program : IsDrillProgram asked.steps theory start
  pub holds : HoldsFront told told' asked.file theory (asked.steps + 1) drill_calls start

-- the file of a drill is as before, or it was created and holds the front of a proof
abbrev pub LeavesDrill : DrillRequest → Option Told → Option Told → Type 0
LeavesDrill asked told told' = KeepsFile told told' asked.file ⊎ HoldsFrontOfDrill asked told told'

-- the same if the words ask for a drill, for every exit code
abbrev pub LeavesFrontOfDrill : Call → Type 0
LeavesFrontOfDrill c =
    (asked : DrillRequest) → IsDrill c.words asked
    → LeavesDrill asked c.course.desk.told c.course.desk'.told
