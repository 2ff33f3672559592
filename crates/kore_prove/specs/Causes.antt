-- The cause of each end of a call that did not print its lines, and what it left of the output. For
-- a desk that tells nothing, only its counts say something of its files.
use Rattle.std.specs.Prelude.{◌≡◌, ℕ, ◌⊎◌, List, Option}
use Rattle.desk_io.specs.Told.{Told}
use Rattle.desk_io.specs.KeptFiles.{KeepsFiles}
use Rattle.desk_io.specs.MissingFiles.{Lacks, HoldsMore}
use Rattle.desk_io.specs.SinkChanges.{SameBytes}
use Rattle.desk_io.specs.Counts.{CountRose}
use Rattle.term_core.specs.Patterns.{Pattern}
use Rattle.rule_core.specs.Theories.{RewriteTheory}
use Rattle.kore_sig.specs.FirstFault.{Fault}
use Rattle.kore_rules.specs.Refused.{IsRefused, IsRefusedTerm}
use Rattle.kore_prove.specs.DrillWords.{DrillRequest, IsDrill}
use Rattle.kore_prove.specs.RunWords.{RunRequest, IsRun}
use Rattle.kore_prove.specs.VerifyWords.{IsVerify}
use Rattle.kore_prove.specs.CheckWords.{CheckRequest, IsCheck}
use Rattle.kore_prove.specs.ProveWords.{ProveRequest, IsProve}
use Rattle.rule_core.specs.Records.{Record, StepRecord}
use Rattle.kore_prove.specs.PathFiles.{hints_limit, HoldsPath, HoldsBadLine}
use Rattle.kore_prove.specs.BadWords.{AreBad}
use Rattle.kore_prove.specs.Courses.{Course, Call}
use Rattle.kore_prove.specs.CountedFaults.{CountsReadFault, CountsWriteFault, CountsOutputFault}
use Rattle.kore_prove.specs.Limits.{HoldsWithin, definition_limit, term_limit}
use Rattle.kore_prove.specs.Verdicts.{database_limit}
use Rattle.kore_prove.specs.Files.{HoldsProgram, HoldsRun}
use Rattle.kore_prove.specs.DrillProgram.{IsDrillProgram}
use Rattle.kore_prove.specs.BegunLines.{BeginsRun, BeginsVerdict, BeginsCheck, BeginsPath}
use Rattle.kore_prove.specs.BegunLines.{BeginsDrill}
use Rattle.kore_prove.specs.Reports.{Ending, out_of_memory, bad_words, read_fault, write_fault}
use Rattle.kore_prove.specs.Reports.{no_such_file, definition_refused, term_refused, too_large}
use Rattle.kore_prove.specs.Reports.{hints_refused, Reports}

-- the definition in the file of that name was read and accepted
abbrev pub HasProgram : List ℕ → Option Told → Type 0
HasProgram definition told =
    (theory : RewriteTheory) × (top : Option ℕ) × HoldsProgram told definition theory top

-- both files were read and accepted
abbrev pub HasRun : RunRequest → Option Told → Type 0
HasRun asked told = (theory : RewriteTheory) × (start : Pattern) × HoldsRun asked told theory start

-- the file of that name holds bytes that are refused with this fault, as a definition
pub record HoldsRefused (definition : List ℕ) (told : Option Told) (f : Fault) : Type 0 where
  pub bytes : List ℕ
  pub held : HoldsWithin told definition definition_limit bytes
  pub refused : IsRefused bytes f

-- the file of the term holds bytes that are refused with this fault, as a term of the definition
pub record HoldsRefusedTerm (asked : RunRequest) (told : Option Told) (f : Fault) : Type 0 where
  pub theory : RewriteTheory
  pub top : Option ℕ
  pub definition : HoldsProgram told asked.definition theory top
  pub bytes : List ℕ
  pub held : HoldsWithin told asked.term term_limit bytes
  pub refused : IsRefusedTerm theory.sig top bytes f

-- Each end of a run command has its cause in the files that are read. The file of the term is read
-- only if the definition was accepted.
abbrev pub ReadCause : RunRequest → Option Told → ℕ → ℕ → Ending → Type 0
ReadCause asked told reads reads' out_of_memory = Unit {0}
ReadCause asked told reads reads' bad_words = ⊥
ReadCause asked told reads reads' read_fault = CountRose reads reads'
ReadCause asked told reads reads' write_fault = ⊥
ReadCause asked told reads reads' (no_such_file name) =
    ((name ≡ asked.definition) × Lacks told name)
    ⊎ ((name ≡ asked.term) × HasProgram asked.definition told × Lacks told name)
ReadCause asked told reads reads' (definition_refused number byte) =
    HoldsRefused asked.definition told (record { number = number; byte = byte })
ReadCause asked told reads reads' (term_refused number byte) =
    HoldsRefusedTerm asked told (record { number = number; byte = byte })
ReadCause asked told reads reads' (too_large name) =
    ((name ≡ asked.definition) × HoldsMore told name definition_limit)
    ⊎ ((name ≡ asked.term) × HasProgram asked.definition told × HoldsMore told name term_limit)
ReadCause asked told reads reads' (hints_refused number line) = ⊥

-- writing stopped: memory ran out, or a fault was counted
abbrev pub StopsWriting : Type 0 → Ending → Type 0
StopsWriting Counted e = (e ≡ out_of_memory) ⊎ ((e ≡ write_fault) × Counted)

-- the output and the files are as before
abbrev pub KeepsAll : Course → Type 0
KeepsAll c = SameBytes c.out.bytes c.out'.bytes × KeepsFiles c.desk.told c.desk'.told

-- Why the lines of a run were not printed. Its files were not accepted, and all is as before. Or
-- they were accepted, the proof or the hints that are wanted were not written as a whole, and the
-- output is as before. Or its lines were not sent as a whole.
pub data RunCause (asked : RunRequest) (c : Course) (e : Ending) : Type 0 where
  run_unread : ReadCause asked c.desk.told c.desk.read_faults c.desk'.read_faults e → KeepsAll c
      → RunCause asked c e
  run_unproved : HasRun asked c.desk.told → StopsWriting (CountsWriteFault c) e
      → SameBytes c.out.bytes c.out'.bytes → RunCause asked c e
  run_unprinted : BeginsRun asked c → StopsWriting (CountsOutputFault c) e → RunCause asked c e

-- why there is no verdict on the file
abbrev pub DatabaseCause : List ℕ → Course → Ending → Type 0
DatabaseCause file c out_of_memory = Unit {0}
DatabaseCause file c bad_words = ⊥
DatabaseCause file c read_fault = CountsReadFault c
DatabaseCause file c write_fault = ⊥
DatabaseCause file c (no_such_file name) = (name ≡ file) × Lacks c.desk.told name
DatabaseCause file c (definition_refused number byte) = ⊥
DatabaseCause file c (term_refused number byte) = ⊥
DatabaseCause file c (too_large name) =
    (name ≡ file) × HoldsMore c.desk.told name database_limit
DatabaseCause file c (hints_refused number line) = ⊥

-- Why the line of a verdict was not printed. There is no verdict, and all is as before. Or its line
-- was not sent as a whole.
pub data VerifyCause (file : List ℕ) (c : Course) (e : Ending) : Type 0 where
  file_unverified : DatabaseCause file c e → KeepsAll c → VerifyCause file c e
  verdict_unprinted : BeginsVerdict file c → StopsWriting (CountsOutputFault c) e
      → VerifyCause file c e

-- Each end of a check has its cause in the files that are read. The database is read only if the
-- definition was accepted.
abbrev pub CheckReadCause : CheckRequest → Option Told → ℕ → ℕ → Ending → Type 0
CheckReadCause asked told reads reads' out_of_memory = Unit {0}
CheckReadCause asked told reads reads' bad_words = ⊥
CheckReadCause asked told reads reads' read_fault = CountRose reads reads'
CheckReadCause asked told reads reads' write_fault = ⊥
CheckReadCause asked told reads reads' (no_such_file name) =
    ((name ≡ asked.definition) × Lacks told name)
    ⊎ ((name ≡ asked.file) × HasProgram asked.definition told × Lacks told name)
CheckReadCause asked told reads reads' (definition_refused number byte) =
    HoldsRefused asked.definition told (record { number = number; byte = byte })
CheckReadCause asked told reads reads' (term_refused number byte) = ⊥
CheckReadCause asked told reads reads' (too_large name) =
    ((name ≡ asked.definition) × HoldsMore told name definition_limit)
    ⊎ ((name ≡ asked.file) × HasProgram asked.definition told
    × HoldsMore told name database_limit)
CheckReadCause asked told reads reads' (hints_refused number line) = ⊥

-- Why the lines of a check were not printed. Nothing was decided, and all is as before. Or its lines
-- were not sent as a whole.
pub data CheckCause (asked : CheckRequest) (c : Course) (e : Ending) : Type 0 where
  check_undecided : CheckReadCause asked c.desk.told c.desk.read_faults c.desk'.read_faults e
      → KeepsAll c → CheckCause asked c e
  check_unprinted : BeginsCheck asked c → StopsWriting (CountsOutputFault c) e
      → CheckCause asked c e

-- Each end of a call for a proof of a path has its cause in the files that are read. The hints are
-- read only if the definition was accepted.
abbrev pub PathReadCause : ProveRequest → Option Told → ℕ → ℕ → Ending → Type 0
PathReadCause asked told reads reads' out_of_memory = Unit {0}
PathReadCause asked told reads reads' bad_words = ⊥
PathReadCause asked told reads reads' read_fault = CountRose reads reads'
PathReadCause asked told reads reads' write_fault = ⊥
PathReadCause asked told reads reads' (no_such_file name) =
    ((name ≡ asked.definition) × Lacks told name)
    ⊎ ((name ≡ asked.hints) × HasProgram asked.definition told × Lacks told name)
PathReadCause asked told reads reads' (definition_refused number byte) =
    HoldsRefused asked.definition told (record { number = number; byte = byte })
PathReadCause asked told reads reads' (term_refused number byte) = ⊥
PathReadCause asked told reads reads' (too_large name) =
    ((name ≡ asked.definition) × HoldsMore told name definition_limit)
    ⊎ ((name ≡ asked.hints) × HasProgram asked.definition told × HoldsMore told name hints_limit)
PathReadCause asked told reads reads' (hints_refused number line) =
    HoldsBadLine told asked line number

-- the definition was accepted, and no line of the hints is bad
abbrev pub HasPath : ProveRequest → Option Told → Type 0
HasPath asked told =
    (theory : RewriteTheory) × (start : Pattern) × (first : Record) × (steps : List StepRecord)
    × HoldsPath told asked theory start first steps

-- Why the lines of a path were not printed. Its files list no path, and all is as before. Or they
-- list one, it was not proved, and the output is as before. Or its lines were not sent as a whole.
pub data PathCause (asked : ProveRequest) (c : Course) (e : Ending) : Type 0 where
  path_unread : PathReadCause asked c.desk.told c.desk.read_faults c.desk'.read_faults e
      → KeepsAll c → PathCause asked c e
  path_unproved : HasPath asked c.desk.told → StopsWriting (CountsWriteFault c) e
      → SameBytes c.out.bytes c.out'.bytes → PathCause asked c e
  path_unprinted : BeginsPath asked c → StopsWriting (CountsOutputFault c) e
      → PathCause asked c e

-- the texts of a drill were accepted
abbrev pub HasDrill : ℕ → Type 0
HasDrill steps = (theory : RewriteTheory) × (start : Pattern) × IsDrillProgram steps theory start

-- Why the lines of a drill were not printed. It reads no file, and its texts are never refused.
-- Memory ran out before they were accepted, and all is as before. Or they were accepted, the drill
-- was not proved, and the output is as before. Or its lines were not sent as a whole.
pub data DrillCause (asked : DrillRequest) (c : Course) (e : Ending) : Type 0 where
  drill_unmade : e ≡ out_of_memory → KeepsAll c → DrillCause asked c e
  drill_unproved : HasDrill asked.steps → StopsWriting (CountsWriteFault c) e
      → SameBytes c.out.bytes c.out'.bytes → DrillCause asked c e
  drill_unprinted : BeginsDrill asked c → StopsWriting (CountsOutputFault c) e
      → DrillCause asked c e

-- why a call did not print its lines; memory may run out before the words are read
pub data HasCause (c : Call) : Ending → Type 0 where
  without_memory : KeepsAll c.course → HasCause c out_of_memory
  with_bad_words : AreBad c.words → KeepsAll c.course → HasCause c bad_words
  of_run : {asked : RunRequest} {e : Ending} → IsRun c.words asked → RunCause asked c.course e
      → HasCause c e
  of_verify : {file : List ℕ} {e : Ending} → IsVerify c.words file → VerifyCause file c.course e
      → HasCause c e
  of_check : {asked : CheckRequest} {e : Ending} → IsCheck c.words asked
      → CheckCause asked c.course e → HasCause c e
  of_prove : {asked : ProveRequest} {e : Ending} → IsProve c.words asked
      → PathCause asked c.course e → HasCause c e
  of_drill : {asked : DrillRequest} {e : Ending} → IsDrill c.words asked
      → DrillCause asked c.course e → HasCause c e

-- the words are a command, and the code says that the call printed its lines
pub data IsDone (words : List (List ℕ)) (code : ℕ) : Type 0 where
  run_done : {asked : RunRequest} → IsRun words asked → (code ≡ 0) ⊎ (code ≡ 10) ⊎ (code ≡ 11)
      → IsDone words code
  verify_done : {file : List ℕ} → IsVerify words file → (code ≡ 0) ⊎ (code ≡ 12) → IsDone words code
  check_done : {asked : CheckRequest} → IsCheck words asked
      → (code ≡ 0) ⊎ (code ≡ 12) ⊎ (code ≡ 13) → IsDone words code
  prove_done : {asked : ProveRequest} → IsProve words asked → code ≡ 0 → IsDone words code
  drill_done : {asked : DrillRequest} → IsDrill words asked → code ≡ 0 → IsDone words code

-- the call printed its lines, and wrote nothing to the error stream
pub record EndsInLines (c : Call) (code : ℕ) : Type 0 where
  pub done : IsDone c.words code
  pub silent : SameBytes c.err.bytes c.err'.bytes

-- the call had another end, with a cause, and reported the reason
pub record EndsOtherwise (c : Call) (code : ℕ) : Type 0 where
  pub end : Ending
  pub cause : HasCause c end
  pub said : Reports end c.err.bytes c.err'.bytes c.err.faults c.err'.faults code

abbrev pub Ends : Call → ℕ → Type 0
Ends c code = EndsInLines c code ⊎ EndsOtherwise c code
