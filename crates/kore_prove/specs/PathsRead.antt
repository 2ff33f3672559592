-- What the private functions return that read and prove a path.
use Rattle.std.specs.Prelude.{ℕ, ◌⊎◌, List, Option}
use Rattle.desk_io.specs.Told.{Told}
use Rattle.desk_io.specs.KeptFiles.{KeepsFile}
use Rattle.term_core.specs.RulePatterns.{plain_pattern}
use Rattle.rule_core.specs.ProgramView.{theory_of}
use Rattle.rule_core.specs.declared.rules.Program.{Program}
use Rattle.kore_rules.specs.RefusedTexts.{top_of}
use Rattle.hint_file.specs.HintFiles.{ReadsHints, bad_line}
use Rattle.hint_file.specs.ReadPaths.{IsPathOf}
use Rattle.hint_file.specs.declared.reading.HintPath.{HintPath}
use Rattle.path_proof.specs.RecordedPaths.{first_of, last_of, steps_of}
use Rattle.kore_prove.specs.FileCauses.{UnreadEnding}
use Rattle.kore_prove.specs.Limits.{HoldsWithin}
use Rattle.kore_prove.specs.PathFiles.{hints_limit}
use Rattle.kore_prove.specs.ProveWords.{ProveRequest}
use Rattle.kore_prove.specs.ProvedPath.{HoldsPathFront, HoldsPathProof}
use Rattle.kore_prove.specs.Reports.{Ending, hints_refused}

-- the file of the hints is within its limit, and lists this path over the program
pub record ListsPath (told : Option Told) (asked : ProveRequest) (program : Program)
    (path : HintPath) : Type 0 where
  pub bytes : List ℕ
  pub held : HoldsWithin told asked.hints hints_limit bytes
  pub is_path : IsPathOf (theory_of program) (top_of program) asked.calls bytes path

-- the file of the hints is within its limit, and this line is the first bad one, by this number
pub record HoldsBadHints (told : Option Told) (asked : ProveRequest) (program : Program)
    (line number : ℕ) : Type 0 where
  pub bytes : List ℕ
  pub held : HoldsWithin told asked.hints hints_limit bytes
  pub is_bad : ReadsHints (theory_of program) (top_of program) asked.calls bytes
      (bad_line line number)

-- each end of a call whose hints were not read, or list no path, has its cause
abbrev pub HintsEnding : Option Told → ProveRequest → Program → ℕ → ℕ → Ending → Type 0
HintsEnding told asked program reads reads' (hints_refused number line) =
    HoldsBadHints told asked program line number
HintsEnding told asked program reads reads' e =
    UnreadEnding told asked.hints hints_limit reads reads' e

-- the file holds a proof of this path
abbrev pub HoldsProofOf : Option Told → Option Told → List ℕ → Program → HintPath → Type 0
HoldsProofOf told told' file program path =
    HoldsPathProof told told' file (theory_of program) (plain_pattern path.start)
    (last_of (first_of path) (steps_of path))

-- the file is as before, or it was created and is empty or holds the front of a proof of this path
abbrev pub MayHoldFrontOf : Option Told → Option Told → List ℕ → Program → HintPath → Type 0
MayHoldFrontOf told told' file program path =
    KeepsFile told told' file
    ⊎ HoldsPathFront told told' file (theory_of program) (plain_pattern path.start) (first_of path)
    (steps_of path)
