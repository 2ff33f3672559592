-- What the files of a request for a proof of a path hold: a definition that is accepted, and hints.
use Rattle.std.specs.Prelude.{ℕ, List, Option}
use Rattle.desk_io.specs.Told.{Told}
use Rattle.term_core.specs.Patterns.{Pattern}
use Rattle.rule_core.specs.Records.{Record, StepRecord}
use Rattle.rule_core.specs.Theories.{RewriteTheory}
use Rattle.hint_file.specs.HintFiles.{bad_line, IsReadPath, ReadsHints}
use Rattle.kore_prove.specs.Limits.{HoldsWithin}
use Rattle.kore_prove.specs.Files.{HoldsProgram}
use Rattle.kore_prove.specs.ProveWords.{ProveRequest}

-- the greatest number of bytes of hints
abbrev pub hints_limit : ℕ
hints_limit = 268435456

-- the file of the definition was accepted and means this program, and the file of the hints holds
-- these bytes, within its limit
pub record HoldsHintFile (told : Option Told) (asked : ProveRequest) (theory : RewriteTheory)
    (top : Option ℕ) (bytes : List ℕ) : Type 0 where
  pub definition : HoldsProgram told asked.definition theory top
  pub hints : HoldsWithin told asked.hints hints_limit bytes

-- No line of the hints is bad. They list the path from this initial term: the record of its
-- evaluation, and the records of the steps.
pub record HoldsPath (told : Option Told) (asked : ProveRequest) (theory : RewriteTheory)
    (start : Pattern) (first : Record) (steps : List StepRecord) : Type 0 where
  pub top : Option ℕ
  pub bytes : List ℕ
  pub files : HoldsHintFile told asked theory top bytes
  pub is_path : IsReadPath theory top asked.calls bytes start first steps

-- this line of the hints is the first bad one, and it is bad by this number
pub record HoldsBadLine (told : Option Told) (asked : ProveRequest) (line number : ℕ) : Type 0 where
  pub theory : RewriteTheory
  pub top : Option ℕ
  pub bytes : List ℕ
  pub files : HoldsHintFile told asked theory top bytes
  pub is_bad : ReadsHints theory top asked.calls bytes (bad_line line number)
