-- Which calls print a run, unless a fault is counted or memory runs out.
use Rattle.std.specs.Prelude.{◌≡◌, ◌⊎◌, ℕ, List, Option, Some, None}
use Rattle.desk_io.specs.Told.{Told}
use Rattle.rule_core.specs.Theories.{RewriteTheory}
use Rattle.kore_sig.specs.FirstFault.{Fault}
use Rattle.kore_rules.specs.Acceptance.{IsAccepted}
use Rattle.kore_rules.specs.Refused.{IsRefused, IsRefusedTerm}
use Rattle.kore_prove.specs.Limits.{HoldsWithin, definition_limit, term_limit}
use Rattle.kore_prove.specs.RunWords.{RunRequest, IsRun}
use Rattle.kore_prove.specs.Courses.{Course, Call}
use Rattle.kore_prove.specs.CountedFaults.{CountsReadFault, CountsWriteFault, CountsOutputFault}

-- the bytes have no first fault of a definition
abbrev pub IsFaultless : List ℕ → Type 0
IsFaultless bytes = (f : Fault) → IsRefused bytes f → ⊥

-- the bytes have no first fault of a term of this program
abbrev pub IsFaultlessTerm : RewriteTheory → Option ℕ → List ℕ → Type 0
IsFaultlessTerm theory top bytes = (f : Fault) → IsRefusedTerm theory.sig top bytes f → ⊥

-- The words ask for a run. Both files exist and are within their limits. The file of the definition
-- has no fault. The file of the term has no fault as a term of any program that the definition
-- means.
pub record CanRun (words : List (List ℕ)) (told : Told) : Type 0 where
  pub asked : RunRequest
  pub command : IsRun words asked
  pub definition : List ℕ
  pub definition_held : HoldsWithin (Some told) asked.definition definition_limit definition
  pub faultless : IsFaultless definition
  pub term : List ℕ
  pub term_held : HoldsWithin (Some told) asked.term term_limit term
  pub faultless_term : (theory : RewriteTheory) (top : Option ℕ) → IsAccepted definition theory top
      → IsFaultlessTerm theory top term

-- the desk tells its files, and the words can run on them
abbrev pub IsReadyToRun : List (List ℕ) → Option Told → Type 0
IsReadyToRun words None = ⊥
IsReadyToRun words (Some told) = CanRun words told

-- no count of faults rose
pub record IsUnhindered (c : Course) : Type 0 where
  pub reads : CountsReadFault c → ⊥
  pub files : CountsWriteFault c → ⊥
  pub writes : CountsOutputFault c → ⊥

-- if the words can run and no fault is counted, the call prints a run or memory ran out
abbrev pub Completes : Call → ℕ → Type 0
Completes c code =
    IsReadyToRun c.words c.course.desk.told → IsUnhindered c.course
    → (code ≡ 0) ⊎ (code ≡ 10) ⊎ (code ≡ 11) ⊎ (code ≡ 1)
