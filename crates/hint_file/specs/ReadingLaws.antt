-- Laws on reading: a step by a rule, a line and a file have one outcome each. So a file that is
-- read as a path has no bad line, and any other has one first bad line, which is bad by one number.
use Rattle.std.specs.Prelude.{◌≡◌, ℕ, List, Option, Some, slice_get}
use Rattle.term_core.specs.Terms.{Tree}
use Rattle.term_core.specs.Patterns.{Pattern}
use Rattle.rule_core.specs.Records.{Record, StepRecord}
use Rattle.rule_core.specs.Rules.{RewriteRule}
use Rattle.rule_core.specs.Theories.{RewriteTheory}
use Rattle.rule_core.specs.Runs.{Stepped}
use Rattle.rule_core.specs.WellSorted.{IsWellSorted}
use Rattle.hint_file.specs.Paths.{StepsBy, PathStep, IsPath, stated_steps}
use Rattle.hint_file.specs.HintLines.{LineOutcome, ReadsLine}
use Rattle.hint_file.specs.HintFiles.{FileOutcome, ReadsHints, IsReadPath}

abbrev pub StepByIsOne : Type 0
StepByIsOne =
    (theory : RewriteTheory) (i c : ℕ) (rule : RewriteRule) (t : Tree) (r s : Stepped)
    → IsWellSorted theory → slice_get theory.rules i ≡ Some rule → StepsBy theory rule t c r
    → StepsBy theory rule t c s → r ≡ s

abbrev pub LineIsOne : Type 0
LineIsOne =
    (theory : RewriteTheory) (t : Tree) (c : ℕ) (line : List ℕ) (r s : LineOutcome)
    → IsWellSorted theory → ReadsLine theory t c line r → ReadsLine theory t c line s → r ≡ s

abbrev pub FileIsOne : Type 0
FileIsOne =
    (theory : RewriteTheory) (top : Option ℕ) (calls : ℕ) (bytes : List ℕ) (r s : FileOutcome)
    → IsWellSorted theory → ReadsHints theory top calls bytes r
    → ReadsHints theory top calls bytes s → r ≡ s

-- The records that were read are those of a path from the value of the term of line 2.
abbrev pub ReadIsPath : Type 0
ReadIsPath =
    (theory : RewriteTheory) (top : Option ℕ) (calls : ℕ) (bytes : List ℕ) (start : Pattern)
    (first : Record) (steps : List StepRecord)
    → IsReadPath theory top calls bytes start first steps
    → (path : List PathStep) × (u : Tree) × (d : ℕ) × (stated_steps theory steps ≡ Some path)
    × IsPath theory start calls path u d
