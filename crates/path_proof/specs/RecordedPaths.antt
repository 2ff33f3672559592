-- A path as records describe it: the value of the initial term, and steps from it, each by some rule
-- that applies.
use Rattle.std.specs.Prelude.{◌≡◌, ◌⊎◌, List, [], ◌∷◌, Some, map, slice_get}
use Rattle.term_core.specs.Terms.{Tree}
use Rattle.term_core.specs.RulePatterns.{plain_pattern}
use Rattle.rule_core.specs.BoundVariables.{HasBoundVariables}
use Rattle.rule_core.specs.ProgramView.{theory_of}
use Rattle.rule_core.specs.Records.{Records, StepRecord, result_of}
use Rattle.rule_core.specs.RecordView.{plain_record, plain_step}
use Rattle.rule_core.specs.Rules.{RewriteRule}
use Rattle.rule_core.specs.Theories.{RewriteTheory}
use Rattle.rule_core.specs.WellSorted.{IsStart, IsWellSorted}
use Rattle.rule_core.specs.declared.rules.Program.{Program}
use Rattle.hint_file.specs.HintFiles.{RecordsStepBy}
use Rattle.hint_file.specs.declared.reading.HintPath.{HintPath}
use Rattle.proof_writer.specs.PlainNames.{HasPlainNames}

-- each record describes a step from the configuration before it, by a rule that applies there
abbrev pub RecordsSteps : RewriteTheory → Tree → List StepRecord → Type 0
RecordsSteps theory t [] = Unit {0}
RecordsSteps theory t (step ∷ steps) =
    ((rule : RewriteRule) × (slice_get theory.rules step.rule ≡ Some rule)
    × RecordsStepBy theory rule t step)
    × RecordsSteps theory (result_of step.right) steps

-- the configuration after the steps
abbrev pub last_of : Tree → List StepRecord → Tree
last_of t [] = t
last_of t (step ∷ steps) = last_of (result_of step.right) steps

-- one of the configurations: the first one, or one after a step
abbrev pub IsOnPath : Tree → List StepRecord → Tree → Type 0
IsOnPath t [] u = u ≡ t
IsOnPath t (step ∷ steps) u = (u ≡ t) ⊎ IsOnPath (result_of step.right) steps u

-- the records of the steps of a path that was read
abbrev pub steps_of : HintPath → List StepRecord
steps_of path = map plain_step path.steps.items

-- the value of its initial term
abbrev pub first_of : HintPath → Tree
first_of path = result_of (plain_record path.first)

-- the path can be proved over this program
pub record CanProvePath (program : Program) (path : HintPath) : Type 0 where
  pub well_sorted : IsWellSorted (theory_of program)
  pub bound : HasBoundVariables program
  pub plain : HasPlainNames program.sig
  pub is_start : IsStart (theory_of program) (plain_pattern path.start)
  pub first : Records (theory_of program) [] (plain_pattern path.start) (plain_record path.first)
  pub steps : RecordsSteps (theory_of program) (first_of path) (steps_of path)
