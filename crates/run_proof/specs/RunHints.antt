-- How the hints of a run grow, step by step. Only clauses of private functions cite it.
use Rattle.std.specs.Prelude.{◌≡◌, ℕ, List, Option, Some}
use Rattle.term_core.specs.Patterns.{Pattern}
use Rattle.rule_core.specs.Records.{StepRecord, RecordsStep, result_of}
use Rattle.rule_core.specs.Runs.{Run}
use Rattle.rule_core.specs.Theories.{RewriteTheory}
use Rattle.rewriter.specs.Configurations.{RunState}
use Rattle.hint_file.specs.HintTexts.{first_lines, stated_line}
use Rattle.hint_file.specs.RunTexts.{AddsText, Grows, IsHintTextOf, text_so_far}
use Rattle.hint_file.specs.declared.hints.Hints.{Hints}
use Rattle.run_proof.specs.declared.steps.Progress.{Progress}
use Rattle.run_proof.specs.declared.steps.Progress.TheVariants.{Made, Stuck, Blocked}

-- hints that are wanted grew by the line of the step that was made; if none was made, they are as
-- before
abbrev pub AddsLineOf : RewriteTheory → RunState → RunState → Hints → Hints → Progress → Type 0
AddsLineOf theory run run' old new Made =
    (step : StepRecord) × RecordsStep theory run.config step
    × (result_of step.right ≡ run'.config)
    × AddsText (stated_line theory step) old new
AddsLineOf theory run run' old new (Stuck last) = new ≡ old
AddsLineOf theory run run' old new (Blocked why last) = new ≡ old

-- Hints that are wanted grew by the lines of the run's steps: if they had grown by lines 1 and 2
-- before, they have now grown by the hint text of the run.
abbrev pub AddsStepsOf : RewriteTheory → ℕ → Pattern → Run → Hints → Hints → Type 0
AddsStepsOf theory calls start run old new =
    (before : Option (List ℕ))
    → Grows (λ lines. first_lines theory.sig start ≡ Some lines) before (text_so_far old)
    → Grows (IsHintTextOf theory calls start run) before (text_so_far new)
