-- What a step of a run returns.
use Rattle.std.specs.Prelude.{◌≡◌}
use Rattle.term_core.specs.Terms.{Tree}
use Rattle.rule_core.specs.Theories.{RewriteTheory}
use Rattle.rule_core.specs.Records.{Record, StepRecord, RecordsStep, result_of}
use Rattle.rule_core.specs.RecordView.{plain_step}
use Rattle.rule_core.specs.RunView.{cause_of}
use Rattle.rule_core.specs.Runs.{Steps, steps_on, stays, stops}
use Rattle.rule_core.specs.declared.records.StepRecord as code
use Rattle.fun_eval.specs.RecordLists.{TellsOption}
use Rattle.rewriter.specs.Configurations.{RunState}
use Rattle.rewriter.specs.declared.run.Next.{Next}
use Rattle.rewriter.specs.declared.run.Next.TheVariants as answer
use Rattle.rewriter.specs.declared.step.Made.{Made}

-- The step is the one of the definition. It leads to the new state, or to none, and then the state
-- is as before.
abbrev pub TakesStep : {S : Type 0} → RewriteTheory → RunState → RunState → Next S → Type 0
TakesStep theory old new (answer.Made s) =
    Steps theory old.config old.calls (steps_on new.config new.calls)
TakesStep theory old new answer.Stuck = Steps theory old.config old.calls stays × (new ≡ old)
TakesStep theory old new (answer.Blocked why) =
    Steps theory old.config old.calls (stops (cause_of why)) × (new ≡ old)

-- the record of the step follows the step from one term to the other
abbrev pub RecordsNext : RewriteTheory → Tree → Tree → Next code.StepRecord → Type 0
RecordsNext theory t u (answer.Made s) =
    RecordsStep theory t (plain_step s) × (result_of (plain_step s).right ≡ u)
RecordsNext theory t u answer.Stuck = Unit {0}
RecordsNext theory t u (answer.Blocked why) = Unit {0}

-- the recording of a step tells such a record
pub record TellsStep {R : Type 0} (tells : R → Record → Type 0) (theory : RewriteTheory)
    (t u : Tree) (made : Made R) :
    Type 0 where
  pub step : StepRecord
  pub rule : step.rule ≡ made.rule
  pub theta : step.theta ≡ made.subst
  pub condition : TellsOption tells made.cond step.condition
  pub right : tells made.right step.right
  pub follows : RecordsStep theory t step
  pub result : result_of step.right ≡ u

abbrev pub RecordedNext : {R : Type 0} → (R → Record → Type 0) → RewriteTheory → Tree → Tree
    → Next (Made R) → Type 0
RecordedNext tells theory t u (answer.Made s) = TellsStep tells theory t u s
RecordedNext tells theory t u answer.Stuck = Unit {0}
RecordedNext tells theory t u (answer.Blocked why) = Unit {0}
