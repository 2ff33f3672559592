-- What the private function that makes a step returns.
use Rattle.std.specs.Prelude.{ℕ, Option, Some, None, Result, Ok, Err}
use Rattle.term_core.specs.Terms.{Tree}
use Rattle.rule_core.specs.Theories.{RewriteTheory}
use Rattle.rule_core.specs.Records.{Record}
use Rattle.rule_core.specs.RunView.{cause_of}
use Rattle.rule_core.specs.Runs.{Steps, steps_on, stays, stops}
use Rattle.fun_eval.specs.declared.answer.EvalEnd.{EvalEnd}
use Rattle.fun_eval.specs.declared.answer.EvalEnd.TheVariants.{Blocked, Memory}
use Rattle.rewriter.specs.Configurations.{IsConfiguration}
use Rattle.rewriter.specs.NextSteps.{TellsStep}
use Rattle.rewriter.specs.declared.step.Further.{Further}

-- the step from a configuration, with c calls left
abbrev pub Advances : {R : Type 0} → (R → Record → Type 0) → RewriteTheory → Tree → ℕ
    → Result (Option (Further R)) EvalEnd → Type 0
Advances tells theory t c (Ok None) = Steps theory t c stays
Advances tells theory t c (Ok (Some further)) =
    Steps theory t c (steps_on further.config further.calls)
    × TellsStep tells theory t further.config further.made × IsConfiguration theory further.config
Advances tells theory t c (Err (Blocked why)) = Steps theory t c (stops (cause_of why))
Advances tells theory t c (Err Memory) = Unit {0}
