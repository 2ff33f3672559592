-- Steps with their records.
use Rattle.std.specs.Prelude.{◌≡◌}
use Rattle.rule_core.specs.declared.records.EvalRecord.{EvalRecord}
use Rattle.rule_core.specs.declared.records.StepRecord.{StepRecord}
use Rattle.rewriter.specs.declared.run.Next.{Next}
use Rattle.rewriter.specs.declared.run.Next.TheVariants as answer
use Rattle.rewriter.specs.declared.step.Made.{Made}

-- the same result, with the records of the evaluations as they are
abbrev pub IsWithRecord : Next (Made EvalRecord) → Next StepRecord → Type 0
IsWithRecord (answer.Made s) other = other
    ≡ answer.Made (record { rule = s.rule; subst = s.subst; cond = s.cond; right = s.right })
IsWithRecord answer.Stuck other = other ≡ answer.Stuck
IsWithRecord (answer.Blocked why) other = other ≡ answer.Blocked why
