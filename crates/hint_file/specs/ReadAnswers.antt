-- What the private functions that read lines return.
use Rattle.std.specs.Prelude.{◌≡◌, ℕ, List, Option, Some, None, Result, Ok, Err, option_map}
use Rattle.std.specs.Ordering.{nat_cmp}
use Rattle.std.specs.BTreeMap.{BTreeMap, get}
use Rattle.term_core.specs.Terms.{Tree}
use Rattle.term_core.specs.Patterns.{Pattern}
use Rattle.rule_core.specs.Rules.{RewriteRule}
use Rattle.rule_core.specs.Theories.{RewriteTheory}
use Rattle.rule_core.specs.Evaluation.{holds, fails, untested}
use Rattle.rule_core.specs.FirstRule.{Meets}
use Rattle.rule_core.specs.Records.{RecordsCondition, result_of}
use Rattle.rule_core.specs.RecordView.{optional, plain_record, plain_step}
use Rattle.rule_core.specs.RunView.{cause_of}
use Rattle.rule_core.specs.Runs.{steps_on, stays, stops}
use Rattle.rule_core.specs.declared.records.EvalRecord.{EvalRecord}
use Rattle.rule_core.specs.declared.records.StepRecord.{StepRecord}
use Rattle.fun_eval.specs.declared.answer.EvalEnd.{EvalEnd}
use Rattle.fun_eval.specs.declared.answer.EvalEnd.TheVariants.{Blocked, Memory}
use Rattle.rewriter.specs.Configurations.{IsConfiguration}
use Rattle.hint_file.specs.Paths.{StepsBy}
use Rattle.hint_file.specs.HintLines.{good, bad, ReadsLine, rule_number}
use Rattle.hint_file.specs.HintFiles.{RecordsStepBy, RecordsLine}
use Rattle.hint_file.specs.declared.ends.LineEnd.{LineEnd}
use Rattle.hint_file.specs.declared.ends.LineEnd.TheVariants as line_end

-- the map gives each byte the number of the rule whose axiom is there
abbrev pub NumbersRules : RewriteTheory → BTreeMap ℕ ℕ → Type 0
NumbersRules theory m = (byte : ℕ) → get nat_cmp m byte ≡ rule_number theory byte

-- whether the condition of a rule holds, with its record and the calls that are left
abbrev pub TestsCondition : RewriteTheory → List (Option Tree) → Option Pattern → ℕ
    → Result (Option (Option EvalRecord × ℕ)) EvalEnd → Type 0
TestsCondition theory theta p c (Ok None) = (left : ℕ) × Meets theory theta p c (fails left)
TestsCondition theory theta p c (Ok (Some kept)) =
    Meets theory theta p c (holds kept.1)
    × RecordsCondition theory theta p (optional (option_map plain_record kept.0))
TestsCondition theory theta p c (Err (Blocked why)) =
    Meets theory theta p c (untested (cause_of why))
TestsCondition theory theta p c (Err Memory) = Unit {0}

-- the step by a rule, with its record and the calls that are left
abbrev pub TakesStepBy : RewriteTheory → RewriteRule → ℕ → Tree → ℕ
    → Result (Option (StepRecord × ℕ)) EvalEnd → Type 0
TakesStepBy theory rule number t c (Ok None) = StepsBy theory rule t c stays
TakesStepBy theory rule number t c (Ok (Some made)) =
    StepsBy theory rule t c (steps_on (result_of (plain_step made.0).right) made.1)
    × RecordsStepBy theory rule t (plain_step made.0) × (made.0.rule ≡ number)
    × IsConfiguration theory (result_of (plain_step made.0).right)
TakesStepBy theory rule number t c (Err (Blocked why)) =
    StepsBy theory rule t c (stops (cause_of why))
TakesStepBy theory rule number t c (Err Memory) = Unit {0}

-- the reading of a line
abbrev pub AnswersLine : RewriteTheory → Tree → ℕ → List ℕ → Result (StepRecord × ℕ) LineEnd
    → Type 0
AnswersLine theory t c line (Ok read) =
    ReadsLine theory t c line (good (result_of (plain_step read.0).right) read.1)
    × RecordsLine theory t c read.1 line (plain_step read.0)
    × IsConfiguration theory (result_of (plain_step read.0).right)
AnswersLine theory t c line (Err (line_end.Bad k)) = ReadsLine theory t c line (bad k)
AnswersLine theory t c line (Err line_end.Memory) = Unit {0}
