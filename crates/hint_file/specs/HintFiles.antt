-- Hint files: which line is the first bad one, and by what number; and the records of a path that
-- was read. Lines are counted from 1.
use Rattle.std.specs.Prelude.{◌≡◌, ℕ, suc, List, [], ◌∷◌, Option, Some, None}
use Rattle.term_core.specs.Terms.{Tree}
use Rattle.term_core.specs.Patterns.{Pattern, ground_pattern}
use Rattle.rule_core.specs.Rules.{RewriteRule}
use Rattle.rule_core.specs.Theories.{RewriteTheory}
use Rattle.rule_core.specs.Evaluation.{Cause, value, blocked, Evaluates}
use Rattle.rule_core.specs.FirstRule.{most_nesting, Matches}
use Rattle.rule_core.specs.Records.{Record, Records, RecordsCondition, StepRecord, result_of}
use Rattle.rule_core.specs.Runs.{steps_on}
use Rattle.kore_sig.specs.FirstFault.{Fault}
use Rattle.kore_rules.specs.Acceptance.{IsAcceptedTerm}
use Rattle.kore_rules.specs.Refused.{IsRefusedTerm}
use Rattle.hint_file.specs.Paths.{StepsBy}
use Rattle.hint_file.specs.HintTexts.{first_line, shown_text}
use Rattle.hint_file.specs.HintLines.{cut_at, NamesRule, good, bad, ReadsLine}

-- no line is bad, or this is the first bad line, and it is bad by this number
pub data FileOutcome : Type 0 where
  no_bad_line : FileOutcome
  bad_line : ℕ → ℕ → FileOutcome

-- what the lines of steps are found to be, from the line n on, from this configuration, with this
-- many calls left
pub data ReadsSteps (theory : RewriteTheory) : ℕ → Tree → ℕ → List ℕ → FileOutcome → Type 0 where
  all_read : {n c : ℕ} {t : Tree} → ReadsSteps theory n t c [] no_bad_line
  not_ended : {n c : ℕ} {t : Tree} {bytes : List ℕ} → (bytes ≡ [] → ⊥) → cut_at 10 bytes ≡ None
      → ReadsSteps theory n t c bytes (bad_line n 1)
  bad_step : {n c k : ℕ} {t : Tree} {bytes line more : List ℕ}
      → cut_at 10 bytes ≡ Some (line, more) → ReadsLine theory t c line (bad k)
      → ReadsSteps theory n t c bytes (bad_line n k)
  good_step : {n c d : ℕ} {t u : Tree} {bytes line more : List ℕ} {r : FileOutcome}
      → cut_at 10 bytes ≡ Some (line, more) → ReadsLine theory t c line (good u d)
      → ReadsSteps theory (suc n) u d more r → ReadsSteps theory n t c bytes r

-- line 1 is that of a hint file, and this is line 2, with what follows it
abbrev pub HasTermLine : List ℕ → List ℕ → List ℕ → Type 0
HasTermLine bytes line more =
    (rest : List ℕ) × (cut_at 10 bytes ≡ Some (first_line, rest))
    × (cut_at 10 rest ≡ Some (line, more))

-- what the bytes are found to be, as a hint file of a program whose rules have this sort, with this
-- many calls
pub data ReadsHints (theory : RewriteTheory) (top : Option ℕ) (calls : ℕ) (bytes : List ℕ)
    : FileOutcome → Type 0 where
  no_first_line : cut_at 10 bytes ≡ None → ReadsHints theory top calls bytes (bad_line 1 1)
  other_first_line : {line rest : List ℕ} → cut_at 10 bytes ≡ Some (line, rest)
      → (line ≡ first_line → ⊥) → ReadsHints theory top calls bytes (bad_line 1 1)
  no_term_line : {rest : List ℕ} → cut_at 10 bytes ≡ Some (first_line, rest)
      → cut_at 10 rest ≡ None → ReadsHints theory top calls bytes (bad_line 2 1)
  term_refused : {line more : List ℕ} {f : Fault} → HasTermLine bytes line more
      → IsRefusedTerm theory.sig top line f → ReadsHints theory top calls bytes (bad_line 2 1)
  term_blocked : {line more : List ℕ} {start : Pattern} {cause : Cause}
      → HasTermLine bytes line more → IsAcceptedTerm theory.sig top line start
      → Evaluates theory most_nesting [] start calls (blocked cause)
      → ReadsHints theory top calls bytes (bad_line 2 4)
  steps_read : {line more : List ℕ} {start : Pattern} {t : Tree} {c : ℕ} {r : FileOutcome}
      → HasTermLine bytes line more → IsAcceptedTerm theory.sig top line start
      → Evaluates theory most_nesting [] start calls (value t c)
      → ReadsSteps theory 3 t c more r → ReadsHints theory top calls bytes r

-- ---- records

-- the record describes a step from this term by this rule, which need not be the first one
pub record RecordsStepBy (theory : RewriteTheory) (rule : RewriteRule) (t : Tree)
    (step : StepRecord) : Type 0 where
  pub matches : Matches theory rule t step.theta
  pub condition : RecordsCondition theory step.theta rule.condition step.condition
  pub right : Records theory step.theta rule.right step.right

-- the record describes the step of this line, which ends in the configuration of the line; with c
-- calls left, the step leaves d
pub record RecordsLine (theory : RewriteTheory) (t : Tree) (c d : ℕ) (line : List ℕ)
    (step : StepRecord) : Type 0 where
  pub rule : RewriteRule
  pub text : List ℕ
  pub names : NamesRule theory line step.rule rule text
  pub by : StepsBy theory rule t c (steps_on (result_of step.right) d)
  pub follows : RecordsStepBy theory rule t step
  pub shown : shown_text theory.sig (ground_pattern (result_of step.right)) ≡ Some text

-- the records describe the steps of these lines, one a line, in order
abbrev pub RecordsLines : RewriteTheory → Tree → ℕ → List ℕ → List StepRecord → Type 0
RecordsLines theory t c bytes [] = bytes ≡ []
RecordsLines theory t c bytes (step ∷ steps) =
    (line : List ℕ) × (more : List ℕ) × (d : ℕ) × (cut_at 10 bytes ≡ Some (line, more))
    × RecordsLine theory t c d line step × RecordsLines theory (result_of step.right) d more steps

-- No line is bad. The initial term is that of line 2, with this record of its evaluation, and these
-- are the records of the steps.
pub record IsReadPath (theory : RewriteTheory) (top : Option ℕ) (calls : ℕ) (bytes : List ℕ)
    (start : Pattern) (first : Record) (steps : List StepRecord) : Type 0 where
  pub line : List ℕ
  pub more : List ℕ
  pub left : ℕ
  pub lines : HasTermLine bytes line more
  pub accepted : IsAcceptedTerm theory.sig top line start
  pub evaluated : Evaluates theory most_nesting [] start calls (value (result_of first) left)
  pub recorded : Records theory [] start first
  pub stepped : RecordsLines theory (result_of first) left more steps
  pub found : ReadsHints theory top calls bytes no_bad_line
