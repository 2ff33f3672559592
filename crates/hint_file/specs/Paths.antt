-- Paths: steps of a program, each by some rule that applies. In a run each step is by the first
-- rule that applies. In a path it need not be. Calls of functions are counted over the whole path.
use Rattle.std.specs.Prelude.{◌≡◌, ℕ, List, [], ◌∷◌, Option, Some, None, option_map}
use Rattle.std.specs.Prelude.{slice_get}
use Rattle.term_core.specs.Terms.{Tree}
use Rattle.term_core.specs.Patterns.{Pattern}
use Rattle.rule_core.specs.Rules.{RewriteRule}
use Rattle.rule_core.specs.Theories.{RewriteTheory}
use Rattle.rule_core.specs.Evaluation.{Cause, value, blocked, holds, fails, untested, Evaluates}
use Rattle.rule_core.specs.FirstRule.{most_nesting, Matches, IsUnmatched, Meets}
use Rattle.rule_core.specs.Records.{StepRecord, result_of}
use Rattle.rule_core.specs.Runs.{Stepped, steps_on, stays, stops}

-- The outcome of a step by this rule from a configuration, with this many calls left. No step is
-- made if the rule does not match, or if its condition is not true.
pub data StepsBy (theory : RewriteTheory) (rule : RewriteRule) (t : Tree) (c : ℕ) : Stepped → Type 0
  where
    applied : {d e : ℕ} {theta : List (Option Tree)} {u : Tree} → Matches theory rule t theta
        → Meets theory theta rule.condition c (holds d)
        → Evaluates theory most_nesting theta rule.right d (value u e)
        → StepsBy theory rule t c (steps_on u e)
    does_not_match : IsUnmatched theory rule t → StepsBy theory rule t c stays
    condition_fails : {d : ℕ} {theta : List (Option Tree)} → Matches theory rule t theta
        → Meets theory theta rule.condition c (fails d) → StepsBy theory rule t c stays
    condition_blocked : {theta : List (Option Tree)} {cause : Cause} → Matches theory rule t theta
        → Meets theory theta rule.condition c (untested cause)
        → StepsBy theory rule t c (stops cause)
    right_side_blocked : {d : ℕ} {theta : List (Option Tree)} {cause : Cause}
        → Matches theory rule t theta → Meets theory theta rule.condition c (holds d)
        → Evaluates theory most_nesting theta rule.right d (blocked cause)
        → StepsBy theory rule t c (stops cause)

-- a step of a path: the byte of its rule's axiom in the definition, and the configuration after it
pub record PathStep : Type 0 where
  pub byte : ℕ
  pub after : Tree

-- the steps lead from a configuration, with this many calls left, to another one, and leave this
-- many calls
pub data Leads (theory : RewriteTheory) : Tree → ℕ → List PathStep → Tree → ℕ → Type 0 where
  no_step : {t : Tree} {c : ℕ} → Leads theory t c [] t c
  step_by : (i : ℕ) {c d e : ℕ} {t u v : Tree} {rule : RewriteRule} {steps : List PathStep}
      → slice_get theory.rules i ≡ Some rule → StepsBy theory rule t c (steps_on u d)
      → Leads theory u d steps v e
      → Leads theory t c (record { byte = rule.place; after = u } ∷ steps) v e

-- The steps are a path from the value of the initial term to this configuration, and leave this
-- many calls.
abbrev pub IsPath : RewriteTheory → Pattern → ℕ → List PathStep → Tree → ℕ → Type 0
IsPath theory start calls steps u d =
    (t : Tree) × (c : ℕ) × Evaluates theory most_nesting [] start calls (value t c)
    × Leads theory t c steps u d

-- the step by the rule with this number to a configuration, if the program has the rule
abbrev pub numbered_step : RewriteTheory → ℕ → Tree → Option PathStep
numbered_step theory number after =
    option_map (λ (rule : RewriteRule). record { byte = rule.place; after = after })
    (slice_get theory.rules number)

-- the step that a record states, if the program has its rule
abbrev pub stated_step : RewriteTheory → StepRecord → Option PathStep
stated_step theory s = numbered_step theory s.rule (result_of s.right)

-- the steps that records state, if the program has their rules
abbrev pub with_step : Option PathStep → Option (List PathStep) → Option (List PathStep)
with_step None steps = None
with_step (Some step) None = None
with_step (Some step) (Some steps) = Some (step ∷ steps)

abbrev pub stated_steps : RewriteTheory → List StepRecord → Option (List PathStep)
stated_steps theory [] = Some []
stated_steps theory (s ∷ ss) = with_step (stated_step theory s) (stated_steps theory ss)
