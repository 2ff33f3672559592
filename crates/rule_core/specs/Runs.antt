-- Runs. A term is rewritten by the first rule that applies. The run ends when none applies, when
-- the limit of steps is reached, or when an evaluation is blocked. Calls of functions are counted
-- over the whole run.
use Rattle.std.specs.Prelude.{◌≡◌, ℕ, suc, ◌<◌, List, [], Option}
use Rattle.term_core.specs.Terms.{Tree}
use Rattle.term_core.specs.Patterns.{Pattern, ground_pattern}
use Rattle.rule_core.specs.Rules.{RewriteRule}
use Rattle.rule_core.specs.Theories.{RewriteTheory}
use Rattle.rule_core.specs.Evaluation.{Cause, value, blocked, Evaluates}
use Rattle.rule_core.specs.FirstRule.{most_nesting, applies, none_applies, trial_blocked, Tries}

-- the outcome of one step from a configuration: the next one, with the number of calls that are
-- left; none; or a cause why there is no result
pub data Stepped : Type 0 where
  steps_on : Tree → ℕ → Stepped
  stays : Stepped
  stops : Cause → Stepped

pub data Steps (theory : RewriteTheory) (t : Tree) (c : ℕ) : Stepped → Type 0 where
  by_rule : {i d e : ℕ} {rule : RewriteRule} {theta : List (Option Tree)} {u : Tree} →
      Tries theory t 0 theory.rules c (applies i rule theta d) →
      Evaluates theory most_nesting theta rule.right d (value u e) → Steps theory t c (steps_on u e)
  by_none : Tries theory t 0 theory.rules c none_applies → Steps theory t c stays
  in_condition : {cause : Cause} → Tries theory t 0 theory.rules c (trial_blocked cause) →
      Steps theory t c (stops cause)
  in_right_side : {i d : ℕ} {rule : RewriteRule} {theta : List (Option Tree)} {cause : Cause} →
      Tries theory t 0 theory.rules c (applies i rule theta d) →
      Evaluates theory most_nesting theta rule.right d (blocked cause)
      → Steps theory t c (stops cause)

-- this many steps lead from the value of the initial term to this configuration, and leave this
-- many calls
pub data Reaches (theory : RewriteTheory) (start : Pattern) (calls : ℕ) : ℕ → Tree → ℕ
    → Type 0 where
  at_start : {t : Tree} {c : ℕ} → Evaluates theory most_nesting [] start calls (value t c) →
      Reaches theory start calls 0 t c
  after_step : {n c d : ℕ} {t u : Tree} → Reaches theory start calls n t c
      → Steps theory t c (steps_on u d) → Reaches theory start calls (suc n) u d

-- how a run ends, after how many steps, and the last complete configuration; if the initial term
-- has no value, there is no configuration
pub data Run : Type 0 where
  stuck : ℕ → Tree → Run
  limited : ℕ → Tree → Run
  stopped : ℕ → Cause → Tree → Run
  unstarted : Cause → Run

-- the term that a run leaves: its last configuration, or the initial term as it was read
abbrev pub kept_by : Pattern → Run → Pattern
kept_by start (stuck n t) = ground_pattern t
kept_by start (limited n t) = ground_pattern t
kept_by start (stopped n cause t) = ground_pattern t
kept_by start (unstarted cause) = start

-- The run of a term. If the limit is reached, no rule is tried.
abbrev pub IsRunOf : RewriteTheory → ℕ → ℕ → Pattern → Run → Type 0
IsRunOf theory limit calls start (stuck n t) =
    (c : ℕ) × Reaches theory start calls n t c × (n < limit) × Steps theory t c stays
IsRunOf theory limit calls start (limited n t) =
    (c : ℕ) × Reaches theory start calls n t c × (n ≡ limit)
IsRunOf theory limit calls start (stopped n cause t) =
    (c : ℕ) × Reaches theory start calls n t c × (n < limit) × Steps theory t c (stops cause)
IsRunOf theory limit calls start (unstarted cause) =
    Evaluates theory most_nesting [] start calls (blocked cause)
