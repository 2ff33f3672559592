-- Where a run may be cut.
use Rattle.std.specs.Prelude.{ℕ, ◌≤◌, []}
use Rattle.term_core.specs.Patterns.{Pattern, ground_pattern}
use Rattle.term_core.specs.Terms.{Tree}
use Rattle.rule_core.specs.Theories.{RewriteTheory}
use Rattle.rule_core.specs.Evaluation.{Cause, blocked, Evaluates}
use Rattle.rule_core.specs.FirstRule.{most_nesting}
use Rattle.rule_core.specs.Runs.{Reaches}

-- The patterns at which the run of a term may be cut: the initial term as it was read, if
-- evaluating it is blocked; else each configuration that the run reaches within the limit.
pub data MayEndAt (theory : RewriteTheory) (limit calls : ℕ) (start : Pattern) : Pattern
    → Type 0 where
  at_blocked_start : {cause : Cause} → Evaluates theory most_nesting [] start calls (blocked cause)
      → MayEndAt theory limit calls start start
  at_configuration : {n c : ℕ} {t : Tree} → Reaches theory start calls n t c → n ≤ limit
      → MayEndAt theory limit calls start (ground_pattern t)
