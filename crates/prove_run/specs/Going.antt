-- How a run goes one step further, as theorems say it.
use Rattle.std.specs.Prelude.{◌≡◌, [], Contains}
use Rattle.term_core.specs.Terms.{Tree}
use Rattle.term_core.specs.Patterns.{Pattern as RulePattern, ground_pattern}
use Rattle.rule_core.specs.BoundVariables.{HasBoundVariables}
use Rattle.rule_core.specs.ProgramView.{theory_of}
use Rattle.rule_core.specs.Records.{StepRecord}
use Rattle.rule_core.specs.WellSorted.{IsWellSorted}
use Rattle.ml_kernel.specs.Theorems.{Theorem}
use Rattle.ml_derived.specs.Scopes.{Scope, IsStatedIn, IsWithin}
use Rattle.prove_term.specs.Contexts.{Context, HasContext, HasGrown}
use Rattle.prove_step.specs.Steps.{IsStepFrom}
use Rattle.prove_run.specs.Starting.{SaysReached}
use Rattle.prove_run.specs.ReachLemma.{IsReachLemma}

-- The last theorem has no hypotheses, and says that a start reaches a term. The record is about a
-- step from that term. The lemma by which a run goes further is in the context.
pub record MayGoOn (cx : Context) (last reach : Theorem) (step : StepRecord) : Type 0 where
  pub well_sorted : IsWellSorted (theory_of cx.program)
  pub bound : HasBoundVariables cx.program
  pub start : RulePattern
  pub term : Tree
  pub says : SaysReached cx start (ground_pattern term) last
  pub no_hypotheses : last.hypotheses ≡ []
  pub follows : IsStepFrom (theory_of cx.program) term step
  pub is_reach : IsReachLemma reach
  pub listed : Contains cx.lemmas reach

-- The context has grown. If a start reaches something by the last theorem, it reaches the term u by
-- the new theorem. The new theorem stays in each scope that has the context and the last theorem as
-- stated.
pub record ExtendsRun (old new : Context) (last : Theorem) (u : Tree) (t : Theorem) : Type 0 where
  pub grown : HasGrown old new
  pub says : (start reached : RulePattern) → SaysReached old start reached last →
      SaysReached new start (ground_pattern u) t
  pub stays : (s : Scope) → HasContext s new → IsStatedIn s last.hypotheses last.conclusion
      → IsWithin s t
