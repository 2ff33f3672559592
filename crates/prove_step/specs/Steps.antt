-- Recorded steps, and what a theorem says of a step from a term to another.
use Rattle.std.specs.Prelude.{◌≡◌, ◌≤◌, Some, slice_get}
use Rattle.term_core.specs.Terms.{Tree, height}
use Rattle.term_core.specs.Patterns.{ground_pattern}
use Rattle.ml_pat.specs.Patterns.{Pattern, imp, next}
use Rattle.ml_kernel.specs.Lemmas.{HasNoVariable, HasNoMeta}
use Rattle.ml_image.specs.Images.{image_of}
use Rattle.rule_core.specs.Evaluation.{most_height}
use Rattle.rule_core.specs.FirstRule.{Matches}
use Rattle.rule_core.specs.Records.{Records, RecordsCondition, StepRecord}
use Rattle.rule_core.specs.Rules.{RewriteRule}
use Rattle.rule_core.specs.Theories.{RewriteTheory}
use Rattle.prove_term.specs.Contexts.{Context}

-- The record is about a step from the term t: its rule matches t, the rule's condition holds, and
-- the rule's right side has the recorded value. The rule need not be the first one that applies.
pub record IsStepFrom (theory : RewriteTheory) (t : Tree) (step : StepRecord) : Type 0 where
  pub rule : RewriteRule
  pub there : slice_get theory.rules step.rule ≡ Some rule
  pub low : height t ≤ most_height
  pub matches : Matches theory rule t step.theta
  pub condition : RecordsCondition theory step.theta rule.condition step.condition
  pub right : Records theory step.theta rule.right step.right

-- the pattern says that the image of t steps to the image of u; both images are closed
pub record SaysStep (cx : Context) (t u : Tree) (p : Pattern) : Type 0 where
  pub from : Pattern
  pub from_image : image_of cx.program.sig cx.names (ground_pattern t) ≡ Some from
  pub to : Pattern
  pub to_image : image_of cx.program.sig cx.names (ground_pattern u) ≡ Some to
  pub says : p ≡ imp from (next to)
  pub no_variable : HasNoVariable from × HasNoVariable to
  pub no_meta : HasNoMeta from × HasNoMeta to
