-- Use of a rule's lemma: the recorded step, the terms for the rule's variables, and what follows.
use Rattle.std.specs.Prelude.{◌≡◌, ℕ, List, length, Option, Some, Contains, slice_get}
use Rattle.ml_pat.specs.Patterns.{Pattern, imp, next}
use Rattle.ml_kernel.specs.Theorems.{Theorem}
use Rattle.term_core.specs.Terms.{Tree}
use Rattle.term_core.specs.Patterns.{Pattern as RulePattern}
use Rattle.term_core.specs.RulePatterns.{plain_pattern}
use Rattle.rule_core.specs.BoundVariables.{HasBoundVariables}
use Rattle.rule_core.specs.Records.{StepRecord}
use Rattle.rule_core.specs.Rules.{RewriteRule}
use Rattle.rule_core.specs.Matching.{RespectsSorts}
use Rattle.rule_core.specs.WellSorted.{IsWellSorted}
use Rattle.rule_core.specs.ProgramView.{names_of, rewrite_rule, theory_of}
use Rattle.rule_core.specs.declared.rules.Program.{Program}
use Rattle.rule_core.specs.declared.rules.Rule.{Rule}
use Rattle.ml_kernel.specs.Lemmas.{HasNoVariable}
use Rattle.ml_image.specs.HasImages.{HasRuleImage}
use Rattle.ml_image.specs.Images.{image_of}
use Rattle.ml_image.specs.NamedSides.{left_sentence, of_child}
use Rattle.ml_image.specs.Sentences.{Sentence, sentence_image}
use Rattle.prove_term.specs.Contexts.{Context}
use Rattle.prove_term.specs.Filling.{filled}
use Rattle.prove_term.specs.FilledSides.{filled_sentence}
use Rattle.prove_equation.specs.Conditions.{BindsEach, SaysCondition}
use Rattle.prove_step.specs.RuleLemmas.{SaysRuleSchema}
use Rattle.prove_step.specs.Steps.{IsStepFrom}

-- some term makes this step; the program is well sorted, and its rules and equations bind their
-- variables
pub record IsStepOf (program : Program) (step : StepRecord) : Type 0 where
  pub well_sorted : IsWellSorted (theory_of program)
  pub bound : HasBoundVariables program
  pub term : Tree
  pub follows : IsStepFrom (theory_of program) term step

-- The theorem says that the condition of the rule at place i holds. There is a theorem exactly when
-- there is a condition.
abbrev pub SaysConditionAt : Context → ℕ → List (Option Tree) → Option Theorem → Type 0
SaysConditionAt cx i theta o =
    (r : Rule) → slice_get cx.program.rules.items i ≡ Some r →
    SaysCondition cx (rewrite_rule r).variables theta (rewrite_rule r).condition o

-- the lemma of the rule may be used with this substitution and this theorem on its condition
pub record CanApply (cx : Context) (r : RewriteRule) (lemma : Theorem) (theta : List (Option Tree))
    (o : Option Theorem) : Type 0 where
  pub well_sorted : IsWellSorted (theory_of cx.program)
  pub image : HasRuleImage cx.program.sig r
  pub room : length theta ≡ length r.variables
  pub respects : RespectsSorts cx.program.sig r.variables theta
  pub bound : BindsEach r.variables theta
  pub schema : SaysRuleSchema cx r lemma
  pub listed : Contains cx.lemmas lemma
  pub condition : SaysCondition cx r.variables theta r.condition o

-- The pattern says that the image of the left side steps to the image of the right side. The
-- variables of both are replaced by terms. Neither image has an object variable.
pub record SaysFilledStep (cx : Context) (theta : List (Option Tree)) (left : Sentence)
    (right : RulePattern) (p : Pattern) : Type 0 where
  pub from : Pattern
  pub from_image : sentence_image cx.program.sig cx.names (filled_sentence theta left) ≡ Some from
  pub to : Pattern
  pub to_image : image_of cx.program.sig cx.names (filled theta right) ≡ Some to
  pub says : p ≡ imp from (next to)
  pub no_variable : HasNoVariable from × HasNoVariable to

-- the same for the rule at place i
abbrev pub SaysFilledAt : Context → ℕ → List (Option Tree) → Pattern → Type 0
SaysFilledAt cx i theta p =
    (r : Rule) → slice_get cx.program.rules.items i ≡ Some r →
    SaysFilledStep cx theta
    (left_sentence (of_child 0 (names_of r.named.items)) (plain_pattern r.left))
    (plain_pattern r.right) p

-- the theorem says this of the rule's sides, if the rule's lemma may be used with this substitution
abbrev pub SaysApplied : Context → Theorem → List (Option Tree) → Option Theorem → Context → Theorem
    → Type 0
SaysApplied old lemma theta o new t =
    (r : RewriteRule) → CanApply old r lemma theta o
    → SaysFilledStep new theta (left_sentence (of_child 0 r.names) r.left) r.right t.conclusion
