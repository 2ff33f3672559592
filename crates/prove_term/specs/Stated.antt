-- What the axiom with a number in a context says.
use Rattle.std.specs.Prelude.{◌≡◌, ℕ, Some, slice_get}
use Rattle.ml_pat.specs.Patterns.{Pattern}
use Rattle.prove_term.specs.Contexts.{Context}
use Rattle.prove_term.specs.RuleAxioms.{SaysRuleAt}

-- the axiom with number n is that of the rule at place i
pub record IsRuleAxiom (cx : Context) (i n : ℕ) : Type 0 where
  pub stated : Pattern
  pub there : slice_get cx.axioms n ≡ Some stated
  pub says : SaysRuleAt cx i stated
