-- The rewrite rules that axioms mean.
use Rattle.std.specs.Prelude.{◌≡◌, ℕ, List, [], ◌∷◌, map, Option, Some, None}
use Rattle.kore_text.specs.Trees.{PatternTree, AxiomDeclaration}
use Rattle.term_core.specs.Patterns.{Pattern}
use Rattle.rule_core.specs.Rules.{RewriteRule}
use Rattle.rule_core.specs.declared.signature.Signature.{Signature}
use Rattle.kore_check.specs.Folds.{unfolded}
use Rattle.kore_check.specs.PatternMeanings.{with_variables, Means}
use Rattle.kore_check.specs.PartNames.{names_in}
use Rattle.kore_shapes.specs.Shapes.{Rewriting}
use Rattle.kore_axioms.specs.AxiomClasses.{rewrites, axiom_class}
use Rattle.kore_axioms.specs.Conditions.{tested_pattern}
use Rattle.kore_axioms.specs.RuleParts.{rule_parts, left_of, right_of}
use Rattle.kore_axioms.specs.Priorities.{priority_of}

-- what the tested pattern means, if there is one; there is no meaning without one
abbrev pub MeansTest : Signature → List (List ℕ × ℕ) → Option PatternTree → Option Pattern → Type 0
MeansTest sig vars None None = Unit {0}
MeansTest sig vars (Some b) (Some p) = Means sig vars (unfolded b) p
MeansTest _ _ _ _ = ⊥

-- The axiom is this rewrite rule. Its variables are those of the left side, names too, in the order
-- of their first occurrence. Its names are those that the left side gives.
pub record MeansRule (sig : Signature) (a : AxiomDeclaration) (rule : RewriteRule) : Type 0 where
  pub shape : Rewriting
  pub class : axiom_class sig a ≡ rewrites shape
  pub left : PatternTree
  pub is_left : left_of (rule_parts sig shape) ≡ Some left
  pub right : PatternTree
  pub is_right : right_of (rule_parts sig shape) ≡ Some right
  pub variables : List (List ℕ × ℕ)
  pub numbered : variables ≡ with_variables sig [] (unfolded left)
  pub means_left : Means sig variables (unfolded left) rule.left
  pub names : rule.names ≡ names_in sig variables (0 ∷ []) (unfolded left)
  pub means_condition : MeansTest sig variables (tested_pattern (rule_parts sig shape).condition)
      rule.condition
  pub means_right : Means sig variables (unfolded right) rule.right
  pub sorts : rule.variables ≡ map (λ (v : List ℕ × ℕ). v.1) variables
  pub priority : rule.priority ≡ priority_of a.attributes
  pub place : rule.place ≡ a.at
