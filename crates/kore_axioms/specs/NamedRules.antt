-- Rules with the names of their variables.
use Rattle.std.specs.Prelude.{◌≡◌, Option, Some, ℕ, List, None}
use Rattle.kore_text.specs.Trees.{AxiomDeclaration, PatternTree}
use Rattle.rule_core.specs.ProgramView.{rewrite_rule}
use Rattle.rule_core.specs.declared.rules.Rule.{Rule}
use Rattle.rule_core.specs.declared.signature.Signature.{Signature}
use Rattle.kore_check.specs.VariableNames.{named_sorts}
use Rattle.kore_axioms.specs.AxiomMeanings.{MeansRule}
use Rattle.kore_check.specs.Folds.{unfolded}
use Rattle.kore_check.specs.PatternMeanings.{with_variables}

-- The axiom is this rule of a program. The rule's variables have their names in the axiom.
pub record MeansNamedRule (sig : Signature) (a : AxiomDeclaration) (r : Rule) : Type 0 where
  pub means : MeansRule sig a (rewrite_rule r)
  pub names : named_sorts r.vars.items ≡ means.variables

-- the variables, and then the new variables of the pattern, if there is one
abbrev pub with_some_variables : Signature → List (List ℕ × ℕ) → Option PatternTree
    → List (List ℕ × ℕ)
with_some_variables sig vars None = vars
with_some_variables sig vars (Some p) = with_variables sig vars (unfolded p)
