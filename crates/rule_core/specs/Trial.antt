-- The trial of rules one by one, in their order.
use Rattle.std.specs.Prelude.{◌≡◌, ℕ, ◌<◌, ◌≤◌, List, length, slice_get, Option, Some, All}
use Rattle.std.specs.Prelude.{MatchOption}
use Rattle.term_core.specs.Terms.{Tree, no_tree, more_trees}
use Rattle.term_core.specs.Patterns.{no_pattern, more_patterns}
use Rattle.rule_core.specs.Rules.{RewriteRule}
use Rattle.rule_core.specs.Sorting.{IsTermOf}
use Rattle.rule_core.specs.WellSorted.{IsRuleOf}
use Rattle.rule_core.specs.Matching.{NoneMatches}
use Rattle.rule_core.specs.MatchSearch.{MatchesTerm}
use Rattle.rule_core.specs.declared.signature.Signature.{Signature}

-- no rule from this index up to that one (excluded) matches
abbrev pub NoRuleMatches : Signature → List RewriteRule → ℕ → ℕ → Tree → Type 0
NoRuleMatches sig rules from to t =
    (j : ℕ) (rule : RewriteRule) → from ≤ j → j < to → slice_get rules j ≡ Some rule →
    NoneMatches sig rule.variables (more_patterns rule.left no_pattern) (more_trees t no_tree)

-- the rule at i is the first from this index on that matches, and it matches with this substitution
pub record IsFirstMatch (sig : Signature) (rules : List RewriteRule) (from : ℕ) (t : Tree) (i : ℕ)
    (theta : List (Option Tree)) : Type 0 where
  pub rule : RewriteRule
  pub there : slice_get rules i ≡ Some rule
  pub not_before : from ≤ i
  pub matches : MatchesTerm sig rule.variables rule.left t theta
  pub earlier : NoRuleMatches sig rules from i t

-- The result of a trial, in each signature that has these pairs of subsorts and in which the rules
-- and the term have one common sort.
abbrev pub FindsFirstMatch : List (ℕ × ℕ) → List RewriteRule → ℕ → Tree
    → Option (ℕ × List (Option Tree)) → Type 0
FindsFirstMatch pairs rules from t found =
    (sig : Signature) (sort : ℕ) → sig.subsorts ≡ pairs → All (IsRuleOf sig sort) rules →
    IsTermOf sig t sort →
    MatchOption found (NoRuleMatches sig rules from (length rules) t)
    (λ hit. IsFirstMatch sig rules from t hit.0 hit.1)
