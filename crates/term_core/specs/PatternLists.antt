-- Lists of patterns of a rule: the arguments of a constructor or of a function.
use Rattle.std.specs.Prelude.{ℕ, List, Option, IsSomeAnd, map, ◌≤◌}
use Rattle.term_core.specs.Terms.{Tree, Forest, heights}
use Rattle.term_core.specs.Patterns.{Patterns, instances_of}
use Rattle.term_core.specs.Instances.{patterns}
use Rattle.term_core.specs.RulePatterns.{plain_pattern}
use Rattle.term_core.specs.declared.rule_patterns.RulePat.{RulePat}

-- the plain patterns of a list, in its order
abbrev pub plain_patterns : List RulePat → Patterns
plain_patterns ps = patterns (map plain_pattern ps)

-- All of them have instances, and none is higher than n.
abbrev pub AllFitWithin : ℕ → List (Option Tree) → Patterns → Type 0
AllFitWithin n theta ps = IsSomeAnd (instances_of theta ps) (λ (ts : Forest). heights ts ≤ n)
