-- What a run keeps, and what it requires.
use Rattle.std.specs.Prelude.{ℕ, All}
use Rattle.term_core.specs.Terms.{Tree}
use Rattle.rule_core.specs.Theories.{RewriteTheory}
use Rattle.rule_core.specs.Sorting.{IsTermOf}
use Rattle.rule_core.specs.WellSorted.{IsRuleOf}

-- the last configuration, and the calls of functions that are left
pub record RunState : Type 0 where
  pub config : Tree
  pub calls : ℕ

-- a configuration has a sort, which is the sort of the rules if there are any
abbrev pub IsConfiguration : RewriteTheory → Tree → Type 0
IsConfiguration theory t =
    (sort : ℕ) × All (IsRuleOf theory.sig sort) theory.rules × IsTermOf theory.sig t sort
