-- What an evaluation requires.
use Rattle.std.specs.Prelude.{ℕ, ◌<◌, ◌≤◌, ◌^◌, List, length, Option}
use Rattle.term_core.specs.Terms.{Tree}
use Rattle.term_core.specs.Patterns.{Pattern}
use Rattle.rule_core.specs.Theories.{RewriteTheory, equations_of}
use Rattle.rule_core.specs.Sorting.{HasSort}
use Rattle.rule_core.specs.WellSorted.{BindsVariablesOf}

-- The pattern has a sort, for some sorts of the variables. The substitution gives each variable of
-- the pattern a normal term of the variable's sort. These terms have at most the greatest height.
abbrev pub IsEvaluable : RewriteTheory → List (Option Tree) → Pattern → Type 0
IsEvaluable theory theta p =
    (variables : List ℕ) × (sort : ℕ) × HasSort theory.sig variables p sort
    × BindsVariablesOf theory.sig variables theta p

-- There are fewer than 2^32 sorts, and at most 2^32 symbols, 2^32 rules, and 2^32 equations of each
-- function, so 32-bit numbers identify them.
pub record HasNumbers (theory : RewriteTheory) : Type 0 where
  pub sorts : length theory.sig.sorts < 2 ^ 32
  pub symbols : length theory.sig.symbols ≤ 2 ^ 32
  pub rules : length theory.rules ≤ 2 ^ 32
  pub equations : (f : ℕ) → length (equations_of theory f) ≤ 2 ^ 32
