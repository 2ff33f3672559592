-- Matching trees of a program: one for the left sides of its rules, and one for the equations of
-- each function. Both have a row for each of them, numbered from 0 in the order of trial.
use Rattle.std.specs.Prelude.{◌≡◌, ℕ, List, [], ◌∷◌, map}
use Rattle.term_core.specs.Patterns.{Pattern}
use Rattle.rule_core.specs.Rules.{RewriteRule, Equation}
use Rattle.rule_core.specs.Theories.{RewriteTheory, equations_of}
use Rattle.pat_matrix.specs.Collapsed.{collapsed}
use Rattle.pat_matrix.specs.Heads.{pattern_list}
use Rattle.pat_matrix.specs.Rows.{numbered}
use Rattle.pat_matrix.specs.MatrixView.{rows_of, order_of}
use Rattle.match_tree.specs.TreeView.{IsTree, HasMatchTree}
use Rattle.match_tree.specs.declared.compiling.Tree.{Tree}

-- the left side of a rule, with nested injections joined
abbrev pub rule_row : RewriteRule → List Pattern
rule_row rule = collapsed rule.left ∷ []

-- the patterns of an equation's arguments, the same way
abbrev pub equation_row : Equation → List Pattern
equation_row e = map collapsed (pattern_list e.arguments)

-- The tree is one for just these rows, and its rows match by this order of sorts.
pub record IsTreeOf (pairs : List (ℕ × ℕ)) (lists : List (List Pattern)) (t : Tree) : Type 0 where
  pub tree : IsTree t
  pub finds : HasMatchTree t
  pub order : order_of t.matrix ≡ pairs
  pub rows : rows_of t.matrix ≡ numbered 0 lists

-- It is one for the rules.
abbrev pub IsRuleTree : RewriteTheory → Tree → Type 0
IsRuleTree theory t = IsTreeOf theory.sig.subsorts (map rule_row theory.rules) t

-- It is one for the equations of the function.
abbrev pub IsEquationTree : RewriteTheory → ℕ → Tree → Type 0
IsEquationTree theory f t =
    IsTreeOf theory.sig.subsorts (map equation_row (equations_of theory f)) t
