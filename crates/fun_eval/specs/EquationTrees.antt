-- The matching trees of a program's equations.
use Rattle.std.specs.Prelude.{◌≡◌, ℕ, List, length, slice_get, Some}
use Rattle.rule_core.specs.Theories.{RewriteTheory}
use Rattle.match_tree.specs.Programs.{IsEquationTree}
use Rattle.match_tree.specs.declared.compiling.Tree.{Tree}

-- each tree is the one for the equations of the symbol with its number
abbrev pub AreTreesOf : RewriteTheory → List Tree → Type 0
AreTreesOf theory trees =
    (f : ℕ) (t : Tree) → slice_get trees f ≡ Some t → IsEquationTree theory f t

-- there is one for each symbol
abbrev pub AreEquationTrees : RewriteTheory → List Tree → Type 0
AreEquationTrees theory trees =
    (length trees ≡ length theory.equations) × AreTreesOf theory trees
