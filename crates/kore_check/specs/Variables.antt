-- Variables of patterns, as they are written.
use Rattle.std.specs.Prelude.{ℕ, List, Option, Some, None}
use Rattle.kore_text.specs.Trees.{SortTree}
use Rattle.kore_ast.specs.Plain.{plain_sort}
use Rattle.kore_check.specs.Folds.{Unfolded, named_variable}
use Rattle.kore_check.specs.declared.written.Variable.{Variable}

-- the name and the sort of a variable, if the pattern is one
abbrev pub variable_of : Unfolded → Option (List ℕ × SortTree)
variable_of (named_variable at name s) = Some (name, s)
variable_of p = None

abbrev pub plain_variable : Variable → List ℕ × SortTree
plain_variable v = (v.name.now, plain_sort v.sort.now)
