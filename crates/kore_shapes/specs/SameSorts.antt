-- Sorts and variables that are written the same. Places in the text are ignored.
use Rattle.std.specs.Prelude.{ℕ, List, Bool, true, false, ◌&&◌}
use Rattle.std.specs.Str.{bytes_eq}
use Rattle.kore_text.specs.Trees.{SortTree, sort_parameter, sort_applied, SortTrees, no_sorts}
use Rattle.kore_text.specs.Trees.{sort_then, PatternTree, element_variable}

abbrev mutual
  pub same_sort : SortTree → SortTree → Bool
  same_sort (sort_parameter at n) (sort_parameter place m) = bytes_eq n m
  same_sort (sort_applied at n ss) (sort_applied place m ts) = bytes_eq n m && same_sorts ss ts
  same_sort _ _ = false

  pub same_sorts : SortTrees → SortTrees → Bool
  same_sorts no_sorts no_sorts = true
  same_sorts (sort_then s ss) (sort_then t ts) = same_sort s t && same_sorts ss ts
  same_sorts _ _ = false

-- the pattern is the element variable of this name and sort
abbrev pub is_variable : List ℕ → SortTree → PatternTree → Bool
is_variable name s (element_variable at n t) = bytes_eq name n && same_sort s t
is_variable name s p = false
