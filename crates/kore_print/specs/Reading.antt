-- Which texts read as a pattern, except for places.
use Rattle.std.specs.Prelude.{◌≡◌, ℕ, List}
use Rattle.kore_text.specs.Trees.{SortTree, sort_parameter, sort_applied, SortTrees, no_sorts}
use Rattle.kore_text.specs.Trees.{sort_then, PatternTree, element_variable, set_variable, string}
use Rattle.kore_text.specs.Trees.{symbol_applied, connected, binder_applied, value_written, folded}
use Rattle.kore_text.specs.Trees.{PatternTrees, no_patterns, pattern_then}
use Rattle.kore_ast.specs.KoreText.{ReadsPattern}

-- the same tree with 0 for each place
abbrev mutual
  pub unplaced_sort : SortTree → SortTree
  unplaced_sort (sort_parameter at n) = sort_parameter 0 n
  unplaced_sort (sort_applied at n ss) = sort_applied 0 n (unplaced_sorts ss)

  pub unplaced_sorts : SortTrees → SortTrees
  unplaced_sorts no_sorts = no_sorts
  unplaced_sorts (sort_then s ss) = sort_then (unplaced_sort s) (unplaced_sorts ss)

abbrev mutual
  pub unplaced : PatternTree → PatternTree
  unplaced (element_variable at n s) = element_variable 0 n (unplaced_sort s)
  unplaced (set_variable at n s) = set_variable 0 n (unplaced_sort s)
  unplaced (string at t) = string 0 t
  unplaced (symbol_applied at n ss ps) =
      symbol_applied 0 n (unplaced_sorts ss) (unplaced_patterns ps)
  unplaced (connected at o ss ps) = connected 0 o (unplaced_sorts ss) (unplaced_patterns ps)
  unplaced (binder_applied at o ss x p) = binder_applied 0 o (unplaced_sorts ss) (unplaced x)
      (unplaced p)
  unplaced (value_written at s t place) = value_written 0 (unplaced_sort s) t 0
  unplaced (folded at left p) = folded 0 left (unplaced p)

  pub unplaced_patterns : PatternTrees → PatternTrees
  unplaced_patterns no_patterns = no_patterns
  unplaced_patterns (pattern_then p ps) = pattern_then (unplaced p) (unplaced_patterns ps)

-- the bytes spell this pattern, except for places
abbrev pub ReadsAs : List ℕ → PatternTree → Type 0
ReadsAs bytes p = (q : PatternTree) × (unplaced q ≡ unplaced p) × ReadsPattern bytes q
