-- The children of a tree that is made from a list.
use Rattle.std.proofs.Common.{◌≡◌, List, [], ◌∷◌, refl, ap}
use Rattle.kore_text.specs.Trees.{SortTree, sort_trees, listed_sorts, PatternTree, pattern_trees}
use Rattle.kore_text.specs.Trees.{listed_patterns}

pub listed_sort_trees : (ss : List SortTree) → listed_sorts (sort_trees ss) ≡ ss
listed_sort_trees [] = refl
listed_sort_trees (s ∷ ss) = ap (λ (xs : List SortTree). s ∷ xs) (listed_sort_trees ss)

pub listed_pattern_trees : (ps : List PatternTree) → listed_patterns (pattern_trees ps) ≡ ps
listed_pattern_trees [] = refl
listed_pattern_trees (p ∷ ps) = ap (λ (xs : List PatternTree). p ∷ xs) (listed_pattern_trees ps)
