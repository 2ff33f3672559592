-- How many patterns a fold combines: whether there are two or more.
use Rattle.std.specs.Prelude.{Bool, true, false, List, [], ◌∷◌}
use Rattle.kore_text.specs.Trees.{PatternTree}

abbrev pub are_two : List PatternTree → Bool
are_two [] = false
are_two (p ∷ []) = false
are_two (p ∷ (q ∷ ps)) = true
