-- Whether a connective is an `\and` of one sort and two patterns.
use Rattle.std.specs.Prelude.{Bool, true, false, List, [], ◌∷◌}
use Rattle.kore_text.specs.Trees.{SortTree, PatternTree}
use Rattle.kore_text.specs.declared.names.Op.{Op}
use Rattle.kore_text.specs.declared.names.Op.TheVariants.{And}

abbrev pub is_pair : Op → List SortTree → List PatternTree → Bool
is_pair And (s ∷ []) (p ∷ (q ∷ [])) = true
is_pair op ss ps = false
