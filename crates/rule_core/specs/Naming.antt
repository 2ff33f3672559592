-- Names whose parts are there.
use Rattle.std.specs.Prelude.{◌<◌, ℕ, List, All, IsSome, map}
use Rattle.term_core.specs.Patterns.{Patterns}
use Rattle.rule_core.specs.NamedParts.{Name, part_of}
use Rattle.rule_core.specs.Matching.{OccursInSome}
use Rattle.rule_core.specs.WellSorted.{AreDifferent}

-- Parts of the patterns have these names: different numbers below this one, none of which is a
-- variable of the patterns.
pub record AreNamesOf (ps : Patterns) (count : ℕ) (names : List Name) : Type 0 where
  pub different : AreDifferent (map (λ (n : Name). n.variable) names)
  pub within : All (λ (n : Name). n.variable < count) names
  pub elsewhere : All (λ (n : Name). OccursInSome n.variable ps → ⊥) names
  pub there : All (λ (n : Name). IsSome (part_of ps n.place)) names
