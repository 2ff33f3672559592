-- Laws of the order of sorts.
use Rattle.std.specs.Prelude.{◌↔◌, ℕ, IsTrue, List}
use Rattle.rule_core.specs.Subsorts.{IsBelow, is_below}

-- The test decides whether a sort is below another.
abbrev pub BelowIsTested : Type 0
BelowIsTested = (pairs : List (ℕ × ℕ)) (a b : ℕ) → IsTrue (is_below pairs a b) ↔ IsBelow pairs a b
