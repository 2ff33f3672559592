-- Facts about the texts of a drill.
use Rattle.std.specs.Prelude.{ℕ, ◌≤◌, ◌^◌, length}
use Rattle.drill_gen.specs.Drill.{drill_definition, drill_term}

-- the definition of a drill of at most 1,000 steps has at most 1 MiB, and so has its term
pub record IsShort (n : ℕ) : Type 0 where
  pub definition : length (drill_definition n) ≤ 2 ^ 20
  pub term : length drill_term ≤ 2 ^ 20

abbrev pub DrillIsShort : Type 0
DrillIsShort = (n : ℕ) → n ≤ 1000 → IsShort n
