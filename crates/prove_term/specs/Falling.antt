-- Facts on pattern variables in falling order of the numbers.
use Rattle.std.specs.Prelude.{◌≡◌, ◌<◌, ℕ, List, [], ◌∷◌}
use Rattle.ml_pat.specs.Patterns.{Pattern, fun, meta}

-- Each pattern says that a pattern variable is one element of a sort. The numbers of the variables
-- fall, and all are below b.
abbrev pub Falls : ℕ → List Pattern → Type 0
Falls b [] = Unit {0}
Falls b (p ∷ ps) = (j : ℕ) × (s : ℕ) × (j < b) × (p ≡ fun (meta j) s) × Falls j ps
