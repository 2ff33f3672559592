-- Two lists of row numbers as one, in order.
use Rattle.std.specs.Prelude.{ℕ, List, [], ◌∷◌, ◌++◌, nat_lt, if◌then◌else◌}

-- the first numbers, as far as they are below the limit, and the others
abbrev pub those_below : ℕ → List ℕ → List ℕ
those_below limit [] = []
those_below limit (n ∷ ns) = if nat_lt n limit then n ∷ those_below limit ns else []

abbrev pub those_from : ℕ → List ℕ → List ℕ
those_from limit [] = []
those_from limit (n ∷ ns) = if nat_lt n limit then those_from limit ns else n ∷ ns

-- the numbers of both lists, those of the second before the first greater one of the first
abbrev pub joined : List ℕ → List ℕ → List ℕ
joined [] ns = ns
joined (m ∷ ms) ns = those_below m ns ++ m ∷ joined ms (those_from m ns)
