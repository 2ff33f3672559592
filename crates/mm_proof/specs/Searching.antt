-- Patterns on a stack, the top last. Only clauses of private functions cite this.
use Rattle.std.specs.Prelude.{◌≡◌, ◌<◌, ℕ, ◌+◌, Bool, true, ◌&&◌, List, [], ◌∷◌}
use Rattle.std.specs.Borrow.{Bor}
use Rattle.ml_pat.specs.Patterns.{Pattern}
use Rattle.ml_pat.specs.FormsIn.{forms_in}
use Rattle.ml_pat.specs.Judgements.{absent}

abbrev pub patterns_of : List (Bor Pattern) → List Pattern
patterns_of [] = []
patterns_of (p ∷ ps) = p.now ∷ patterns_of ps

-- x occurs in none of them
abbrev pub all_absent : ℕ → List Pattern → Bool
all_absent x [] = true
all_absent x (p ∷ ps) = all_absent x ps && absent x p

-- the number of their forms
abbrev pub all_forms : List Pattern → ℕ
all_forms [] = 0
all_forms (p ∷ ps) = all_forms ps + forms_in p

-- A pattern was taken from a stack. If the search goes on, the answer depends on what is now on
-- the stack. Otherwise the answer is no.
abbrev pub IsLeft : ℕ → Bool → ℕ → List (Bor Pattern) → List (Bor Pattern) → Bool → Type 0
IsLeft x test size old new going =
    ((going && all_absent x (patterns_of new)) ≡ (test && all_absent x (patterns_of old)))
    × (all_forms (patterns_of new) < all_forms (patterns_of old) + size)
