-- Lists of names in which none occurs twice.
use Rattle.std.specs.Prelude.{ℕ, ◌≢◌, List, [], ◌∷◌, map}

-- the names of the entries, in order
abbrev pub names_of : {V : Type 0} → List (List ℕ × V) → List (List ℕ)
names_of entries = map (λ e. e.0) entries

-- the name is not the name of any of these
abbrev pub IsNoneOf : List ℕ → List (List ℕ) → Type 0
IsNoneOf name [] = Unit {0}
IsNoneOf name (other ∷ others) = (name ≢ other) × IsNoneOf name others

-- no name occurs twice
abbrev pub AreDistinct : List (List ℕ) → Type 0
AreDistinct [] = Unit {0}
AreDistinct (name ∷ names) = IsNoneOf name names × AreDistinct names
