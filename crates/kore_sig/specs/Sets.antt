-- Sets of names.
use Rattle.std.specs.Prelude.{◌≡◌, ℕ, List, is_some}
use Rattle.rule_core.specs.Named.{number_of_name, is_among}

-- the names of the entries are exactly those of the list
abbrev pub Knows : {V : Type 0} → List (List ℕ × V) → List (List ℕ) → Type 0
Knows entries names = (n : List ℕ) → is_some (number_of_name entries n) ≡ is_among names n
