-- Named things in the order of their first mention.
use Rattle.std.specs.Prelude.{ℕ, Bool, List, Option}
use Rattle.std.specs.List.{position_from, list_any}
use Rattle.std.specs.Str.{bytes_eq}

-- the number of a name: the position of the first entry with this name
abbrev pub number_of_name : {V : Type 0} → List (List ℕ × V) → List ℕ → Option ℕ
number_of_name {V} entries name = position_from (λ (e : List ℕ × V). bytes_eq name e.0) 0 entries

-- the name is one of these
abbrev pub is_among : List (List ℕ) → List ℕ → Bool
is_among names name = list_any (bytes_eq name) names
