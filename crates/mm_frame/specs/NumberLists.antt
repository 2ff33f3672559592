-- Whether a list has a number.
use Rattle.std.specs.Prelude.{ℕ, Bool, nat_eq, List}
use Rattle.std.specs.List.{list_any}

abbrev pub has_number : List ℕ → ℕ → Bool
has_number numbers n = list_any (λ m. nat_eq m n) numbers
