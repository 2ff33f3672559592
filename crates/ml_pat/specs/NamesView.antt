-- The tokens that a `Names` of the code holds, by number.
use Rattle.std.specs.Prelude.{ℕ, List, map, string_bytes}
use Rattle.ml_pat.specs.Named.{AreDistinct}
use Rattle.ml_pat.specs.declared.names.Names.TheInside.{Inside}

abbrev pub tokens_of : Inside → List (List ℕ)
tokens_of n = map (λ t. string_bytes t) n.tokens.keys

-- no token occurs twice
abbrev pub HasDistinctTokens : Inside → Type 0
HasDistinctTokens n = AreDistinct (tokens_of n)
