-- The tokens of a signature's own sorts, symbols and domain values.
use Rattle.std.specs.Prelude.{◌≡◌, ℕ, List, Some}
use Rattle.term_core.specs.Terms.{DomainValue}
use Rattle.rule_core.specs.Sorting.{HasValue}
use Rattle.rule_core.specs.declared.signature.Signature.{Signature}
use Rattle.ml_image.specs.Tokens.{token_of_sort, token_of_symbol, token_of_value}

-- the token of a sort or a symbol of the signature, or of a domain value of one of its sorts
pub data IsOwnToken (sig : Signature) (token : List ℕ) : Type 0 where
  is_sort_token : (s : ℕ) → token_of_sort sig s ≡ Some token → IsOwnToken sig token
  is_symbol_token : (f : ℕ) → token_of_symbol sig f ≡ Some token → IsOwnToken sig token
  is_value_token : (s : ℕ) (v : DomainValue) → HasValue sig s v → token_of_value sig s v
      ≡ Some token
      → IsOwnToken sig token
