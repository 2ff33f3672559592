-- The tokens of values, and how the sorts of the code are seen.
use Rattle.std.specs.Prelude.{◌≡◌, ℕ, List, Option, Some, option_map}
use Rattle.term_core.specs.Terms.{DomainValue}
use Rattle.term_core.specs.declared.ids.SortId.{SortId}
use Rattle.rule_core.specs.Sorting.{HasValue}
use Rattle.rule_core.specs.declared.signature.Signature.{Signature}
use Rattle.ml_image.specs.Tokens.{token_of_value}

-- the token of a value of one of the signature's sorts
abbrev pub IsValueToken : Signature → List ℕ → Type 0
IsValueToken sig token =
    (s : ℕ) × (v : DomainValue) × HasValue sig s v × (token_of_value sig s v ≡ Some token)

abbrev pub sort_found : Option SortId → Option ℕ
sort_found r = option_map (λ (s : SortId). s.0) r
