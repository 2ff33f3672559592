-- The tokens of sorts, symbols and domain values in a Metamath database, and their numbers.
use Rattle.std.specs.Prelude.{ℕ, ◌/◌, ◌%◌, List, [], ◌∷◌, ◌++◌, Option, Some, None, option_map}
use Rattle.std.specs.Prelude.{slice_get, codes}
use Rattle.std.specs.Char.{digit_char}
use Rattle.term_core.specs.Terms.{DomainValue}
use Rattle.ml_pat.specs.Named.{token_number}
use Rattle.term_core.specs.ValueTexts.{value_text}
use Rattle.rule_core.specs.declared.signature.Signature.{Signature}

abbrev pub sort_token : List ℕ → List ℕ
sort_token name = codes "s:" ++ name

abbrev pub symbol_token : List ℕ → List ℕ
symbol_token name = codes "f:" ++ name

-- the bytes as hexadecimal digits, two for each byte
abbrev pub hexadecimal : List ℕ → List ℕ
hexadecimal [] = []
hexadecimal (byte ∷ bytes) = digit_char (byte / 16) ∷ (digit_char (byte % 16) ∷ hexadecimal bytes)

-- the token of a domain value of the sort with this name
abbrev pub value_token : List ℕ → DomainValue → List ℕ
value_token name v = codes "d:" ++ (name ++ (codes ":" ++ hexadecimal (value_text v)))

-- the name with this number
abbrev pub name_at : {V : Type 0} → List (List ℕ × V) → ℕ → Option (List ℕ)
name_at {V} entries n = option_map (λ e. e.0) (slice_get entries n)

-- the token of a sort, of a symbol and of a domain value, by the number in the signature
abbrev pub token_of_sort : Signature → ℕ → Option (List ℕ)
token_of_sort sig s = option_map sort_token (name_at sig.sorts s)

abbrev pub token_of_symbol : Signature → ℕ → Option (List ℕ)
token_of_symbol sig f = option_map symbol_token (name_at sig.symbols f)

abbrev pub token_of_value : Signature → ℕ → DomainValue → Option (List ℕ)
token_of_value sig s v = option_map (λ name. value_token name v) (name_at sig.sorts s)

-- the number of a token among the names, if it is there
abbrev pub number_in_names : List (List ℕ) → Option (List ℕ) → Option ℕ
number_in_names names None = None
number_in_names names (Some token) = token_number names token
