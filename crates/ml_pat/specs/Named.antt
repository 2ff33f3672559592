-- Numbered tokens: the number of a token is its position.
use Rattle.std.specs.Prelude.{◌≡◌, ◌≢◌, ℕ, List, [], ◌∷◌, ◌++◌, length, Option, MatchOption}
use Rattle.std.specs.List.{position_from}
use Rattle.std.specs.Str.{bytes_eq}

-- the number of a token: the position at which it first occurs
abbrev pub token_number : List (List ℕ) → List ℕ → Option ℕ
token_number tokens token = position_from (λ (other : List ℕ). bytes_eq token other) 0 tokens

-- a known token keeps its number, and nothing changes; a new token gets the next number
abbrev pub IsNumbered : List (List ℕ) → List (List ℕ) → List ℕ → ℕ → Type 0
IsNumbered old new token number =
    MatchOption (token_number old token) ((number ≡ length old) × (new ≡ old ++ token ∷ []))
    (λ n. (number ≡ n) × (new ≡ old))

-- the token is not in the list
abbrev pub IsNoneOf : List ℕ → List (List ℕ) → Type 0
IsNoneOf token [] = Unit {0}
IsNoneOf token (other ∷ others) = (token ≢ other) × IsNoneOf token others

-- no token occurs twice
abbrev pub AreDistinct : List (List ℕ) → Type 0
AreDistinct [] = Unit {0}
AreDistinct (token ∷ tokens) = IsNoneOf token tokens × AreDistinct tokens
