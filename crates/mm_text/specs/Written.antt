-- Texts that are written token by token.
use Rattle.std.specs.Prelude.{ℕ, Bool, true, if◌then◌else◌, List, [], ◌∷◌, ◌++◌, flat_map}
use Rattle.mm_text.specs.Bytes.{Token, is_white}
use Rattle.mm_text.specs.Statements.{is_whole}

-- a text is empty or ends with white space
abbrev pub ends_white : List ℕ → Bool
ends_white [] = true
ends_white (b ∷ []) = is_white b
ends_white (b ∷ (c ∷ bytes)) = ends_white (c ∷ bytes)

-- The white space after a token: the end of the line after the end of a statement, and otherwise a
-- space.
abbrev pub white_after : Token → ℕ
white_after token = if is_whole token then 10 else 32

-- the text of tokens, with white space after each
abbrev pub written : List Token → List ℕ
written tokens = flat_map (λ token. token ++ white_after token ∷ []) tokens
