-- What may follow a sort without braces.
use Rattle.std.specs.Prelude.{◌≡◌, ℕ, Bool, false, ◌==◌, List, [], ◌∷◌}
use Rattle.kore_text.specs.TokenStream.{KoreToken, mark, Stream, end, no_token_at, token}
use Rattle.kore_text.specs.Grammar.{Requirement, placed, any, provided}

-- the token is this mark
abbrev pub is_mark : ℕ → KoreToken → Bool
is_mark c (mark d) = d == c
is_mark c _ = false

-- no opening brace follows: the first required token is none, or no token is required and the text
-- ends here
abbrev pub Apart : List Requirement → Stream → Type 0
Apart [] (end x) = Unit {0}
Apart [] (no_token_at x) = ⊥
Apart [] (token t p s) = ⊥
Apart (provided b ∷ ws) e = Apart ws e
Apart (any t ∷ ws) e = is_mark 123 t ≡ false
Apart (placed p t ∷ ws) e = is_mark 123 t ≡ false
