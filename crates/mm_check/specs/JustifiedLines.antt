-- The lines of a database that justifies that one pattern reaches another.
use Rattle.std.specs.Prelude.{ℕ, List, [], ◌∷◌, ◌++◌, codes}
use Rattle.mm_text.specs.Bytes.{Token}
use Rattle.ml_pat.specs.Patterns.{Pattern}
use Rattle.mm_proof.specs.Tokens.{pattern_tokens}

-- tokens with single spaces between them
abbrev pub spaced : List Token → List ℕ
spaced [] = []
spaced (token ∷ []) = token
spaced (token ∷ (next ∷ tokens)) = token ++ 32 ∷ spaced (next ∷ tokens)

-- the tokens of a pattern, followed by a newline
abbrev pub pattern_line : List Token → Pattern → List ℕ
pattern_line names p = spaced (pattern_tokens names p) ++ 10 ∷ []

-- `justified`, the pattern that reaches, and the pattern that is reached, each on a line
abbrev pub justified_lines : List Token → Pattern → Pattern → List ℕ
justified_lines names from to =
    codes "justified" ++ 10 ∷ (pattern_line names from ++ pattern_line names to)
