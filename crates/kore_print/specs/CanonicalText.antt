-- The canonical text of a pattern: the canonical texts of the tokens of its spelling, with nothing
-- between two of them.
use Rattle.std.specs.Prelude.{ℕ, false, List, [], ◌∷◌, ◌++◌}
use Rattle.kore_text.specs.Trees.{PatternTree}
use Rattle.kore_text.specs.Grammar.{Requirement, placed, any, provided, spell_pattern}
use Rattle.kore_print.specs.TokenText.{token_text}

abbrev pub text_of : List Requirement → List ℕ
text_of [] = []
text_of (provided b ∷ ws) = text_of ws
text_of (placed at t ∷ ws) = token_text t ++ text_of ws
text_of (any t ∷ ws) = token_text t ++ text_of ws

-- the canonical text of a pattern
abbrev pub canonical_text : PatternTree → List ℕ
canonical_text p = text_of (spell_pattern false p [])
