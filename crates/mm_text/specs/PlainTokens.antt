-- Tokens that are read as one statement.
use Rattle.std.specs.Prelude.{Bool, false, not, ◌&&◌, List, [], ◌∷◌}
use Rattle.std.specs.List.{list_all}
use Rattle.mm_text.specs.Bytes.{Token, class_of, is_printable_class}
use Rattle.mm_text.specs.Tokens.{opens_comment, closes_comment}
use Rattle.mm_text.specs.Statements.{ends_statement, is_whole}

-- a token of printable bytes that neither opens nor closes a comment
abbrev pub is_plain_token : Token → Bool
is_plain_token [] = false
is_plain_token (b ∷ bytes) = list_all (λ c. is_printable_class (class_of c)) (b ∷ bytes)
    && (not (opens_comment (b ∷ bytes)) && not (closes_comment (b ∷ bytes)))

-- the last token is `$.`, and no other token is
abbrev pub ends_once : List Token → Bool
ends_once [] = false
ends_once (token ∷ []) = ends_statement token
ends_once (token ∷ (next ∷ tokens)) = not (ends_statement token) && ends_once (next ∷ tokens)

-- tokens that make one statement
abbrev pub is_one_statement : List Token → Bool
is_one_statement [] = false
is_one_statement (token ∷ []) = is_whole token
is_one_statement (token ∷ (next ∷ tokens)) = not (is_whole token) && ends_once (next ∷ tokens)
