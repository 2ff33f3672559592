-- Statements as they are written.
use Rattle.std.specs.Prelude.{ℕ, List, [], ◌∷◌, ◌++◌, flat_map, codes}
use Rattle.mm_text.specs.Bytes.{Token}
use Rattle.mm_database.specs.Forms.{Keyword, declares_constants, declares_variables, types_variable}
use Rattle.mm_database.specs.Forms.{assumes, separates, asserts, proves}
use Rattle.mm_text.specs.Written.{written}

-- the text of some statements
abbrev pub written_statements : List (List Token) → List ℕ
written_statements statements = flat_map written statements

abbrev pub keyword_token : Keyword → Token
keyword_token declares_constants = codes "$c"
keyword_token declares_variables = codes "$v"
keyword_token types_variable = codes "$f"
keyword_token assumes = codes "$e"
keyword_token separates = codes "$d"
keyword_token asserts = codes "$a"
keyword_token proves = codes "$p"

-- the tokens of a statement with these labels, keyword and symbols, and of one with a proof
abbrev pub plain_tokens : List Token → Keyword → List Token → List Token
plain_tokens labels keyword symbols =
    labels ++ (keyword_token keyword ∷ (symbols ++ codes "$." ∷ []))

abbrev pub proof_tokens : List Token → List Token → List Token → List Token
proof_tokens labels symbols proof =
    labels ++ (codes "$p" ∷ (symbols ++ (codes "$=" ∷ (proof ++ codes "$." ∷ []))))
