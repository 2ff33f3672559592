-- Texts whose proofs are all compressed (Metamath book, "Compressed Proof Format").
use Rattle.std.specs.Prelude.{ℕ, Bool, true, false, ◌&&◌, List, [], ◌∷◌, Option, Some}
use Rattle.std.specs.Prelude.{codes, bytes_eq}
use Rattle.mm_text.specs.Bytes.{Token}
use Rattle.mm_text.specs.Statements.{Statements, next_statement, statements_of}
use Rattle.mm_database.specs.Forms.{Form, plain, proves, form_of}

abbrev pub begins_compressed : List Token → Bool
begins_compressed [] = false
begins_compressed (token ∷ tokens) = bytes_eq token (codes "(")

-- a `$p` has a compressed proof
abbrev pub is_compressed : Option Form → Bool
is_compressed (Some (plain labels proves symbols proof)) = begins_compressed proof
is_compressed form = true

abbrev pub are_compressed : Statements → Bool
are_compressed (next_statement s statements) =
    is_compressed (form_of s.tokens) && are_compressed statements
are_compressed statements = true

-- each `$p` of a text has a compressed proof
abbrev pub all_compressed : List ℕ → Bool
all_compressed bytes = are_compressed (statements_of bytes)
