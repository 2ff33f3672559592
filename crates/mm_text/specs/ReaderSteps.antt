-- What the private functions of the reader return.
use Rattle.std.specs.Prelude.{ℕ, Bool, true, false, List, [], ◌∷◌}
use Rattle.mm_text.specs.Bytes.{Token}
use Rattle.mm_text.specs.Statements.{Reading, between, within, ends_statement, is_whole}
use Rattle.mm_text.specs.declared.tokens.MmToken.{MmToken}
use Rattle.mm_text.specs.declared.statements.MmFound.{MmFound}
use Rattle.mm_text.specs.declared.statements.MmFound.TheVariants.{End, Unended}
use Rattle.mm_text.specs.Reader.{words_of}

-- Only clauses of private functions and proofs cite the rest.

-- a statement ends with this token; the first argument says whether it is the first token
abbrev pub ends_after : Bool → Token → Bool
ends_after true word = is_whole word
ends_after false word = ends_statement word

-- the state of a reader that has read these tokens of a statement
abbrev pub begun : List ℕ → List MmToken → Reading
begun bytes [] = between
begun bytes (t ∷ tokens) = within t.from (words_of bytes (t ∷ tokens))

abbrev pub found_at_end : List MmToken → MmFound
found_at_end [] = End
found_at_end (t ∷ tokens) = Unended t.from
