-- The statements of a Metamath text (Metamath book, "The Complete Language Specification"). `${`
-- and `$}` are statements by themselves. Each other statement goes from its first token to the
-- first `$.` at or after it. What comes before a statement belongs to it, including a fault.
use Rattle.std.specs.Prelude.{ℕ, Bool, ◌||◌, if◌then◌else◌, List, [], ◌∷◌, ◌++◌, Option, Some, None}
use Rattle.std.specs.Prelude.{codes, bytes_eq}
use Rattle.mm_text.specs.Bytes.{Token}
use Rattle.mm_text.specs.Tokens.{Tokens, no_token, bad_text, next_token, tokens_from}
use Rattle.mm_text.specs.declared.fault.MmFault.{MmFault}

-- a statement: the byte of its first token, and its tokens
pub record Statement : Type 0 where
  pub at : ℕ
  pub tokens : List Token

-- The statements of a text. They end with the text, with a statement that begins at a byte and has
-- no end, or with a byte or comment that breaks the text.
pub data Statements : Type 0 where
  no_statement : Statements
  unended : ℕ → Statements
  bad_statement : MmFault → Statements
  next_statement : Statement → Statements → Statements

-- the state of a reader: between statements, or in a statement that begins at a byte with these
-- tokens
pub data Reading : Type 0 where
  between : Reading
  within : ℕ → List Token → Reading

abbrev pub ends_statement : Token → Bool
ends_statement token = bytes_eq token (codes "$.")

-- the first token of a statement is the whole statement
abbrev pub is_whole : Token → Bool
is_whole token =
    bytes_eq token (codes "${") || (bytes_eq token (codes "$}") || ends_statement token)

abbrev pub reading_after : Reading → ℕ → Token → Reading
reading_after between at token = if is_whole token then between else within at (token ∷ [])
reading_after (within begun tokens) at token =
    if ends_statement token then between else within begun (tokens ++ token ∷ [])

abbrev pub statement : ℕ → List Token → Statement
statement at tokens = record { at = at; tokens = tokens }

-- the statement that a token ends
abbrev pub ended_by : Reading → ℕ → Token → Option Statement
ended_by between at token = if is_whole token then Some (statement at (token ∷ [])) else None
ended_by (within begun tokens) at token =
    if ends_statement token then Some (statement begun (tokens ++ token ∷ [])) else None

abbrev pub with_ended : Option Statement → Statements → Statements
with_ended None statements = statements
with_ended (Some s) statements = next_statement s statements

abbrev pub statements_at_end : Reading → Statements
statements_at_end between = no_statement
statements_at_end (within begun tokens) = unended begun

abbrev pub statements_in : Reading → Tokens → Statements
statements_in reading no_token = statements_at_end reading
statements_in reading (bad_text f) = bad_statement f
statements_in reading (next_token at token tokens) =
    with_ended (ended_by reading at token) (statements_in (reading_after reading at token) tokens)

-- the statements of a text whose first byte has this place
abbrev pub statements_from : ℕ → List ℕ → Statements
statements_from at bytes = statements_in between (tokens_from at bytes)

-- the statements of a file
abbrev pub statements_of : List ℕ → Statements
statements_of bytes = statements_from 0 bytes
