-- What reading the next statement of a text returns.
use Rattle.std.specs.Prelude.{◌≡◌, ℕ, ◌<◌, List, [], ◌∷◌, map, Result, Ok, Err}
use Rattle.std.specs.List.{slice_range}
use Rattle.mm_text.specs.Bytes.{Token}
use Rattle.mm_text.specs.Next.{left}
use Rattle.mm_text.specs.Statements.{Statement, statement, Statements, no_statement, unended}
use Rattle.mm_text.specs.Statements.{bad_statement, next_statement, between, statements_in}
use Rattle.mm_text.specs.declared.tokens.MmToken.{MmToken}
use Rattle.mm_text.specs.declared.tokens.MmTokens.{MmTokens}
use Rattle.mm_text.specs.declared.statements.MmFound.{MmFound}
use Rattle.mm_text.specs.declared.statements.MmFound.TheVariants.{Statement as Found, End, Unended}
use Rattle.mm_text.specs.declared.statements.MmReadEnd.{MmReadEnd}
use Rattle.mm_text.specs.declared.statements.MmReadEnd.TheVariants.{Fault, Memory}

-- the bytes of a token of a text, and of several tokens
abbrev pub word_of : List ℕ → MmToken → Token
word_of bytes t = slice_range bytes t.from t.to

abbrev pub words_of : List ℕ → List MmToken → List Token
words_of bytes tokens = map (word_of bytes) tokens

-- the statement that these tokens make
abbrev pub statement_of : List ℕ → List MmToken → Statement
statement_of bytes [] = statement 0 []
statement_of bytes (t ∷ tokens) = statement t.from (words_of bytes (t ∷ tokens))

-- the statements that are left
abbrev pub statements_left : MmTokens → Statements
statements_left reader = statements_in between (left reader)

-- The tokens make the first statement of `before`, and `behind` has the others. Or there is no
-- statement: the text ends, a statement has no end, or there is a fault.
abbrev pub Finds : List ℕ → Statements → Statements → List MmToken → Result MmFound MmReadEnd
    → Type 0
Finds bytes before behind tokens (Ok Found) =
    before ≡ next_statement (statement_of bytes tokens) behind
Finds bytes before behind tokens (Ok End) = before ≡ no_statement
Finds bytes before behind tokens (Ok (Unended at)) = before ≡ unended at
Finds bytes before behind tokens (Err (Fault f)) = before ≡ bad_statement f
Finds bytes before behind tokens (Err Memory) = Unit {0}

-- a statement that is read takes at least one byte
abbrev pub Passes : ℕ → ℕ → Result MmFound MmReadEnd → Type 0
Passes old new (Ok Found) = old < new
Passes old new (Ok End) = Unit {0}
Passes old new (Ok (Unended at)) = Unit {0}
Passes old new (Err end) = Unit {0}
