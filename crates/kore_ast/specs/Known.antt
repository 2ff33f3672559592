-- What is known of the next token. Only the clauses of private functions cite this.
use Rattle.std.specs.Prelude.{ℕ, List, [], ◌∷◌, drop}
use Rattle.kore_lex.specs.declared.lexer.TokenKind.TheVariants.{Ident, SetIdent, Text}
use Rattle.kore_text.specs.declared.tokens.Next.{Next}
use Rattle.kore_text.specs.declared.tokens.Next.TheVariants as next
use Rattle.kore_text.specs.TokenStream.{token_of, Stream, end, no_token_at, token}

-- the bytes of an identifier; empty for any other token
abbrev pub name_bytes : Next → List ℕ
name_bytes (next.Token Ident at bytes) = bytes.now
name_bytes _ = []

-- the bytes of the identifier of a set variable, after its `@`; empty for any other token
abbrev pub set_name_bytes : Next → List ℕ
set_name_bytes (next.Token SetIdent at bytes) = drop 1 bytes.now
set_name_bytes _ = []

-- the bytes of a string with its quotes; for any other token those of `""`
abbrev pub string_bytes_of : Next → List ℕ
string_bytes_of (next.Token Text at bytes) = bytes.now
string_bytes_of _ = 34 ∷ 34 ∷ []

-- the stream that begins with this token, end or fault; after a token the stream goes on with `s`
abbrev pub first : Next → Stream → Stream
first (next.Token kind at bytes) s = token (token_of kind bytes.now) at s
first (next.End at) s = end at
first (next.Fault at) s = no_token_at at
