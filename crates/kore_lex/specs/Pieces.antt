-- What is at the head of the bytes of a Kore text: white space, a comment, a token, or something
-- that begins none of these (Kore language document, lexical structure). Each token is the longest
-- at its place.
use Rattle.std.specs.Prelude.{ℕ, zero, suc, ◌+◌, ◌-◌, Bool, not, ◌||◌, ◌&&◌, List, [], ◌∷◌, length}
use Rattle.std.specs.Prelude.{take, take_while, nat_le, ◌==◌, if◌then◌else◌, Option, Some, None}
use Rattle.std.specs.Str.{is_utf8}
use Rattle.kore_lex.specs.Escapes.{further, bad_at}
use Rattle.kore_lex.specs.declared.lexer.TokenKind.{TokenKind}
use Rattle.kore_lex.specs.declared.lexer.TokenKind.TheVariants.{Ident, SetIdent, Builtin, Text}
use Rattle.kore_lex.specs.declared.lexer.TokenKind.TheVariants.{Punct, Assign}
use Rattle.kore_lex.specs.declared.piece.Piece.{Piece}
use Rattle.kore_lex.specs.declared.piece.Piece.TheVariants.{Nothing, Gap, Whole, Bad}

-- space, tab, CR, LF
abbrev pub is_space : ℕ → Bool
is_space c = (c == 32) || (c == 9) || (c == 13) || (c == 10)

-- an ASCII letter
abbrev pub is_letter : ℕ → Bool
is_letter c = (nat_le 65 c && nat_le c 90) || (nat_le 97 c && nat_le c 122)

-- a byte that may follow the first letter of a name: a letter, a digit, `'` or `-`
abbrev pub is_word : ℕ → Bool
is_word c = is_letter c || (nat_le 48 c && nat_le c 57) || (c == 39) || (c == 45)

-- one of { } ( ) [ ] , :
abbrev pub is_mark : ℕ → Bool
is_mark c =
    (c == 123) || (c == 125) || (c == 40) || (c == 41) || (c == 91) || (c == 93) || (c == 44)
    || (c == 58)

-- how many bytes of a name there are at the head, after its first letter
abbrev pub word_len : List ℕ → ℕ
word_len bs = length (take_while is_word bs)

-- how many bytes there are before the end of the line (LF) or of the text
abbrev pub line_len : List ℕ → ℕ
line_len bs = length (take_while (λ c. not (c == 10)) bs)

-- the two bytes are `*/`
abbrev pub ends_block : ℕ → ℕ → Bool
ends_block c d = (c == 42) && (d == 47)

-- how many bytes there are up to and including the first `*/`
unfoldable pub block_len : List ℕ → Option ℕ
block_len [] = None
block_len (c ∷ []) = None
block_len (c ∷ d ∷ rest) = if ends_block c d then Some 2 else further 1 (block_len (d ∷ rest))

-- how many bytes after this one belong to it in a string: one after a backslash, else none
abbrev pub passed : ℕ → ℕ
passed c = if c == 92 then 1 else 0

-- how many bytes there are up to and including the quote that ends a string; the first argument is
-- how many bytes at the head follow a backslash
unfoldable pub quote_len : ℕ → List ℕ → Option ℕ
quote_len n [] = None
quote_len (suc n) (c ∷ cs) = further 1 (quote_len n cs)
quote_len zero (c ∷ cs) = if c == 34 then Some 1 else further 1 (quote_len (passed c) cs)

-- after a slash: `//` up to the end of the line, or `/*` up to and including the first `*/` after
-- it
abbrev pub block : Option ℕ → Piece
block None = Bad 0
block (Some n) = Gap (n + 2)

abbrev pub comment : List ℕ → Piece
comment [] = Bad 0
comment (c ∷ cs) =
    if c == 47 then Gap (line_len cs + 2) else (if c == 42 then block (block_len cs) else Bad 0)

-- a string, by the bytes between its quotes. If they are not UTF-8, the fault is at the opening
-- quote. If an escape is bad, the fault is at its backslash.
abbrev pub by_escapes : List ℕ → Option ℕ → Piece
by_escapes body None = Whole Text (length body + 2)
by_escapes body (Some n) = Bad (n + 1)

abbrev pub body_piece : List ℕ → Piece
body_piece body = if is_utf8 body then by_escapes body (bad_at 0 body) else Bad 0

-- a string, after its opening quote
abbrev pub by_end : List ℕ → Option ℕ → Piece
by_end bs None = Bad 0
by_end bs (Some n) = body_piece (take (n - 1) bs)

abbrev pub string_piece : List ℕ → Piece
string_piece bs = by_end bs (quote_len 0 bs)

-- a name of this kind, after its first byte `@` or `\`
abbrev pub name_piece : TokenKind → List ℕ → Piece
name_piece k [] = Bad 0
name_piece k (c ∷ cs) = if is_letter c then Whole k (word_len cs + 2) else Bad 0

-- after a colon
abbrev pub colon : List ℕ → Piece
colon [] = Whole (Punct 58) 1
colon (c ∷ cs) = if c == 61 then Whole Assign 2 else Whole (Punct 58) 1

-- the piece at the head, by its first byte
unfoldable pub piece : List ℕ → Piece
piece [] = Nothing
piece (c ∷ cs) =
    if is_space c then Gap 1
    else (if is_letter c then Whole Ident (word_len cs + 1)
    else (if c == 47 then comment cs
    else (if c == 34 then string_piece cs
    else (if c == 64 then name_piece SetIdent cs
    else (if c == 92 then name_piece Builtin cs
    else (if c == 58 then colon cs
    else (if is_mark c then Whole (Punct c) 1
    else Bad 0)))))))
