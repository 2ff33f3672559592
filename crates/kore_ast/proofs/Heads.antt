-- What comes next, and that names are UTF-8.
use Rattle.std.proofs.Common.{◌≡◌, ◌<◌, ℕ, true, List, [], ◌∷◌, drop, refl, sym, arith}
use Rattle.std.proofs.lemmas.Str.{IsUtf8-from_ascii, is_utf8-from_IsUtf8}
use Rattle.std.proofs.lemmas.Str.Ascii.{IsAscii-nil, IsAscii-cons}
use Rattle.std.specs.Str.{IsAscii, is_utf8, chars}
use Rattle.std.proofs.lemmas.Bool.Decides.{nat_tests}
use Rattle.kore_lex.specs.declared.lexer.TokenKind.TheVariants.{Ident, SetIdent, Builtin, Text}
use Rattle.kore_lex.specs.declared.lexer.TokenKind.TheVariants.{Punct, Assign, End}
use Rattle.kore_lex.specs.Pieces.{is_letter, is_word, piece, quote_len}
use Rattle.kore_lex.specs.Escapes.{bad_at}
use Rattle.kore_lex.specs.Tokens.{IsToken, IsName, AllWord, IsString}
use Rattle.kore_text.specs.declared.tokens.Next.{Next}
use Rattle.kore_text.specs.declared.tokens.Next.TheVariants as next
use Rattle.kore_text.specs.TokenStream.{Stream}
use Rattle.kore_text.specs.Remaining.{Comes}
use Rattle.kore_ast.specs.Known.{name_bytes, set_name_bytes, string_bytes_of, first}

pub comes_first : (n : Next) (s r : Stream) → Comes n s r → first n r ≡ s
comes_first (next.Token kind at bytes) s r h = sym h.0
comes_first (next.End at) s r h = sym h
comes_first (next.Fault at) s r h = sym h

word-ascii : (c : ℕ) → is_word c ≡ true → c < 128
word-ascii c h = grind (arith, nat_tests)

letter-ascii : (c : ℕ) → is_letter c ≡ true → c < 128
letter-ascii c h = grind (arith, nat_tests)

words-ascii : (cs : List ℕ) → AllWord cs → IsAscii cs
words-ascii [] h = IsAscii-nil
words-ascii (c ∷ cs) h = IsAscii-cons c cs (word-ascii c h.0) (words-ascii cs h.1)

name-ascii : (cs : List ℕ) → IsName cs → IsAscii cs
name-ascii [] h = absurd h
name-ascii (c ∷ cs) h = IsAscii-cons c cs (letter-ascii c h.0) (words-ascii cs h.1)

-- an identifier is UTF-8
name-text : (bs : List ℕ) → IsToken Ident bs → is_utf8 bs ≡ true
name-text [] h = absurd h
name-text (c ∷ cs) h = is_utf8-from_IsUtf8 _ (IsUtf8-from_ascii (c ∷ cs) (name-ascii (c ∷ cs) h))

-- the identifier of a set variable is UTF-8 after its first byte
set-text : (bs : List ℕ) → IsToken SetIdent bs → is_utf8 (drop 1 bs) ≡ true
set-text [] h = absurd h
set-text (c ∷ cs) h = is_utf8-from_IsUtf8 _ (IsUtf8-from_ascii cs (name-ascii cs h.1))

nothing-utf8 : is_utf8 [] ≡ true
nothing-utf8 = is_utf8-from_IsUtf8 [] (IsUtf8-from_ascii [] IsAscii-nil)

pub comes_name : (n : Next) (s r : Stream) → Comes n s r → is_utf8 (name_bytes n) ≡ true
comes_name (next.Token Ident at bytes) s r h = name-text bytes.now h.2
comes_name (next.Token SetIdent at bytes) s r h = nothing-utf8
comes_name (next.Token Builtin at bytes) s r h = nothing-utf8
comes_name (next.Token Text at bytes) s r h = nothing-utf8
comes_name (next.Token (Punct c) at bytes) s r h = nothing-utf8
comes_name (next.Token Assign at bytes) s r h = nothing-utf8
comes_name (next.Token End at bytes) s r h = nothing-utf8
comes_name (next.End at) s r h = nothing-utf8
comes_name (next.Fault at) s r h = nothing-utf8

pub comes_set_name : (n : Next) (s r : Stream) → Comes n s r → is_utf8 (set_name_bytes n) ≡ true
comes_set_name (next.Token Ident at bytes) s r h = nothing-utf8
comes_set_name (next.Token SetIdent at bytes) s r h = set-text bytes.now h.2
comes_set_name (next.Token Builtin at bytes) s r h = nothing-utf8
comes_set_name (next.Token Text at bytes) s r h = nothing-utf8
comes_set_name (next.Token (Punct c) at bytes) s r h = nothing-utf8
comes_set_name (next.Token Assign at bytes) s r h = nothing-utf8
comes_set_name (next.Token End at bytes) s r h = nothing-utf8
comes_set_name (next.End at) s r h = nothing-utf8
comes_set_name (next.Fault at) s r h = nothing-utf8

empty-string : IsString (34 ∷ 34 ∷ [])
unfolding piece quote_len is_utf8 chars bad_at
empty-string = refl

pub comes_string : (n : Next) (s r : Stream) → Comes n s r → IsString (string_bytes_of n)
comes_string (next.Token Ident at bytes) s r h = empty-string
comes_string (next.Token SetIdent at bytes) s r h = empty-string
comes_string (next.Token Builtin at bytes) s r h = empty-string
comes_string (next.Token Text at bytes) s r h = h.3 refl
comes_string (next.Token (Punct c) at bytes) s r h = empty-string
comes_string (next.Token Assign at bytes) s r h = empty-string
comes_string (next.Token End at bytes) s r h = empty-string
comes_string (next.End at) s r h = empty-string
comes_string (next.Fault at) s r h = empty-string
