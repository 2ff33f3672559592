-- Which bytes as a whole are a token of a kind, and that a token is the longest at its place (Kore
-- language document, lexical structure).
use Rattle.std.specs.Prelude.{◌≡◌, ◌≤◌, ◌-◌, ℕ, true, List, [], ◌∷◌, length, take, Some, None}
use Rattle.kore_lex.specs.declared.lexer.TokenKind.{TokenKind}
use Rattle.kore_lex.specs.declared.lexer.TokenKind.TheVariants.{Ident, SetIdent, Builtin, Text}
use Rattle.kore_lex.specs.declared.lexer.TokenKind.TheVariants.{Punct, Assign, End}
use Rattle.kore_lex.specs.Pieces.{is_letter, is_word, is_mark, quote_len, piece}
use Rattle.std.specs.Str.{IsUtf8}
use Rattle.kore_lex.specs.Escapes.{bad_at}
use Rattle.kore_lex.specs.declared.piece.Piece.TheVariants.{Whole}

-- the bytes may be between quotes: they are UTF-8, and each backslash begins an escape
pub record IsInner (bs : List ℕ) : Type 0 where
  pub utf8 : IsUtf8 bs
  pub escapes : bad_at 0 bs ≡ None

-- the bytes are one whole string
abbrev pub IsString : List ℕ → Type 0
IsString bs = piece bs ≡ Whole Text (length bs)

-- each byte is a letter, a digit, `'` or `-`
abbrev pub AllWord : List ℕ → Type 0
AllWord [] = Unit {0}
AllWord (c ∷ cs) = (is_word c ≡ true) × AllWord cs

-- an identifier: a letter, and then letters, digits, `'` and `-`
abbrev pub IsName : List ℕ → Type 0
IsName [] = ⊥
IsName (c ∷ cs) = (is_letter c ≡ true) × AllWord cs

-- the bytes are one token of the kind; in a string, the quote that ends it is the last byte
abbrev pub IsToken : TokenKind → List ℕ → Type 0
IsToken k [] = ⊥
IsToken Ident (c ∷ cs) = IsName (c ∷ cs)
IsToken SetIdent (c ∷ cs) = (c ≡ 64) × IsName cs
IsToken Builtin (c ∷ cs) = (c ≡ 92) × IsName cs
IsToken Text (c ∷ cs) =
    (c ≡ 34) × (quote_len 0 cs ≡ Some (length cs)) × IsInner (take (length cs - 1) cs)
IsToken (Punct d) (c ∷ cs) = (c ≡ d) × (is_mark c ≡ true) × (cs ≡ [])
IsToken Assign (c ∷ cs) = (c ≡ 58) × (cs ≡ 61 ∷ [])
IsToken End (c ∷ cs) = ⊥

-- the first `n` bytes are a token of the kind `k`, and no longer prefix is a token of any kind
abbrev pub IsLongest : TokenKind → ℕ → List ℕ → Type 0
IsLongest k n bs = IsToken k (take n bs)
    × ((j : TokenKind) (m : ℕ) → m ≤ length bs → IsToken j (take m bs) → m ≤ n)
