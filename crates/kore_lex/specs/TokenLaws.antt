-- Laws on the tokens of a text.
use Rattle.std.specs.Prelude.{◌≡◌, ◌≢◌, ℕ, ◌+◌, ◌-◌, ◌≤◌, true, List, [], ◌∷◌, length, take, drop}
use Rattle.std.specs.Prelude.{◌⊎◌, Option, Some, None}
use Rattle.std.specs.Str.{IsUtf8}
use Rattle.kore_lex.specs.declared.lexer.TokenKind.{TokenKind}
use Rattle.kore_lex.specs.Escapes.{bad_at}
use Rattle.kore_lex.specs.Pieces.{is_space, line_len, block_len, quote_len}
use Rattle.kore_lex.specs.Lexed.{Cut, cut_end, cut_fault, cut_token, lexed}
use Rattle.kore_lex.specs.Tokens.{IsToken, IsLongest}

-- the bytes of each token of the stream are one token of its kind
abbrev pub AreTokens : List ℕ → Cut → Type 0
AreTokens text (cut_end n) = Unit {0}
AreTokens text (cut_fault n) = Unit {0}
AreTokens text (cut_token k from to s) =
    IsToken k (take (to - from) (drop from text)) × AreTokens text s

abbrev pub token_count : Cut → ℕ
token_count (cut_end n) = 0
token_count (cut_fault n) = 0
token_count (cut_token k from to s) = token_count s + 1

-- in each text, the bytes of each token are one token of its kind
abbrev pub EachIsToken : Type 0
EachIsToken = (text : List ℕ) → AreTokens text (lexed 0 text)

-- a text has no more tokens than bytes
abbrev pub TokensAreFew : Type 0
TokensAreFew = (text : List ℕ) → token_count (lexed 0 text) ≤ length text

-- the given count of bytes at the head is one byte of white space or one comment: `//` up to the
-- end of the line, or `/*` up to and including the first `*/` after it
pub data IsBlank : ℕ → List ℕ → Type 0 where
  white : (c : ℕ) (cs : List ℕ) → is_space c ≡ true → IsBlank 1 (c ∷ cs)
  line_comment : (cs : List ℕ) → IsBlank (line_len cs + 2) (47 ∷ 47 ∷ cs)
  block_comment : (n : ℕ) (cs : List ℕ) → block_len cs ≡ Some n → IsBlank (n + 2) (47 ∷ 42 ∷ cs)

-- the given count of bytes at the head is a sequence of white space and comments
pub data IsGap : ℕ → List ℕ → Type 0 where
  nothing : (bs : List ℕ) → IsGap 0 bs
  blank_then : (m n : ℕ) (bs : List ℕ) → IsBlank m bs → IsGap n (drop m bs) → IsGap (m + n) bs

-- no bytes at the head are a token
abbrev pub NoToken : List ℕ → Type 0
NoToken bs = (k : TokenKind) (n : ℕ) → n ≤ length bs → IsToken k (take n bs) → ⊥

-- a string begins at the head. It has an end and is UTF-8. Its first backslash that begins no
-- escape comes after the given count of bytes.
pub data HasBadEscape : ℕ → List ℕ → Type 0 where
  bad_escape : (i m : ℕ) (cs : List ℕ) → quote_len 0 cs ≡ Some (m + 1) → IsUtf8 (take m cs)
      → bad_at 0 (take m cs) ≡ Some i → HasBadEscape (i + 1) (34 ∷ cs)

-- a fault that is reported `n` bytes after the head. The head begins no token, no white space and
-- no comment. If it begins a string as in `HasBadEscape`, the fault is at the backslash of the bad
-- escape. If not, the fault is at the head, so `n` is 0.
pub record IsFault (n : ℕ) (bs : List ℕ) : Type 0 where
  pub some : bs ≢ []
  pub no_token : NoToken bs
  pub no_blank : (m : ℕ) → IsBlank m bs → ⊥
  pub place : ((n ≡ 0) × ((m : ℕ) → HasBadEscape m bs → ⊥)) ⊎ HasBadEscape n bs

-- the bytes at place `at` are white space, comments and the tokens of the stream, in order, and
-- nothing else, up to their end or to a fault. Each token is the longest at its place.
abbrev pub Covers : ℕ → List ℕ → Cut → Type 0
Covers at bs (cut_end e) = IsGap (length bs) bs × (e ≡ at + length bs)
Covers at bs (cut_fault e) = (m n : ℕ) × IsGap m bs × IsFault n (drop m bs) × (e ≡ at + m + n)
Covers at bs (cut_token k from to s) =
    (m n : ℕ) × IsGap m bs × (from ≡ at + m) × (to ≡ from + n) × (n ≤ length (drop m bs))
    × IsLongest k n (drop m bs)
    × Covers to (drop n (drop m bs)) s

-- the tokens of a text cover it
abbrev pub TokensCover : Type 0
TokensCover = (text : List ℕ) → Covers 0 text (lexed 0 text)

-- the byte of the fault at which the stream ends, if it ends at a fault
abbrev pub fault_of : Cut → Option ℕ
fault_of (cut_end n) = None
fault_of (cut_fault n) = Some n
fault_of (cut_token k from to s) = fault_of s

-- no token starts at a fault. The byte that the fault names is that place, or a byte inside the
-- string that begins there.
abbrev pub NoTokenAtFault : Type 0
NoTokenAtFault = (text : List ℕ) (e : ℕ) → fault_of (lexed 0 text) ≡ Some e
    → (at n : ℕ) × IsFault n (drop at text) × (e ≡ at + n)
