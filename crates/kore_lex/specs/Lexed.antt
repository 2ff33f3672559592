-- The tokens of a text. At each place the piece at the head is cut off, and the rest is cut in the
-- same way.
use Rattle.std.specs.Prelude.{ℕ, ◌+◌, zero, suc, List, length, drop}
use Rattle.kore_lex.specs.declared.lexer.TokenKind.{TokenKind}
use Rattle.kore_lex.specs.declared.piece.Piece.{Piece}
use Rattle.kore_lex.specs.declared.piece.Piece.TheVariants.{Nothing, Gap, Whole, Bad}
use Rattle.kore_lex.specs.Pieces.{piece}

-- tokens in order, each with its first byte and the byte after it; then the end of the text or the
-- byte of a fault
pub data Cut : Type 0 where
  cut_end : ℕ → Cut
  cut_fault : ℕ → Cut
  cut_token : TokenKind → ℕ → ℕ → Cut → Cut

-- the stream of bytes at place `at` that begin with this piece; `more` is the stream of the rest
abbrev pub onward : (ℕ → List ℕ → Cut) → ℕ → List ℕ → Piece → Cut
onward more at bs Nothing = cut_end at
onward more at bs (Gap n) = more (at + n) (drop n bs)
onward more at bs (Whole k n) = cut_token k at (at + n) (more (at + n) (drop n bs))
onward more at bs (Bad n) = cut_fault (at + n)

-- the stream of bytes at place `at`, cut into at most as many pieces as the first argument says
unfoldable pub lexed_by : ℕ → ℕ → List ℕ → Cut
lexed_by zero at bs = cut_end at
lexed_by (suc n) at bs = onward (lexed_by n) at bs (piece bs)

-- the tokens of bytes at place `at`; there are no more pieces than bytes
unfoldable pub lexed : ℕ → List ℕ → Cut
lexed at bs = lexed_by (length bs) at bs
