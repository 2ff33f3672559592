-- What is left of a text while its tokens are taken.
use Rattle.std.specs.Prelude.{◌≡◌, ◌≢◌, ℕ, suc, zero}
use Rattle.kore_lex.specs.declared.lexer.TokenKind.TheVariants.{End, Text}
use Rattle.kore_lex.specs.Tokens.{IsToken, IsString}
use Rattle.kore_lex.specs.Unread.{Unread, left as cut_left}
use Rattle.kore_text.specs.TokenStream.{Stream, end, no_token_at, token, token_of, named_tokens}
use Rattle.kore_text.specs.declared.tokens.Next.{Next}
use Rattle.kore_text.specs.declared.tokens.Next.TheVariants as next

-- the tokens that are left
unfoldable pub left : Unread → Stream
left u = named_tokens u.text (cut_left u)

-- the returned value is what comes first in the stream `s`; after a token, `r` is what follows it
abbrev pub Comes : Next → Stream → Stream → Type 0
Comes (next.Token kind at bytes) s r =
    (s ≡ token (token_of kind bytes.now) at r) × (kind ≢ End) × IsToken kind bytes.now
    × (kind ≡ Text → IsString bytes.now)
Comes (next.End at) s r = s ≡ end at
Comes (next.Fault at) s r = s ≡ no_token_at at

-- how many tokens the stream has
unfoldable pub size : Stream → ℕ
size (end e) = zero
size (no_token_at e) = zero
size (token t p s) = suc (size s)
