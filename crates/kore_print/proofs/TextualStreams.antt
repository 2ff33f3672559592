-- The tokens of a text can occur in a text.
use Rattle.std.proofs.Common.{◌≡◌, ◌≢◌, ◌-◌, ℕ, true, List, [], ◌∷◌, take, drop, refl, sym, subst}
use Rattle.kore_lex.specs.declared.lexer.TokenKind.{TokenKind}
use Rattle.kore_lex.specs.declared.lexer.TokenKind.TheVariants as kind
use Rattle.kore_lex.specs.Pieces.{is_mark}
use Rattle.kore_lex.specs.Lexed.{lexed, Cut, cut_end, cut_fault, cut_token}
use Rattle.kore_lex.specs.Tokens.{IsToken, IsString}
use Rattle.kore_lex.proofs.AllTokens.{AllRead, all-read, string-utf8}
use Rattle.kore_text.specs.TokenStream.{Stream, end, no_token_at, token, token_of, named_tokens}
use Rattle.kore_text.specs.TokenStream.{token_stream}
use Rattle.kore_print.specs.PrintLaws.{IsTextual}
use Rattle.kore_print.proofs.TokenPieces.{named-token}

-- each token can occur in a text
abbrev pub AllTextual : Stream → Type 0
AllTextual (end e) = Unit {0}
AllTextual (no_token_at e) = Unit {0}
AllTextual (token t p s) = IsTextual t × AllTextual s

token-textual : (k : TokenKind) (bs : List ℕ) → IsToken k bs → (k ≡ kind.Text → IsString bs)
    → IsTextual (token_of k bs)
token-textual k [] h s = absurd h
token-textual kind.Ident (c ∷ cs) h s = h
token-textual kind.SetIdent (c ∷ cs) h s = h.1
token-textual kind.Builtin (c ∷ cs) h s = tt
token-textual kind.Text (c ∷ cs) h s = string-utf8 (c ∷ cs) (s refl)
token-textual (kind.Punct d) (c ∷ cs) h s = subst (λ (x : ℕ). is_mark x ≡ true) h.0 h.1
token-textual kind.Assign (c ∷ cs) h s = tt
token-textual kind.End (c ∷ cs) h s = absurd h

no-end : (bs : List ℕ) → IsToken kind.End bs → ⊥
no-end [] h = h
no-end (c ∷ cs) h = h

named-textual : (text : List ℕ) (s : Cut) → AllRead text s → AllTextual (named_tokens text s)
named-textual text (cut_end e) h = tt
named-textual text (cut_fault e) h = tt
named-textual text (cut_token k from to s) h =
    let bs : List ℕ = take (to - from) (drop from text) in
    let no : k ≢ kind.End = λ z. no-end bs (subst (λ (j : TokenKind). IsToken j bs) z h.0.0) in
    subst AllTextual (sym (named-token text k from to s no))
    (token-textual k bs h.0.0 h.0.1, named-textual text s h.1)

pub tokens-textual : (bytes : List ℕ) → AllTextual (token_stream bytes)
unfolding token_stream
tokens-textual bytes = named-textual bytes (lexed 0 bytes) (all-read bytes)
