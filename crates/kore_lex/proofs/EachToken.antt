-- The bytes of each token are a token of its kind, and there are no more tokens than bytes.
use Rattle.std.proofs.Common.{◌≡◌, ◌≤◌, ◌+◌, ◌-◌, ℕ, zero, suc, List, length, take, drop, refl, sym}
use Rattle.std.proofs.Common.{subst, arith}
use Rattle.std.proofs.lemmas.List.{drop-drop}
use Rattle.kore_lex.specs.declared.piece.Piece.{Piece}
use Rattle.kore_lex.specs.declared.piece.Piece.TheVariants.{Nothing, Gap, Whole, Bad}
use Rattle.kore_lex.specs.Pieces.{piece}
use Rattle.kore_lex.specs.Lexed.{Cut, onward, lexed_by, lexed}
use Rattle.kore_lex.specs.Tokens.{IsToken}
use Rattle.kore_lex.specs.TokenLaws.{AreTokens, token_count, EachIsToken, TokensAreFew}
use Rattle.kore_lex.proofs.Longest.{piece-longest}

onward-tokens : (text : List ℕ) (more : ℕ → List ℕ → Cut) (at : ℕ) (p : Piece)
    → piece (drop at text) ≡ p → ((m : ℕ) → AreTokens text (more (at + m) (drop m (drop at text))))
    → AreTokens text (onward more at (drop at text) p)
onward-tokens text more at Nothing e h = tt
onward-tokens text more at (Gap m) e h = h m
onward-tokens text more at (Whole k m) e h =
    let n : m ≡ at + m - at = omega arith in (
      subst (λ (j : ℕ). IsToken k (take j (drop at text))) n (piece-longest (drop at text) k m e).0,
      h m,
    )
onward-tokens text more at (Bad m) e h = tt

lexed_by-tokens : (n at : ℕ) (text : List ℕ) → AreTokens text (lexed_by n at (drop at text))
unfolding lexed_by
lexed_by-tokens zero at text = tt
lexed_by-tokens (suc n) at text =
    onward-tokens text (lexed_by n) at (piece (drop at text)) refl
    (λ m. subst (λ (bs : List ℕ). AreTokens text (lexed_by n (at + m) bs))
    (sym (drop-drop m at text)) (lexed_by-tokens n (at + m) text))

pub each-is-token : EachIsToken
unfolding lexed
each-is-token text = lexed_by-tokens (length text) 0 text

onward-few : (more : ℕ → List ℕ → Cut) (b at : ℕ) (bs : List ℕ) (p : Piece)
    → ((a : ℕ) (cs : List ℕ) → token_count (more a cs) ≤ b)
    → token_count (onward more at bs p) ≤ b + 1
onward-few more b at bs Nothing h = omega arith
onward-few more b at bs (Gap n) h = omega (arith, h (at + n) (drop n bs))
onward-few more b at bs (Whole k n) h = omega (arith, h (at + n) (drop n bs))
onward-few more b at bs (Bad n) h = omega arith

lexed_by-few : (n at : ℕ) (bs : List ℕ) → token_count (lexed_by n at bs) ≤ n
unfolding lexed_by
lexed_by-few zero at bs = omega arith
lexed_by-few (suc n) at bs =
    let h : token_count (onward (lexed_by n) at bs (piece bs)) ≤ n + 1 =
    onward-few (lexed_by n) n at bs (piece bs) (λ a cs. lexed_by-few n a cs) in
    omega arith

pub tokens-few : TokensAreFew
unfolding lexed
tokens-few text = lexed_by-few (length text) 0 text
