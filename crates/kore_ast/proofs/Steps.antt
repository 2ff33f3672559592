-- Taking one token.
use Rattle.std.proofs.Common.{◌≡◌, ◌≤◌, ◌-◌, ℕ, Bool, true, false, List, [], ◌∷◌, Some, refl, ap}
use Rattle.std.proofs.Common.{sym, ◌∙◌, subst, arith, IsTrue, Bor, not, if◌then◌else◌}
use Rattle.kore_text.specs.TokenStream.{KoreToken, Stream, end, no_token_at, token, token_of}
use Rattle.kore_text.specs.Remaining.{size as count}
use Rattle.kore_text.specs.Grammar.{Requirement, placed, any, provided, TakesTokens}
use Rattle.kore_lex.specs.declared.lexer.TokenKind.{TokenKind}
use Rattle.kore_text.specs.declared.tokens.Next.{Next}
use Rattle.kore_text.specs.declared.tokens.Next.TheVariants as next
use Rattle.kore_ast.specs.Known.{first}
use Rattle.kore_ast.specs.Streams.{after, byte_of_next, seen, is_done, has_mark, is_over, head_of}
use Rattle.kore_ast.specs.Streams.{keyword_of, is_declared}
use Rattle.kore_ast.specs.Reading.{Has, behind_comma}
use Rattle.kore_ast.specs.declared.reader.Head.{Head}
use Rattle.kore_ast.specs.declared.reader.Head.TheVariants as head

pub has : (k : List Requirement) (s e : Stream) → TakesTokens k s e → Has k s e
has k s e h = record { takes = h }

-- a token at any place
pub any-step : (t : KoreToken) (k : List Requirement) (s e : Stream) → Has (any t ∷ k) s e
    → (seen s ≡ Some t) × Has k (after s) e
any-step t k (end x) e h = absurd h.takes
any-step t k (no_token_at x) e h = absurd h.takes
any-step t k (token u p s) e h = (ap (λ v. Some v) h.takes.0, record { takes = h.takes.1 })

-- a token at its place
pub placed-step : (p : ℕ) (t : KoreToken) (k : List Requirement) (s e : Stream)
    → Has (placed p t ∷ k) s e → (seen s ≡ Some t) × (p ≡ byte_of_next s) × Has k (after s) e
placed-step p t k (end x) e h = absurd h.takes
placed-step p t k (no_token_at x) e h = absurd h.takes
placed-step p t k (token u q s) e h =
    (ap (λ v. Some v) h.takes.0, sym h.takes.1, record { takes = h.takes.2 })

-- a condition
pub given-step : (b : Bool) (k : List Requirement) (s e : Stream) → Has (provided b ∷ k) s e
    → IsTrue b × Has k s e
given-step b k s e h = (h.takes.0, record { takes = h.takes.1 })

-- the end
pub end-step : (s e : Stream) → Has [] s e → s ≡ e
end-step s e h = h.takes

pub count_after : (s : Stream) → count (after s) ≡ count s - 1
unfolding count
count_after (end e) = refl
count_after (no_token_at e) = refl
count_after (token t p s) = omega arith

pub after_done : (s : Stream) → is_done (seen s) ≡ true → s ≡ after s
after_done (end e) h = refl
after_done (no_token_at e) h = refl
after_done (token t p s) h = let z : false ≡ true = h in absurd (let y : ⊥ = cc in y)

pub some_left : (s : Stream) → is_done (seen s) ≡ false → 1 ≤ count s
unfolding count
some_left (end e) h = let z : true ≡ false = h in absurd (let y : ⊥ = cc in y)
some_left (no_token_at e) h = let z : true ≡ false = h in absurd (let y : ⊥ = cc in y)
some_left (token t p s) h = omega arith

pub marked : (c : ℕ) (s : Stream) → has_mark c (seen s) ≡ true → 1 ≤ count s
marked c (end e) h = let z : false ≡ true = h in absurd (let y : ⊥ = cc in y)
marked c (no_token_at e) h = let z : false ≡ true = h in absurd (let y : ⊥ = cc in y)
marked c (token t p s) h = some_left (token t p s) refl

pub not_over : (c : ℕ) (s : Stream) → is_over c (seen s) ≡ false → 1 ≤ count s
not_over c (end e) h = let z : true ≡ false = h in absurd (let y : ⊥ = cc in y)
not_over c (no_token_at e) h = let z : true ≡ false = h in absurd (let y : ⊥ = cc in y)
not_over c (token t p s) h = some_left (token t p s) refl

pub count_comma : (first : Bool) (c : ℕ) (s : Stream) → count (behind_comma first c s) ≤ count s
count_comma first c s = pick (is_over c (seen s)) first where
  pick : (b f : Bool) → count (if b then after s else (if f then s else after s)) ≤ count s
  pick true f = omega (arith, count_after s)
  pick false true = omega arith
  pick false false = omega (arith, count_after s)

-- a token that begins a pattern exists
pub headed : (s : Stream) (h : Head) → head_of (seen s) ≡ h → (head.Nothing ≡ h → ⊥) → 1 ≤ count s
headed (end e) h e' n = absurd (n e')
headed (no_token_at e) h e' n = absurd (n e')
headed (token t p s) h e' n = some_left (token t p s) refl

pub first-some : (n : Next) (s : Stream) (k : TokenKind) (at : ℕ) (bytes : Bor (List ℕ))
    → n ≡ next.Token k at bytes → 1 ≤ count (first n s)
first-some n s k at bytes e =
    subst (λ m. 1 ≤ count (first m s)) (sym e) (some_left (token (token_of k bytes.now) at s) refl)

pub not-true : (b c : Bool) → c ≡ not b → c ≡ true → b ≡ false
not-true false c e h = refl
not-true true c e h = let z : false ≡ true = sym e ∙ h in absurd (let y : ⊥ = cc in y)

pub not-false : (b c : Bool) → c ≡ not b → c ≡ false → b ≡ true
not-false true c e h = refl
not-false false c e h = let z : true ≡ false = sym e ∙ h in absurd (let y : ⊥ = cc in y)

-- a token that begins a declaration exists
pub keyed : (s : Stream) → is_declared (keyword_of (seen s)) ≡ true → 1 ≤ count s
keyed (end e) h = let z : false ≡ true = h in absurd (let y : ⊥ = cc in y)
keyed (no_token_at e) h = let z : false ≡ true = h in absurd (let y : ⊥ = cc in y)
keyed (token t p s) h = some_left (token t p s) refl
