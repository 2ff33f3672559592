-- The tokens of a closed pattern are written with a space behind each.
use Rattle.std.proofs.Common.{◌≡◌, ℕ, ◌<◌, Bool, true, false, List, [], ◌∷◌, ◌++◌, length, refl, ap, sym, ◌∙◌}
use Rattle.std.proofs.Common.{zero, suc, arith, append_assoc, append-nil, take, ◌-◌}
use Rattle.std.proofs.Common.{length-append}
use Rattle.std.specs.Prelude.{codes, All, Contains, if◌then◌else◌}
use Rattle.mm_text.specs.Bytes.{Token}
use Rattle.mm_text.specs.Statements.{is_whole}
use Rattle.mm_text.specs.Written.{written}
use Rattle.ml_pat.specs.Patterns.{Nullary, Bot, Top, Unary, Not, Next, Ev, Binary, Imp, And, Or}
use Rattle.ml_pat.specs.Patterns.{Equal, Member, App, Sorted, Fun, AtSort, Quantifier, Ex, All as ForAll}
use Rattle.ml_pat.specs.Patterns.{Pattern, nullary, unary, binary, sorted, quantified, var, meta}
use Rattle.ml_pat.specs.Patterns.{constant}
use Rattle.ml_pat.specs.Leaves.{EachLeaf}
use Rattle.mm_proof.specs.Tokens.{pattern_tokens, name_of, nullary_name, unary_name, binary_name}
use Rattle.mm_proof.specs.Tokens.{sorted_name, quantifier_name, bracket}
use Rattle.mm_justify.specs.Stating.{fronts, IsName, closed_over}
use Rattle.mm_check.specs.JustifiedLines.{spaced, pattern_line}

-- no token ends a statement
abbrev pub StayInside : List Token → Type 0
StayInside [] = Unit {0}
StayInside (t ∷ ts) = (is_whole t ≡ false) × StayInside ts

inside-append : (ts us : List Token) → StayInside ts → StayInside us → StayInside (ts ++ us)
inside-append [] us h k = k
inside-append (t ∷ ts) us h k = (h.0, inside-append ts us h.1 k)

name_inside : (t : Token) → IsName t → is_whole t ≡ false
name_inside t name = ap is_whole name.is ∙ go name.front name.is_front
  where
    go : (front : Token) → Contains fronts front → is_whole (front ++ name.rest) ≡ false
    go front (zero, lt, at) = ap (λ (f : Token). is_whole (f ++ name.rest)) (sym at)
    go front (suc zero, lt, at) = ap (λ (f : Token). is_whole (f ++ name.rest)) (sym at)
    go front (suc (suc zero), lt, at) = ap (λ (f : Token). is_whole (f ++ name.rest)) (sym at)
    go front (suc (suc (suc k)), lt, at) = absurd (omega (arith, lt))

named_inside : (names : List Token) (i : ℕ) → All IsName names → i < length names
    → is_whole (name_of names i) ≡ false
named_inside names i are lt = name_inside (name_of names i) (are i [] lt)

-- the tokens of a closed pattern
tokens_inside : (names : List Token) (p : Pattern) → All IsName names
    → EachLeaf (closed_over names) p → StayInside (pattern_tokens names p)
tokens_inside names (nullary Bot) are closed = (refl, tt)
tokens_inside names (nullary Top) are closed = (refl, tt)
tokens_inside names (unary c p) are closed = (
  refl,
  (
    refl,
    inside-append (pattern_tokens names p) bracket
        (tokens_inside names p are closed) (refl, tt),
  ),
)
tokens_inside names (binary c p q) are closed = (
  refl,
  (
    refl,
    inside-append (pattern_tokens names p) (pattern_tokens names q ++ bracket)
        (tokens_inside names p are closed.0)
        (inside-append (pattern_tokens names q) bracket (tokens_inside names q are closed.1)
        (refl, tt)),
  ),
)
tokens_inside names (sorted c p s) are closed = (
  refl,
  (
    refl,
    inside-append (pattern_tokens names p) (name_of names s ∷ bracket)
        (tokens_inside names p are closed.0)
        (named_inside names s are closed.1.0, (refl, tt)),
  ),
)
tokens_inside names (quantified c x s p) are closed = absurd closed.1.0
tokens_inside names (var x) are closed = absurd closed
tokens_inside names (meta i) are closed = absurd closed
tokens_inside names (constant c) are closed = (named_inside names c are closed.0, tt)

-- there is a first token
abbrev IsSome : List Token → Type 0
IsSome [] = ⊥
IsSome (t ∷ ts) = Unit {0}

some_token : (names : List Token) (p : Pattern) → IsSome (pattern_tokens names p)
some_token names (nullary c) = tt
some_token names (unary c p) = tt
some_token names (binary c p q) = tt
some_token names (sorted c p s) = tt
some_token names (quantified c x s p) = tt
some_token names (var x) = tt
some_token names (meta i) = tt
some_token names (constant c) = tt

spaced_is : (ts : List Token) → IsSome ts → StayInside ts → written ts ≡ spaced ts ++ 32 ∷ []
spaced_is [] some inside = absurd some
spaced_is (t ∷ []) some inside =
    ap (λ (b : Bool). (t ++ (if b then 10 else 32) ∷ []) ++ []) inside.0
    ∙ append-nil (t ++ 32 ∷ [])
spaced_is (t ∷ (u ∷ ts)) some inside =
    ap (λ (b : Bool). (t ++ (if b then 10 else 32) ∷ []) ++ written (u ∷ ts)) inside.0
    ∙ append_assoc t (32 ∷ []) (written (u ∷ ts))
    ∙ ap (λ (text : List ℕ). t ++ 32 ∷ text) (spaced_is (u ∷ ts) tt inside.1)
    ∙ sym (append_assoc t (32 ∷ spaced (u ∷ ts)) (32 ∷ []))

but_last : (xs : List ℕ) (y : ℕ) → take (length (xs ++ y ∷ []) - 1) (xs ++ y ∷ []) ≡ xs
but_last [] y = refl
but_last (x ∷ xs) y =
    ap (λ k. take k (x ∷ (xs ++ y ∷ []))) {y = suc (length (xs ++ y ∷ []) - 1)}
    (omega (arith, length-append xs (y ∷ [])))
    ∙ ap (λ (l : List ℕ). x ∷ l) (but_last xs y)

-- what is written of a closed pattern, up to its last space
pub pattern_spaced : (names : List Token) (p : Pattern) → All IsName names
    → EachLeaf (closed_over names) p
    → written (pattern_tokens names p) ≡ spaced (pattern_tokens names p) ++ 32 ∷ []
pattern_spaced names p are closed =
    spaced_is (pattern_tokens names p) (some_token names p) (tokens_inside names p are closed)

-- the last space is cut off, and the line is ended
pub line_ended : (before after : List ℕ) (names : List Token) (p : Pattern) → All IsName names
    → EachLeaf (closed_over names) p → after ≡ before ++ written (pattern_tokens names p ++ [])
    → take (length after - 1) after ++ 10 ∷ [] ≡ before ++ pattern_line names p
line_ended before after names p are closed is =
    let text : List ℕ = spaced (pattern_tokens names p) in
    let all : after ≡ (before ++ text) ++ 32 ∷ [] =
    is ∙ ap (λ (ts : List Token). before ++ written ts) (append-nil (pattern_tokens names p))
    ∙ ap (λ (bytes : List ℕ). before ++ bytes) (pattern_spaced names p are closed)
    ∙ sym (append_assoc before text (32 ∷ [])) in
    ap (λ (bytes : List ℕ). take (length bytes - 1) bytes ++ 10 ∷ []) all
    ∙ ap (λ (bytes : List ℕ). bytes ++ 10 ∷ []) (but_last (before ++ text) 32)
    ∙ append_assoc before text (10 ∷ [])
