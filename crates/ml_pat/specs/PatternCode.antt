-- A pattern as a list of tokens, in postfix order, and the way back. The proofs use this to show
-- that patterns differ.
use Rattle.std.specs.Prelude.{◌≡◌, refl, ℕ, ◌==◌, if◌then◌else◌, List, [], ◌∷◌, ◌⊎◌}
use Rattle.std.proofs.Common.{inl, inr, ◌∙◌, ap}
use Rattle.std.specs.Coded.{Coded, code_by, coded×, coded⊎, coded_ℕ, coded_list}
use Rattle.ml_pat.specs.Patterns.{Pattern, bot, top, imp, not, and, or, equal, member, fun, ex, all}
use Rattle.ml_pat.specs.Patterns.{app, at_sort, next, ev, var, meta, constant}

-- A token is that of a form with no part, with one part, or with two parts. It has the number of
-- the form among those, and the other numbers in the form.
abbrev Token : Type 0
Token = (ℕ × ℕ) ⊎ ((ℕ × (ℕ × ℕ)) ⊎ ℕ)

abbrev token_code : Coded Token
token_code =
    coded⊎ (coded× coded_ℕ coded_ℕ) (coded⊎ (coded× coded_ℕ (coded× coded_ℕ coded_ℕ)) coded_ℕ)

-- the tokens of a pattern, in front of other tokens
abbrev tokens : Pattern → List Token → List Token
tokens bot rest = inl (0, 0) ∷ rest
tokens top rest = inl (1, 0) ∷ rest
tokens (var x) rest = inl (2, x) ∷ rest
tokens (meta i) rest = inl (3, i) ∷ rest
tokens (constant c) rest = inl (4, c) ∷ rest
tokens (not p) rest = tokens p (inr (inl (0, (0, 0))) ∷ rest)
tokens (fun p s) rest = tokens p (inr (inl (1, (0, s))) ∷ rest)
tokens (ex x s p) rest = tokens p (inr (inl (2, (x, s))) ∷ rest)
tokens (all x s p) rest = tokens p (inr (inl (3, (x, s))) ∷ rest)
tokens (at_sort p s) rest = tokens p (inr (inl (4, (0, s))) ∷ rest)
tokens (next p) rest = tokens p (inr (inl (5, (0, 0))) ∷ rest)
tokens (ev p) rest = tokens p (inr (inl (6, (0, 0))) ∷ rest)
tokens (imp p q) rest = tokens p (tokens q (inr (inr 0) ∷ rest))
tokens (and p q) rest = tokens p (tokens q (inr (inr 1) ∷ rest))
tokens (or p q) rest = tokens p (tokens q (inr (inr 2) ∷ rest))
tokens (equal p q) rest = tokens p (tokens q (inr (inr 3) ∷ rest))
tokens (member p q) rest = tokens p (tokens q (inr (inr 4) ∷ rest))
tokens (app p q) rest = tokens p (tokens q (inr (inr 5) ∷ rest))

abbrev leaf_of : ℕ → ℕ → Pattern
leaf_of k n =
    if k == 0 then bot
    else (if k == 1 then top else (if k == 2 then var n else (if k == 3 then meta n else constant
    n)))

abbrev over_one : ℕ → ℕ → ℕ → Pattern → Pattern
over_one k x s p =
    if k == 0 then not p
    else (if k == 1 then fun p s
    else (if k == 2 then ex x s p
    else (if k == 3 then all x s p
    else (if k == 4 then at_sort p s
    else (if k == 5 then next p
    else ev p)))))

abbrev over_two : ℕ → Pattern → Pattern → Pattern
over_two k p q =
    if k == 0 then imp p q
    else (if k == 1 then and p q
    else (if k == 2 then or p q
    else (if k == 3 then equal p q
    else (if k == 4 then member p q
    else app p q))))

-- reads one token, with a stack of patterns
abbrev read_token : Token → List Pattern → List Pattern
read_token (inl k) ps = leaf_of k.0 k.1 ∷ ps
read_token (inr (inl k)) [] = []
read_token (inr (inl k)) (p ∷ ps) = over_one k.0 k.1.0 k.1.1 p ∷ ps
read_token (inr (inr k)) [] = []
read_token (inr (inr k)) (q ∷ []) = []
read_token (inr (inr k)) (q ∷ (p ∷ ps)) = over_two k p q ∷ ps

abbrev read_all : List Token → List Pattern → List Pattern
read_all [] ps = ps
read_all (k ∷ ks) ps = read_all ks (read_token k ps)

read_all-tokens : (p : Pattern) (rest : List Token) (ps : List Pattern)
    → read_all (tokens p rest) ps ≡ read_all rest (p ∷ ps)
read_all-tokens bot rest ps = refl
read_all-tokens top rest ps = refl
read_all-tokens (var x) rest ps = refl
read_all-tokens (meta i) rest ps = refl
read_all-tokens (constant c) rest ps = refl
read_all-tokens (not p) rest ps = read_all-tokens p _ ps
read_all-tokens (fun p s) rest ps = read_all-tokens p _ ps
read_all-tokens (ex x s p) rest ps = read_all-tokens p _ ps
read_all-tokens (all x s p) rest ps = read_all-tokens p _ ps
read_all-tokens (at_sort p s) rest ps = read_all-tokens p _ ps
read_all-tokens (next p) rest ps = read_all-tokens p _ ps
read_all-tokens (ev p) rest ps = read_all-tokens p _ ps
read_all-tokens (imp p q) rest ps = read_all-tokens p _ ps ∙ read_all-tokens q _ (p ∷ ps)
read_all-tokens (and p q) rest ps = read_all-tokens p _ ps ∙ read_all-tokens q _ (p ∷ ps)
read_all-tokens (or p q) rest ps = read_all-tokens p _ ps ∙ read_all-tokens q _ (p ∷ ps)
read_all-tokens (equal p q) rest ps = read_all-tokens p _ ps ∙ read_all-tokens q _ (p ∷ ps)
read_all-tokens (member p q) rest ps = read_all-tokens p _ ps ∙ read_all-tokens q _ (p ∷ ps)
read_all-tokens (app p q) rest ps = read_all-tokens p _ ps ∙ read_all-tokens q _ (p ∷ ps)

-- the pattern at the top of the stack
abbrev top_pattern : List Pattern → Pattern
top_pattern [] = bot
top_pattern (p ∷ ps) = p

pub top_pattern-tokens : (p : Pattern) → top_pattern (read_all (tokens p []) []) ≡ p
top_pattern-tokens p = ap top_pattern (read_all-tokens p [] [])

abbrev pub pattern_code : Coded Pattern
pattern_code =
    code_by (List Token) (coded_list token_code) (λ p. tokens p [])
    (λ ks. top_pattern (read_all ks [])) top_pattern-tokens
