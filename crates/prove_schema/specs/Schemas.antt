-- Sentences as schemas, with a pattern variable for each object variable that is bound first.
pub use Rattle.prove_term.specs.Schemas.{meta_facts}
use Rattle.std.specs.Prelude.{◌≡◌, ℕ, ◌+◌, ◌<◌, ◌≤◌, nat_lt, if◌then◌else◌, List, [], ◌∷◌, ◌++◌}
use Rattle.std.specs.Prelude.{length}
use Rattle.ml_pat.specs.Patterns.{Pattern, nullary, unary, binary, sorted, quantified, top, and}
use Rattle.ml_pat.specs.Patterns.{all, var, meta, constant, Ex, All}

-- the pattern with each object variable below n replaced by the pattern variable of the same
-- number; the other variables stay, and so does the variable that a quantifier names
abbrev pub with_metas : ℕ → Pattern → Pattern
with_metas n (nullary c) = nullary c
with_metas n (binary c p q) = binary c (with_metas n p) (with_metas n q)
with_metas n (unary c p) = unary c (with_metas n p)
with_metas n (sorted c p s) = sorted c (with_metas n p) s
with_metas n (quantified c x s p) = quantified c x s (with_metas n p)
with_metas n (var x) = if nat_lt x n then meta x else var x
with_metas n (meta i) = meta i
with_metas n (constant c) = constant c

-- The quantifiers of the pattern are existential, and bind variables numbered from n on. The
-- numbers of its object variables are at least k. The numbers of its pattern variables are below n.
abbrev pub IsBodyFrom : ℕ → ℕ → Pattern → Type 0
IsBodyFrom k n (nullary c) = Unit {0}
IsBodyFrom k n (binary c p q) = IsBodyFrom k n p × IsBodyFrom k n q
IsBodyFrom k n (unary c p) = IsBodyFrom k n p
IsBodyFrom k n (sorted c p s) = IsBodyFrom k n p
IsBodyFrom k n (quantified Ex x s p) = (n ≤ x) × IsBodyFrom k n p
IsBodyFrom k n (quantified All x s p) = ⊥
IsBodyFrom k n (var x) = k ≤ x
IsBodyFrom k n (meta i) = i < n
IsBodyFrom k n (constant c) = Unit {0}

-- the pattern for all elements of the sorts with these numbers; its variables are numbered from k
-- on, the first one outermost
abbrev pub closed : ℕ → List ℕ → Pattern → Pattern
closed k [] p = p
closed k (s ∷ ss) p = all k s (closed (k + 1) ss p)

-- the sentence p says the body for all elements of the sorts with these numbers; the quantifiers of
-- the body are existential, and bind other variables
pub record IsSentence (numbers : List ℕ) (body p : Pattern) : Type 0 where
  pub says : p ≡ closed 0 numbers body
  pub is_open : IsBodyFrom 0 (length numbers) body

-- the parts of nested conjunctions, without `top`; any other pattern is its only part
abbrev pub parts_of : Pattern → List Pattern
parts_of top = []
parts_of (and p q) = parts_of p ++ parts_of q
parts_of p = p ∷ []
