-- The forms of the implications that private functions take and return.
use Rattle.std.specs.Prelude.{◌≡◌, List, [], ◌∷◌}
use Rattle.ml_pat.specs.Patterns.{Pattern, bot, top, imp, and, or, not, member}
use Rattle.ml_pat.specs.Judgements.{IsPredicate}
use Rattle.ml_kernel.specs.Theorems.{Theorem}

-- ---- none of several

-- `e -> bot`
abbrev pub IsDenial : Theorem → Type 0
IsDenial t = (e : Pattern) × (t.conclusion ≡ imp e bot)

-- the disjunction of the patterns, and of `bot`
abbrev pub some_of : List Pattern → Pattern
some_of [] = bot
some_of (e ∷ es) = or e (some_of es)

-- ---- members

-- the conjunction of the patterns, and of `top`
abbrev pub all_of : List Pattern → Pattern
all_of [] = top
all_of (p ∷ ps) = and p (all_of ps)

-- `h -> ~(q & t)`, `g -> h` and `b -> t in q`
pub record AreDisjointAt (g none weaker inside : Pattern) : Type 0 where
  pub h : Pattern
  pub b : Pattern
  pub q : Pattern
  pub t : Pattern
  pub is_none : none ≡ imp h (not (and q t))
  pub is_weaker : weaker ≡ imp g h
  pub is_inside : inside ≡ imp b (member t q)
  pub predicate : IsPredicate g

-- `g -> b -> bot`
abbrev pub IsNoneAt : Pattern → Pattern → Pattern → Type 0
IsNoneAt g inside made =
    (b q t : Pattern) → inside ≡ imp b (member t q) → made ≡ imp g (imp b bot)

-- `h & (q & t) -> e`, `g -> h` and `b -> t in q`
pub record AreInvertedAt (g rule weaker inside : Pattern) : Type 0 where
  pub h : Pattern
  pub b : Pattern
  pub q : Pattern
  pub t : Pattern
  pub e : Pattern
  pub is_rule : rule ≡ imp (and h (and q t)) e
  pub is_weaker : weaker ≡ imp g h
  pub is_inside : inside ≡ imp b (member t q)
  pub predicate : IsPredicate g
  pub equations : IsPredicate e

-- `g -> b -> e`
abbrev pub IsInvertedAt : Pattern → Pattern → Pattern → Pattern → Type 0
IsInvertedAt g rule inside made =
    (h w b m e : Pattern) → rule ≡ imp (and h w) e → inside ≡ imp b m → made ≡ imp g (imp b e)
