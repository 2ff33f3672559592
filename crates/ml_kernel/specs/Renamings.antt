-- Axioms with renamed bound variables.
use Rattle.std.specs.Prelude.{◌≡◌, ℕ, false, List, slice_index_or}
use Rattle.ml_pat.specs.Patterns.{Pattern, nullary, unary, binary, sorted, quantified, var, meta}
use Rattle.ml_pat.specs.Patterns.{constant}
use Rattle.ml_pat.specs.Judgements.{fresh, absent}

-- the pattern with each of its variables replaced by another
abbrev pub renamed : (ℕ → ℕ) → Pattern → Pattern
renamed f (nullary c) = nullary c
renamed f (binary c p q) = binary c (renamed f p) (renamed f q)
renamed f (unary c p) = unary c (renamed f p)
renamed f (sorted c p s) = sorted c (renamed f p) s
renamed f (quantified c x s p) = quantified c (f x) s (renamed f p)
renamed f (var x) = var (f x)
renamed f (meta i) = meta i
renamed f (constant c) = constant c

-- The second pattern is the first with its bound variables renamed in this way. Different variables
-- stay different, and a free variable does not change.
pub record Renames (to : ℕ → ℕ) (p q : Pattern) : Type 0 where
  pub result : q ≡ renamed to p
  pub one_to_one : (x y : ℕ) → absent x p ≡ false → absent y p ≡ false → to x ≡ to y → x ≡ y
  pub keeps_free : (x : ℕ) → fresh x p ≡ false → to x ≡ x

abbrev pub IsRenaming : Pattern → Pattern → Type 0
IsRenaming p q = (to : ℕ → ℕ) × Renames to p q

-- A renaming as a list: the variable with a number becomes the entry at that index. If the list is
-- shorter, the variable does not change.
abbrev pub by_place : List ℕ → ℕ → ℕ
by_place new x = slice_index_or new x x
