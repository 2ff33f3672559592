-- How the instance of a pattern is built around the instance of its part along the spine, and a
-- renamed pattern around its renamed part.
use Rattle.std.specs.Prelude.{ℕ, List}
use Rattle.ml_pat.specs.Patterns.{Pattern, unary, binary, sorted, quantified, or}
use Rattle.ml_kernel.specs.Lemmas.{instance}
use Rattle.ml_kernel.specs.Renamings.{renamed}

-- the instance of a pattern, built around the instance of its part along the spine, if it has one
abbrev pub around : List Pattern → Pattern → Pattern → Pattern
around ms spine (or p q) = or (instance ms p) spine
around ms spine (binary c p q) = binary c spine (instance ms q)
around ms spine (unary c p) = unary c spine
around ms spine (sorted c p s) = sorted c spine s
around ms spine (quantified c x s p) = quantified c x s spine
around ms spine p = instance ms p

-- the renamed pattern, built around its renamed part along the spine, if it has one
abbrev pub renamed_around : (ℕ → ℕ) → Pattern → Pattern → Pattern
renamed_around f spine (or p q) = or (renamed f p) spine
renamed_around f spine (binary c p q) = binary c spine (renamed f q)
renamed_around f spine (unary c p) = unary c spine
renamed_around f spine (sorted c p s) = sorted c spine s
renamed_around f spine (quantified c x s p) = quantified c (f x) s spine
renamed_around f spine p = renamed f p
