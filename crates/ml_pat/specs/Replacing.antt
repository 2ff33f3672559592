-- The outcome of substituting u for each free x in a pattern, given the outcomes for its parts.
use Rattle.std.specs.Prelude.{ℕ, Bool, true, false, ◌==◌, if◌then◌else◌}
use Rattle.ml_pat.specs.Patterns.{Pattern, unary, binary, sorted, quantified, or, var}
use Rattle.ml_pat.specs.Judgements.{fresh}
use Rattle.ml_pat.specs.Spines.{with_parts}
use Rattle.ml_pat.specs.declared.substitution.SubstitutionResult.{SubstitutionResult}
use Rattle.ml_pat.specs.declared.substitution.SubstitutionResult.TheVariants.{Kept, New, Captured}

-- the outcome for a pattern that f builds from the parts p and q
abbrev pub both_replaced : (Pattern → Pattern → Pattern) → Pattern → Pattern → SubstitutionResult
    → SubstitutionResult → SubstitutionResult
both_replaced f p q Kept Kept = Kept
both_replaced f p q Kept (New t) = New (f p t)
both_replaced f p q Kept Captured = Captured
both_replaced f p q (New r) Kept = New (f r q)
both_replaced f p q (New r) (New t) = New (f r t)
both_replaced f p q (New r) Captured = Captured
both_replaced f p q Captured Kept = Captured
both_replaced f p q Captured (New t) = Captured
both_replaced f p q Captured Captured = Captured

-- the outcome for a pattern with one part
abbrev pub one_replaced : (Pattern → Pattern → Pattern) → SubstitutionResult → SubstitutionResult
one_replaced f Kept = Kept
one_replaced f (New r) = New (f r r)
one_replaced f Captured = Captured

-- the outcome for a pattern that binds another variable than x: nothing is substituted if that
-- variable is free in u
abbrev pub under_replaced : (Pattern → Pattern → Pattern) → Bool → SubstitutionResult
    → SubstitutionResult
under_replaced f is_fresh Kept = Kept
under_replaced f true (New r) = New (f r r)
under_replaced f false (New r) = Captured
under_replaced f is_fresh Captured = Captured

-- the outcome for a pattern, by its form
abbrev pub replaced : ℕ → Pattern → Pattern → SubstitutionResult
replaced x u (binary c p q) =
    both_replaced (with_parts (binary c p q)) p q (replaced x u p) (replaced x u q)
replaced x u (unary c p) = one_replaced (with_parts (unary c p)) (replaced x u p)
replaced x u (sorted c p s) = one_replaced (with_parts (sorted c p s)) (replaced x u p)
replaced x u (quantified c y s p) =
    if x == y then Kept else under_replaced (with_parts (quantified c y s p)) (fresh y u)
    (replaced x u p)
replaced x u (var y) = if x == y then New u else Kept
replaced x u p = Kept

-- the outcome for a pattern, given the outcome for its part along the spine, if it has one
abbrev pub around : ℕ → Pattern → SubstitutionResult → Pattern → SubstitutionResult
around x u spine (or p q) = both_replaced (with_parts (or p q)) p q (replaced x u p) spine
around x u spine (binary c p q) =
    both_replaced (with_parts (binary c p q)) p q spine (replaced x u q)
around x u spine (unary c p) = one_replaced (with_parts (unary c p)) spine
around x u spine (sorted c p s) = one_replaced (with_parts (sorted c p s)) spine
around x u spine (quantified c y s p) =
    if x == y then Kept else under_replaced (with_parts (quantified c y s p)) (fresh y u) spine
around x u spine p = replaced x u p
