-- Patterns that differ at the root, and what theorems say of them under a hypothesis.
use Rattle.std.specs.Prelude.{◌≢◌, ℕ, List}
use Rattle.ml_pat.specs.Patterns.{Pattern}
use Rattle.ml_kernel.specs.Theorems.{Theorem}
use Rattle.term_core.specs.Patterns.{Pattern as RulePattern, domain_value, application, injection}
use Rattle.rule_core.specs.Subsorts.{IsBelow}
use Rattle.ml_image.specs.Sentences.{term, not, and, equals}
use Rattle.prove_term.specs.Contexts.{Context}
use Rattle.prove_open.specs.Under.{SaysUnder, DeniesUnder}
use Rattle.prove_open.specs.declared.differences.Difference.{Difference}
use Rattle.prove_open.specs.declared.differences.Difference.TheVariants.{Unequal, Disjoint}

-- a value or a constructor
abbrev pub IsValueOrConstructor : RulePattern → Type 0
IsValueOrConstructor (domain_value s v) = Unit {0}
IsValueOrConstructor (application f ps) = Unit {0}
IsValueOrConstructor _ = ⊥

-- The two patterns, of one sort, have no common instance, since they differ at the root: different
-- values, a value and a constructor, different constructors, an injection and one of these, or two
-- injections. Of these, the second injects a value or a constructor, whose sort is not up to the
-- sort that the first injects.
abbrev pub DifferAtRoot : List (ℕ × ℕ) → RulePattern → RulePattern → Type 0
DifferAtRoot pairs (domain_value s v) (domain_value r w) = v ≢ w
DifferAtRoot pairs (domain_value s v) (application g qs) = Unit {0}
DifferAtRoot pairs (domain_value s v) (injection a d q) = Unit {0}
DifferAtRoot pairs (application f ps) (domain_value r w) = Unit {0}
DifferAtRoot pairs (application f ps) (application g qs) = f ≢ g
DifferAtRoot pairs (application f ps) (injection a d q) = Unit {0}
DifferAtRoot pairs (injection b c p) (domain_value r w) = Unit {0}
DifferAtRoot pairs (injection b c p) (application g qs) = Unit {0}
DifferAtRoot pairs (injection b c p) (injection a d q) =
    (a ≢ b) × (IsBelow pairs a b → ⊥) × IsValueOrConstructor q
DifferAtRoot pairs _ _ = ⊥

-- the theorem says, under the hypothesis, that the two are not equal, or that they have nothing in
-- common
abbrev pub SaysDifference : Context → Pattern → RulePattern → RulePattern → Difference → Type 0
SaysDifference cx h p q (Unequal t) =
    SaysUnder cx h (not (equals (term p) (term q))) t.conclusion
SaysDifference cx h p q (Disjoint t) = DeniesUnder cx h (and (term p) (term q)) t.conclusion

-- the theorem of the difference
abbrev pub theorem_of : Difference → Theorem
theorem_of (Unequal t) = t
theorem_of (Disjoint t) = t
