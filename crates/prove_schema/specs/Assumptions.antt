-- Theorems that say only what they assume.
use Rattle.std.specs.Prelude.{List, [], ◌∷◌}
use Rattle.ml_pat.specs.Patterns.{Pattern, fun, all, meta}
use Rattle.ml_kernel.specs.Theorems.{Theorem}
use Rattle.ml_derived.specs.Scopes.{Scope, AssumesWithin, AreAssumed, IsWithin}
use Rattle.prove_schema.specs.Schemas.{parts_of}

-- each theorem says what it assumes, and assumes nothing else
abbrev pub AreAssumptions : List Theorem → Type 0
AreAssumptions [] = Unit {0}
AreAssumptions (t ∷ ts) = AssumesWithin t.conclusion t × AreAssumptions ts

-- the facts of the leading quantifiers of a pattern: each bound variable's pattern variable is one
-- element of its sort
abbrev pub facts_of : Pattern → List Pattern
facts_of (all x s p) = fun (meta x) s ∷ facts_of p
facts_of p = []

-- a scope in which each part of p may be assumed has the theorem
abbrev pub HoldsByParts : Pattern → Theorem → Type 0
HoldsByParts p t = (s : Scope) → AreAssumed s (parts_of p) → IsWithin s t
