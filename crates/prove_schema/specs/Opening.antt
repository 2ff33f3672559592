-- What a sentence becomes as a schema, and what the schema assumes.
use Rattle.std.specs.Prelude.{◌≡◌, ℕ, List, length}
use Rattle.ml_pat.specs.Patterns.{Pattern, imp}
use Rattle.ml_kernel.specs.Theorems.{Theorem}
use Rattle.ml_derived.specs.Scopes.{Scope, AreAssumed, IsWithin}
use Rattle.prove_schema.specs.Schemas.{with_metas, meta_facts, parts_of, IsSentence}

-- the pattern says something of all elements of zero or more sorts
abbrev pub IsForAll : Pattern → Type 0
IsForAll p = (numbers : List ℕ) × (body : Pattern) × IsSentence numbers body p

-- q says of pattern variables what p says of all elements
abbrev pub IsSchemaOf : Pattern → Pattern → Type 0
IsSchemaOf p q =
    (numbers : List ℕ) (body : Pattern) → IsSentence numbers body p
    → q ≡ with_metas (length numbers) body

-- If a scope has the sentence, and may assume that each pattern variable is one element of the sort
-- of its variable, it has the theorem t.
abbrev pub StaysOpen : Theorem → Theorem → Type 0
StaysOpen sentence t =
    (numbers : List ℕ) (body : Pattern) → IsSentence numbers body sentence.conclusion → (s : Scope)
    →
    IsWithin s sentence → AreAssumed s (meta_facts 0 numbers) → IsWithin s t

abbrev pub IsConditional : Pattern → Type 0
IsConditional t = (p : Pattern) × (q : Pattern) × (t ≡ imp p q)

-- what the implication t says to follow if its condition holds
abbrev pub IsFollowing : Pattern → Pattern → Type 0
IsFollowing t followed = (p q : Pattern) → t ≡ imp p q → followed ≡ q

-- If a scope has the implication, and may assume each part of the condition, it has the theorem t.
abbrev pub StaysFollowing : Theorem → Theorem → Type 0
StaysFollowing conditional t =
    (p q : Pattern) → conditional.conclusion ≡ imp p q → (s : Scope) → IsWithin s conditional →
    AreAssumed s (parts_of p) → IsWithin s t
