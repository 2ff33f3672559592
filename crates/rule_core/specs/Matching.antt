-- Matching by substitution (Kore language document, "Patterns"). A substitution matches a pattern
-- with a term if the pattern becomes the term under it. The definition quantifies over
-- substitutions. The code takes the term apart instead.
use Rattle.std.specs.Prelude.{◌≡◌, ◌↔◌, ℕ, List, All, length, slice_get, Option, Some, IsSome, ◌⊎◌}
use Rattle.term_core.specs.Terms.{Tree, Forest, IsNormal}
use Rattle.term_core.specs.Patterns.{Pattern, Patterns, variable, domain_value, application}
use Rattle.term_core.specs.Patterns.{injection, call, no_pattern, more_patterns, binding}
use Rattle.term_core.specs.Patterns.{instances_of}
use Rattle.rule_core.specs.NamedParts.{Name, IsNamed, part_instance}
use Rattle.rule_core.specs.Sorting.{IsTermOf}
use Rattle.rule_core.specs.declared.signature.Signature.{Signature}

-- the variable occurs in the pattern
abbrev mutual
  pub OccursIn : ℕ → Pattern → Type 0
  OccursIn x (variable y) = x ≡ y
  OccursIn x (domain_value s v) = ⊥
  OccursIn x (application f ps) = OccursInSome x ps
  OccursIn x (injection a b p) = OccursIn x p
  OccursIn x (call f sorts ps) = OccursInSome x ps

  pub OccursInSome : ℕ → Patterns → Type 0
  OccursInSome x no_pattern = ⊥
  OccursInSome x (more_patterns p ps) = OccursIn x p ⊎ OccursInSome x ps

-- each variable that the substitution binds is bound to a normal term of the variable's sort
abbrev pub RespectsSorts : Signature → List ℕ → List (Option Tree) → Type 0
RespectsSorts sig variables theta =
    (x : ℕ) (t : Tree) → binding theta x ≡ Some t
    → IsNormal t × ((sort : ℕ) × (slice_get variables x ≡ Some sort)
    × IsTermOf sig t sort)

-- the substitution binds exactly the variables that occur in the patterns, each to a normal term of
-- the variable's sort
pub record Binds (sig : Signature) (variables : List ℕ) (ps : Patterns)
    (theta : List (Option Tree)) : Type 0 where
  pub room : length theta ≡ length variables
  pub just : (x : ℕ) → IsSome (binding theta x) ↔ OccursInSome x ps
  pub sorted : RespectsSorts sig variables theta

-- under such a substitution the patterns become the terms, in order
pub record MatchAll (sig : Signature) (variables : List ℕ) (ps : Patterns) (ts : Forest)
    (theta : List (Option Tree)) : Type 0 where
  pub binds : Binds sig variables ps theta
  pub makes : instances_of theta ps ≡ Some ts

-- under no substitution do the patterns become the terms
abbrev pub NoneMatches : Signature → List ℕ → Patterns → Forest → Type 0
NoneMatches sig variables ps ts =
    (theta : List (Option Tree)) → MatchAll sig variables ps ts theta → ⊥

-- the same for patterns some of whose parts have names
pub record BindsNamed (sig : Signature) (variables : List ℕ) (ps : Patterns) (names : List Name)
    (theta : List (Option Tree)) : Type 0 where
  pub room : length theta ≡ length variables
  pub just : (x : ℕ) → IsSome (binding theta x) ↔ (OccursInSome x ps ⊎ IsNamed names x)
  pub sorted : RespectsSorts sig variables theta

-- Under such a substitution the patterns become the terms, in order, and each name has the term that
-- the named part becomes.
pub record MatchNamed (sig : Signature) (variables : List ℕ) (ps : Patterns) (names : List Name)
    (ts : Forest) (theta : List (Option Tree)) : Type 0 where
  pub binds : BindsNamed sig variables ps names theta
  pub makes : instances_of theta ps ≡ Some ts
  pub named : All (λ n. binding theta n.variable ≡ part_instance theta ps n.place) names

-- under no substitution does this hold
abbrev pub AreUnmatched : Signature → List ℕ → Patterns → List Name → Forest → Type 0
AreUnmatched sig variables ps names ts =
    (theta : List (Option Tree)) → MatchNamed sig variables ps names ts theta → ⊥
