-- Laws of matching with names. A name changes nothing of what matches: the pattern without the names
-- matches, and each name gets the term of its part.
use Rattle.std.specs.Prelude.{◌≡◌, ℕ, List, All, length, Option}
use Rattle.term_core.specs.Terms.{Tree, Forest}
use Rattle.term_core.specs.Patterns.{Patterns, binding}
use Rattle.rule_core.specs.NamedParts.{Name, IsNamed, part_instance}
use Rattle.rule_core.specs.Matching.{MatchAll, MatchNamed, NoneMatches}
use Rattle.rule_core.specs.WellSorted.{HaveNames}
use Rattle.rule_core.specs.declared.signature.Signature.{Signature}

-- the second substitution is the first one with each name bound to the term of its part
pub record AddsNames (ps : Patterns) (names : List Name) (theta sigma : List (Option Tree))
    : Type 0 where
  pub room : length sigma ≡ length theta
  pub others : (x : ℕ) → (IsNamed names x → ⊥) → binding sigma x ≡ binding theta x
  pub named : All (λ (n : Name). binding sigma n.variable ≡ part_instance theta ps n.place) names

-- If a substitution matches without the names, then with the names added it matches with them.
abbrev pub NamesMatch : Type 0
NamesMatch =
    (sig : Signature) (variables : List ℕ) (ps : Patterns) (names : List Name) (ts : Forest)
    (theta sigma : List (Option Tree)) → HaveNames sig variables ps names →
    MatchAll sig variables ps ts theta → AddsNames ps names theta sigma →
    MatchNamed sig variables ps names ts sigma

-- If none matches without the names, none matches with them.
abbrev pub NoneMatchesNamed : Type 0
NoneMatchesNamed =
    (sig : Signature) (variables : List ℕ) (ps : Patterns) (names : List Name) (ts : Forest)
    (theta : List (Option Tree)) → NoneMatches sig variables ps ts →
    MatchNamed sig variables ps names ts theta → ⊥
