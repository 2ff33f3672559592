-- The result of a search for a matching substitution, in each signature in which the patterns and
-- the terms are well-sorted.
use Rattle.std.specs.Prelude.{◌≡◌, ◌+◌, ℕ, List, [], length, Option, MatchOption, ◌<◌}
use Rattle.term_core.specs.Terms.{Tree, Forest, no_tree, more_trees}
use Rattle.term_core.specs.Patterns.{Pattern, Patterns, variable, domain_value, application}
use Rattle.term_core.specs.Patterns.{injection, call, no_pattern, more_patterns, ground_patterns}
use Rattle.rule_core.specs.Sorting.{HaveSorts}
use Rattle.rule_core.specs.Matching.{MatchAll, NoneMatches, OccursInSome}
use Rattle.rule_core.specs.declared.signature.Signature.{Signature}
use Rattle.rule_core.specs.declared.signature.SortRef.{SortRef}

-- It holds in each signature with these pairs of subsorts, and for each choice of sorts for this
-- many variables such that the patterns and the terms have the same sorts. If a substitution was
-- found, it matches. If none was found, none matches.
abbrev pub FindsMatch : List (ℕ × ℕ) → ℕ → Patterns → Forest → Option (List (Option Tree)) → Type 0
FindsMatch pairs count ps ts found =
    (sig : Signature) (variables sorts : List ℕ) (refs : List SortRef) → sig.subsorts ≡ pairs →
    length variables ≡ count → HaveSorts sig variables sorts ps refs →
    HaveSorts sig [] sorts (ground_patterns ts) refs →
    MatchOption found (NoneMatches sig variables ps ts) (MatchAll sig variables ps ts)

-- how many values, constructors, injections and calls a pattern has; each of them costs at most one
-- look at the term
abbrev mutual
  pub nodes : Pattern → ℕ
  nodes (variable x) = 0
  nodes (domain_value s v) = 1
  nodes (application f ps) = all_nodes ps + 1
  nodes (injection a b p) = nodes p + 1
  nodes (call f sorts ps) = all_nodes ps + 1

  pub all_nodes : Patterns → ℕ
  all_nodes no_pattern = 0
  all_nodes (more_patterns p ps) = nodes p + all_nodes ps

-- only the first n variables occur in the patterns
abbrev pub UseFirst : ℕ → Patterns → Type 0
UseFirst n ps = (x : ℕ) → OccursInSome x ps → x < n

-- under such a substitution the pattern becomes the term
abbrev pub MatchesTerm : Signature → List ℕ → Pattern → Tree → List (Option Tree) → Type 0
MatchesTerm sig variables p t theta =
    MatchAll sig variables (more_patterns p no_pattern) (more_trees t no_tree) theta
