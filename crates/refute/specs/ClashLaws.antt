-- What comparing a pattern with a term comes to: a reason why they do not match, or each binding.
use Rattle.std.specs.Prelude.{◌≡◌, ℕ, List, Option, Some}
use Rattle.term_core.specs.Terms.{Tree, no_tree, more_trees, IsNormal}
use Rattle.term_core.specs.Patterns.{Pattern, variable, no_pattern, more_patterns, binding}
use Rattle.term_core.specs.Patterns.{instance_of}
use Rattle.rule_core.specs.Subsorts.{HasNoCycle}
use Rattle.rule_core.specs.Matching.{RespectsSorts, MatchAll, NoneMatches}
use Rattle.rule_core.specs.Sorting.{HasSort, IsTermOf}
use Rattle.rule_core.specs.WellSorted.{HasNoCall}
use Rattle.rule_core.specs.declared.signature.Signature.{Signature}
use Rattle.refute.specs.Clashes.{ComesTo, Fails}

-- a pattern that does not match a term fails for a reason that can be found
abbrev pub MismatchHasReason : Type 0
MismatchHasReason =
    (sig : Signature) (variables : List ℕ) (p : Pattern) (sort : ℕ) (t : Tree)
    → HasSort sig variables p sort → HasNoCall p → IsTermOf sig t sort → IsNormal t
    → NoneMatches sig variables (more_patterns p no_pattern) (more_trees t no_tree)
    → Fails sig.subsorts p t

-- if the pattern matches, each variable comes to its binding
abbrev pub MatchReaches : Type 0
MatchReaches =
    (sig : Signature) (variables : List ℕ) (p : Pattern) (sort : ℕ) (t : Tree)
    (theta : List (Option Tree)) → HasNoCycle sig.subsorts → HasSort sig variables p sort
    → HasNoCall p → IsTermOf sig t sort → IsNormal t
    → MatchAll sig variables (more_patterns p no_pattern) (more_trees t no_tree) theta
    → (x : ℕ) (u : Tree) → binding theta x ≡ Some u → ComesTo sig.subsorts (variable x) u p t

-- a pattern that fails never becomes the term
abbrev pub FailureIsFinal : Type 0
FailureIsFinal =
    (sig : Signature) (variables : List ℕ) (p : Pattern) (sort : ℕ) (t : Tree)
    (theta : List (Option Tree)) → HasNoCycle sig.subsorts → HasSort sig variables p sort
    → RespectsSorts sig variables theta → Fails sig.subsorts p t
    → instance_of theta p ≡ Some t → ⊥
