-- Arguments that match their terms.
use Rattle.std.proofs.Common.{◌≡◌, ◌≤◌, ℕ, List, [], ◌∷◌, length}
use Rattle.std.proofs.Common.{Option, Some, None, refl, sym, ap, subst, arith}
use Rattle.std.specs.Prelude.{IsSome, IsSomeAnd, MatchOption}
use Rattle.std.proofs.lemmas.Option.{slice_get_within}
use Rattle.term_core.specs.Terms.{Tree, Forest, no_tree, more_trees, heights, height}
use Rattle.term_core.specs.Patterns.{Pattern, Patterns, no_pattern, more_patterns, instances_of}
use Rattle.term_core.specs.Patterns.{ground_patterns}
use Rattle.term_core.specs.PatternLists.{AllFitWithin, plain_patterns}
use Rattle.term_core.specs.RulePatterns.{plain_pattern}
use Rattle.term_core.specs.declared.rule_patterns.RulePat.{RulePat}
use Rattle.rule_core.specs.MatchLaws.{SortedUseFirst}
use Rattle.rule_core.specs.MatchSearch.{FindsMatch, UseFirst}
use Rattle.rule_core.specs.Matching.{MatchAll, NoneMatches}
use Rattle.rule_core.specs.NamedParts.{Name}
use Rattle.rule_core.specs.Naming.{AreNamesOf}
use Rattle.rule_core.specs.Sorting.{HaveSorts}
use Rattle.rule_core.specs.WellSorted.{HaveNames}
use Rattle.rule_core.specs.declared.signature.Signature.{Signature}
use Rattle.rule_core.specs.declared.signature.SortRef.{SortRef}
use Rattle.rule_core.specs.declared.signature.SortRef.TheVariants.{Sort}
use Rattle.guard_body.specs.Arguments.{IsArgument, pattern_of}
use Rattle.guard_body.specs.declared.arguments.Argument.{Argument}

-- the argument alone, as a list of one declared sort
abbrev refs_of : ℕ → List SortRef
refs_of sort = Sort (record { 0 = sort }) ∷ []

one_sort : (sig : Signature) (sorts : List ℕ) (a : Argument) (is : IsArgument sig sorts a)
    → HaveSorts sig sorts [] (more_patterns (pattern_of a) no_pattern) (refs_of is.sort)
one_sort sig sorts a is = (is.sort, refl, is.sorted, tt)

pub uses_first : (sig : Signature) (sorts : List ℕ) (a : Argument) → SortedUseFirst
    → IsArgument sig sorts a → UseFirst (length sorts) (more_patterns (pattern_of a) no_pattern)
uses_first sig sorts a law is =
    law sig sorts [] (more_patterns (pattern_of a) no_pattern) (refs_of is.sort)
    (one_sort sig sorts a is)

-- what was found, in this signature
pub finds : (sig : Signature) (sorts : List ℕ) (count : ℕ) (pairs : List (ℕ × ℕ)) (a : Argument)
    (o : Option (List (Option Tree))) → IsArgument sig sorts a → sig.subsorts ≡ pairs
    → length sorts ≡ count
    → FindsMatch pairs count (more_patterns (pattern_of a) no_pattern)
    (more_trees a.term.now no_tree) o
    → MatchOption o
    (NoneMatches sig sorts (more_patterns (pattern_of a) no_pattern)
    (more_trees a.term.now no_tree))
    (MatchAll sig sorts (more_patterns (pattern_of a) no_pattern) (more_trees a.term.now no_tree))
finds sig sorts count pairs a o is same many found =
    let term : HaveSorts sig [] [] (ground_patterns (more_trees a.term.now no_tree))
    (refs_of is.sort) = (is.sort, refl, is.is_term, tt) in
    found sig sorts [] (refs_of is.sort) same many (one_sort sig sorts a is) term

pub fit : (theta : List (Option Tree)) (ps : Patterns) (t : Tree)
    → instances_of theta ps ≡ Some (more_trees t no_tree) → height t ≤ 500
    → AllFitWithin 500 theta ps
fit theta ps t makes low =
    let high : heights (more_trees t no_tree) ≤ 500 = omega (arith, low) in
    subst (λ (o : Option Forest). IsSomeAnd o (λ (us : Forest). heights us ≤ 500)) (sym makes) high

pub are_names : (sig : Signature) (variables : List ℕ) (ps : Patterns) (names : List Name)
    (count : ℕ) → HaveNames sig variables ps names → count ≡ length variables
    → AreNamesOf ps count names
are_names sig variables ps names count have room = record {
  different = have.different;
  within =
      λ k d lt. let n = have.sorted k d lt in
      omega (arith, room, slice_get_within variables _ n.1 n.4);
  elsewhere = have.elsewhere;
  there =
      λ k d lt. let n = have.sorted k d lt in
      subst (λ (o : Option Pattern). IsSome o) (sym n.2) refl;
}

-- a list of one item
pub listed : (p : RulePat) (ps : List RulePat) → ps ≡ p ∷ []
    → plain_patterns ps ≡ more_patterns (plain_pattern p) no_pattern
listed p ps is = ap plain_patterns is

pub some_match : (A : Type 0) (M : List (Option Tree) → Type 0) (o : Option (List (Option Tree)))
    (theta : List (Option Tree)) → o ≡ Some theta → MatchOption o A M → M theta
some_match A M o theta is h = subst (λ (q : Option (List (Option Tree))). MatchOption q A M) is h

pub no_match : (A : Type 0) (M : List (Option Tree) → Type 0) (o : Option (List (Option Tree)))
    → o ≡ None → MatchOption o A M → A
no_match A M o is h = subst (λ (q : Option (List (Option Tree))). MatchOption q A M) is h
