-- The result of a search that began without bindings.
use Rattle.std.proofs.Common.{◌≡◌, ℕ, List, length, replicate, Option, Some, None, refl, sym, subst}
use Rattle.term_core.specs.Terms.{Tree, Forest, no_tree, more_trees, AreNormal}
use Rattle.term_core.specs.Patterns.{Pattern, Patterns, no_pattern, more_patterns}
use Rattle.rule_core.specs.Subsorts.{HasNoCycle}
use Rattle.rule_core.specs.MatchSearch.{FindsMatch}
use Rattle.rule_core.specs.MatchSteps.{matched, all_matched}
use Rattle.rule_core.proofs.MatchExact.{found_matches, none_found}

moved : (pairs more : List (ℕ × ℕ)) (count number : ℕ) (ps : Patterns) (ts : Forest)
    (found : Option (List (Option Tree))) → more ≡ pairs → number ≡ count
    → all_matched pairs ps ts (replicate count None) ≡ found
    → all_matched more ps ts (replicate number None) ≡ found
moved pairs more count number ps ts found is len e = rw (is, len) e

pub search_found : (pairs : List (ℕ × ℕ)) (count : ℕ) (ps : Patterns) (ts : Forest)
    (theta : List (Option Tree)) → AreNormal ts
    → all_matched pairs ps ts (replicate count None) ≡ Some theta
    → FindsMatch pairs count ps ts (Some theta)
search_found pairs count ps ts theta normal e =
    λ sig variables sorts refs is len h sorted. found_matches sig variables sorts ps refs ts theta h
    sorted normal
    (moved pairs sig.subsorts count (length variables) ps ts (Some theta) is len e)

pub search_failed : (pairs : List (ℕ × ℕ)) (count : ℕ) (ps : Patterns) (ts : Forest)
    → HasNoCycle pairs → all_matched pairs ps ts (replicate count None) ≡ None
    → FindsMatch pairs count ps ts None
search_failed pairs count ps ts none e = λ sig variables sorts refs is len h sorted.
    let P : List (ℕ × ℕ) → Type 0 = HasNoCycle in
    none_found sig variables sorts ps refs ts (subst P (sym is) none) h
    (moved pairs sig.subsorts count (length variables) ps ts None is len e)

-- one pattern is a list with one pattern
pub one_found : (pairs : List (ℕ × ℕ)) (p : Pattern) (t : Tree) (theta : List (Option Tree))
    (found : Option (List (Option Tree))) → matched pairs p t theta ≡ found
    → all_matched pairs (more_patterns p no_pattern) (more_trees t no_tree) theta ≡ found
one_found pairs p t theta None e = rw e refl
one_found pairs p t theta (Some new) e = rw e refl
