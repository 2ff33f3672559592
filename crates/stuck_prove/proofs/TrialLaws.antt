-- The substitution by which a rule matches a term, and its names.
use Rattle.std.proofs.Common.{◌≡◌, ◌≤◌, ℕ, List, [], ◌∷◌, length, Option, Some, None, refl, sym}
use Rattle.std.proofs.Common.{subst, arith}
use Rattle.std.specs.Prelude.{MatchOption}
use Rattle.term_core.specs.Terms.{Tree, height, no_tree, more_trees}
use Rattle.term_core.specs.Patterns.{Patterns, no_pattern, more_patterns, ground_patterns}
use Rattle.term_core.specs.PatternLists.{AllFitWithin, plain_patterns}
use Rattle.term_core.specs.declared.rule_patterns.RulePat.{RulePat}
use Rattle.rule_core.specs.MatchLaws.{SortedUseFirst}
use Rattle.rule_core.specs.MatchSearch.{FindsMatch, UseFirst}
use Rattle.rule_core.specs.Matching.{MatchAll, MatchNamed, NoneMatches}
use Rattle.rule_core.specs.NamedLaws.{AddsNames, NamesMatch}
use Rattle.rule_core.specs.Naming.{AreNamesOf}
use Rattle.rule_core.specs.ProgramView.{names_of, rewrite_rule}
use Rattle.rule_core.specs.Rules.{RewriteRule}
use Rattle.rule_core.specs.Sorting.{HaveSorts, IsTermOf}
use Rattle.rule_core.specs.WellSorted.{IsRuleOf}
use Rattle.rule_core.specs.declared.rules.Named.{Named}
use Rattle.rule_core.specs.declared.rules.Rule.{Rule}
use Rattle.rule_core.specs.declared.signature.Signature.{Signature}
use Rattle.rule_core.specs.declared.signature.SortRef.{SortRef}
use Rattle.rule_core.specs.declared.signature.SortRef.TheVariants.{Sort}
use Rattle.fun_eval.proofs.Names.{all_fit, are_names_of}

-- ---- without the names

-- the left side of a rule, as a list of one pattern
abbrev pub left_of : RewriteRule → Patterns
left_of rule = more_patterns rule.left no_pattern

abbrev pub MatchesLeft : Signature → RewriteRule → Tree → List (Option Tree) → Type 0
MatchesLeft sig rule t = MatchAll sig rule.variables (left_of rule) (more_trees t no_tree)

-- one declared sort
abbrev refs_of : ℕ → List SortRef
refs_of sort = Sort (record { 0 = sort }) ∷ []

left_sorted : (sig : Signature) (sort : ℕ) (rule : RewriteRule) → IsRuleOf sig sort rule
    → HaveSorts sig rule.variables [] (left_of rule) (refs_of sort)
left_sorted sig sort rule is = (sort, refl, is.left, tt)

pub uses_first : (sig : Signature) (sort : ℕ) (rule : RewriteRule) → SortedUseFirst
    → IsRuleOf sig sort rule → UseFirst (length rule.variables) (left_of rule)
uses_first sig sort rule law is =
    law sig rule.variables [] (left_of rule) (refs_of sort) (left_sorted sig sort rule is)

-- what was found, in this signature
pub finds : (sig : Signature) (sort count : ℕ) (rule : RewriteRule) (t : Tree)
    (o : Option (List (Option Tree))) → IsRuleOf sig sort rule → IsTermOf sig t sort
    → length rule.variables ≡ count
    → FindsMatch sig.subsorts count (left_of rule) (more_trees t no_tree) o
    → MatchOption o (NoneMatches sig rule.variables (left_of rule) (more_trees t no_tree))
    (MatchesLeft sig rule t)
finds sig sort count rule t o is is_term many found =
    let term : HaveSorts sig [] [] (ground_patterns (more_trees t no_tree)) (refs_of sort) =
    (sort, refl, is_term, tt) in
    found sig rule.variables [] (refs_of sort) refl many (left_sorted sig sort rule is) term

pub some_match : (A : Type 0) (M : List (Option Tree) → Type 0) (o : Option (List (Option Tree)))
    (theta : List (Option Tree)) → o ≡ Some theta → MatchOption o A M → M theta
some_match A M o theta is h = subst (λ (q : Option (List (Option Tree))). MatchOption q A M) is h

pub no_match : (A : Type 0) (M : List (Option Tree) → Type 0) (o : Option (List (Option Tree)))
    → o ≡ None → MatchOption o A M → A
no_match A M o is h = subst (λ (q : Option (List (Option Tree))). MatchOption q A M) is h

-- ---- with the names

-- the names may be added
pub names_fit : (sig : Signature) (sort : ℕ) (r : Rule) (t : Tree) (pats : List RulePat)
    (named : List Named) (theta : List (Option Tree)) → IsRuleOf sig sort (rewrite_rule r)
    → height t ≤ 500 → pats ≡ r.left ∷ [] → named ≡ r.named.items
    → MatchesLeft sig (rewrite_rule r) t theta
    → AllFitWithin 500 theta (plain_patterns pats)
    × AreNamesOf (plain_patterns pats) (length theta) (names_of named)
names_fit sig sort r t pats named theta is low own own_names match =
    let fits : AllFitWithin 500 theta (plain_patterns (r.left ∷ [])) =
    all_fit 500 theta (left_of (rewrite_rule r)) (more_trees t no_tree) match.makes
    (omega (arith, low)) in
    let names : AreNamesOf (plain_patterns (r.left ∷ [])) (length theta) (names_of r.named.items) =
    are_names_of sig (rewrite_rule r).variables (left_of (rewrite_rule r)) (rewrite_rule r).names
    (length theta) is.names match.binds.room in (
      subst (λ (ps : List RulePat). AllFitWithin 500 theta (plain_patterns ps)) (sym own) fits,
      subst (λ (ps : List RulePat). AreNamesOf (plain_patterns ps) (length theta) (names_of named))
          (sym own)
          (subst (λ (ns : List Named). AreNamesOf (plain_patterns (r.left ∷ [])) (length theta)
          (names_of ns)) (sym own_names) names),
    )

-- with the names added, the substitution matches the rule
pub names_matched : (sig : Signature) (sort : ℕ) (r : Rule) (t : Tree) (pats : List RulePat)
    (named : List Named) (theta sigma : List (Option Tree)) → NamesMatch
    → IsRuleOf sig sort (rewrite_rule r) → pats ≡ r.left ∷ [] → named ≡ r.named.items
    → MatchesLeft sig (rewrite_rule r) t theta
    → AddsNames (plain_patterns pats) (names_of named) theta sigma
    → MatchNamed sig (rewrite_rule r).variables (left_of (rewrite_rule r)) (rewrite_rule r).names
    (more_trees t no_tree) sigma
names_matched sig sort r t pats named theta sigma law is own own_names match adds =
    let all : AddsNames (plain_patterns (r.left ∷ [])) (names_of r.named.items) theta sigma =
    subst (λ (ps : List RulePat).
    AddsNames (plain_patterns ps) (names_of r.named.items) theta sigma) own
    (subst (λ (ns : List Named). AddsNames (plain_patterns pats) (names_of ns) theta sigma)
    own_names adds) in
    law sig (rewrite_rule r).variables (left_of (rewrite_rule r)) (rewrite_rule r).names
    (more_trees t no_tree) theta sigma is.names match all
