-- One iteration of a trial.
use Rattle.std.proofs.Common.{◌≡◌, ℕ, zero, suc, ◌+◌, ◌<◌, ◌≤◌, List, [], ◌∷◌, length, get_or}
use Rattle.std.proofs.Common.{slice_get, Option, option_map, Some, None, All, refl, sym, ◌∙◌, ap}
use Rattle.std.proofs.Common.{subst, arith, inl, inr, ◌⊎◌}
use Rattle.std.specs.Prelude.{MatchOption}
use Rattle.std.proofs.lemmas.Option.{slice_get-map, slice_get_read, slice_get_within}
use Rattle.term_core.specs.Terms.{Tree, no_tree, more_trees}
use Rattle.term_core.specs.Patterns.{no_pattern, more_patterns}
use Rattle.rule_core.specs.Rules.{RewriteRule}
use Rattle.rule_core.specs.Sorting.{IsTermOf}
use Rattle.rule_core.specs.WellSorted.{IsRuleOf}
use Rattle.rule_core.specs.Matching.{NoneMatches, MatchAll}
use Rattle.rule_core.specs.MatchSearch.{FindsMatch}
use Rattle.rule_core.specs.Trial.{NoRuleMatches, FindsFirstMatch}
use Rattle.rule_core.specs.ProgramView.{rewrite_rule, rewrite_rules}
use Rattle.rule_core.specs.declared.rules.Rule.{Rule}
use Rattle.rule_core.specs.declared.signature.Signature.{Signature}
use Rattle.rule_core.specs.declared.signature.SortRef.TheVariants.{Sort}

-- no rule that was tried so far matches
abbrev pub NoneSoFar : List (ℕ × ℕ) → List RewriteRule → ℕ → ℕ → Tree → Type 0
NoneSoFar pairs rules from to t =
    (sig : Signature) (sort : ℕ) → sig.subsorts ≡ pairs → All (IsRuleOf sig sort) rules
    → IsTermOf sig t sort → NoRuleMatches sig rules from to t

-- the plain rule at an index
pub rule_at : (rules : List Rule) (i : ℕ) (r : Rule) → i < length rules → r ≡ get_or rules i r
    → slice_get (rewrite_rules rules) i ≡ Some (rewrite_rule r)
rule_at rules i r lt item = slice_get-map rewrite_rule rules i
    ∙ ap (λ o. option_map rewrite_rule o) (slice_get_read rules (length rules) i r refl lt item)

get_at : {A : Type 0} (xs : List A) (i : ℕ) (x d : A) → slice_get xs i ≡ Some x → get_or xs i d ≡ x
get_at [] i x d h = absurd (let no : ⊥ = cc in no)
get_at (y ∷ xs) zero x d h = cc
get_at (y ∷ xs) (suc i) x d h = get_at xs i x d h

-- what holds of all rules holds of the rule at an index
pub all_at : (P : RewriteRule → Type 0) (rules : List RewriteRule) (i : ℕ) (r : RewriteRule)
    → All P rules → slice_get rules i ≡ Some r → P r
all_at P rules i r all there =
    subst P (get_at rules i r r there) (all i r (slice_get_within rules i r there))

-- the result of a search at one rule
searched : (sig : Signature) (pairs : List (ℕ × ℕ)) (sort count : ℕ) (r : RewriteRule) (t : Tree)
    (found : Option (List (Option Tree)))
    → FindsMatch pairs count (more_patterns r.left no_pattern) (more_trees t no_tree) found
    → length r.variables ≡ count → sig.subsorts ≡ pairs → IsRuleOf sig sort r → IsTermOf sig t sort
    → MatchOption found
    (NoneMatches sig r.variables (more_patterns r.left no_pattern) (more_trees t no_tree))
    (MatchAll sig r.variables (more_patterns r.left no_pattern) (more_trees t no_tree))
searched sig pairs sort count r t found finds len is rule sorted =
    finds sig r.variables [] (Sort (record { 0 = sort }) ∷ []) is len (sort, refl, rule.left, tt)
    (sort, refl, sorted, tt)

below_or_at : (j i : ℕ) → j < i + 1 → (j < i) ⊎ (j ≡ i)
below_or_at j i h = grind arith

one_more : (sig : Signature) (rules : List RewriteRule) (from i : ℕ) (t : Tree) (r : RewriteRule)
    (j : ℕ) (rule : RewriteRule) → NoRuleMatches sig rules from i t → slice_get rules i ≡ Some r
    → NoneMatches sig r.variables (more_patterns r.left no_pattern) (more_trees t no_tree)
    → from ≤ j → slice_get rules j ≡ Some rule → (j < i) ⊎ (j ≡ i)
    → NoneMatches sig rule.variables (more_patterns rule.left no_pattern) (more_trees t no_tree)
one_more sig rules from i t r j rule before there last low at (inl below) =
    before j rule low below at
one_more sig rules from i t r j rule before there last low at (inr same) =
    let both : Some r ≡ Some rule = sym there ∙ ap (λ k. slice_get rules k) (sym same) ∙ at in
    let one : r ≡ rule = cc in
    let P : RewriteRule → Type 0 =
    λ x. NoneMatches sig x.variables (more_patterns x.left no_pattern) (more_trees t no_tree) in
    subst P one last

-- a trial continues after a rule that does not match
pub NoneSoFar-more : (pairs : List (ℕ × ℕ)) (rules : List RewriteRule) (from i count : ℕ) (t : Tree)
    (r : RewriteRule) → NoneSoFar pairs rules from i t → slice_get rules i ≡ Some r
    → length r.variables ≡ count
    → FindsMatch pairs count (more_patterns r.left no_pattern) (more_trees t no_tree) None
    → NoneSoFar pairs rules from (i + 1) t
NoneSoFar-more pairs rules from i count t r before there len finds =
    λ sig sort is all sorted j rule low high at.
    let rule_sorted : IsRuleOf sig sort r = all_at (IsRuleOf sig sort) rules i r all there in
    one_more sig rules from i t r j rule (before sig sort is all sorted) there
    (searched sig pairs sort count r t None finds len is rule_sorted sorted) low at
    (below_or_at j i high)

-- a trial ends at a rule that matches
pub found_first : (pairs : List (ℕ × ℕ)) (rules : List RewriteRule) (from i count : ℕ) (t : Tree)
    (r : RewriteRule) (theta : List (Option Tree)) → from ≤ i → NoneSoFar pairs rules from i t
    → slice_get rules i ≡ Some r → length r.variables ≡ count
    → FindsMatch pairs count (more_patterns r.left no_pattern) (more_trees t no_tree) (Some theta)
    → FindsFirstMatch pairs rules from t (Some (i, theta))
found_first pairs rules from i count t r theta low before there len finds =
    λ sig sort is all sorted. record {
      rule = r;
      there = there;
      not_before = low;
      matches =
          searched sig pairs sort count r t (Some theta) finds len is
          (all_at (IsRuleOf sig sort) rules i r all there) sorted;
      earlier = before sig sort is all sorted;
    }
