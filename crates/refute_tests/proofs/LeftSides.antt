-- The left side of a rule of a program, and a configuration.
use Rattle.std.proofs.Common.{◌≡◌, ℕ, ◌<◌, List, [], ◌∷◌, Option, Some, None, length, refl, sym}
use Rattle.std.proofs.Common.{subst, arith}
use Rattle.std.specs.Prelude.{All, slice_get, vec_len}
use Rattle.std.proofs.lemmas.List.{length-map}
use Rattle.std.proofs.lemmas.List.Elements.{All-get_or, All-tail}
use Rattle.std.proofs.lemmas.Option.{slice_get_within, get_or_from_slice_get}
use Rattle.term_core.specs.Terms.{Tree, no_tree, more_trees}
use Rattle.term_core.specs.Patterns.{Patterns, no_pattern, more_patterns}
use Rattle.rule_core.specs.Matching.{MatchAll, NoneMatches}
use Rattle.rule_core.specs.MatchSearch.{FindsMatch}
use Rattle.rule_core.specs.ProgramView.{rewrite_rule, theory_of}
use Rattle.rule_core.specs.Rules.{RewriteRule}
use Rattle.rule_core.specs.RuleVariables.{MatchesByOwnVariables}
use Rattle.rule_core.specs.Sorting.{AreSorts, IsTermOf}
use Rattle.rule_core.specs.Theories.{RewriteTheory}
use Rattle.rule_core.specs.WellSorted.{IsRuleOf}
use Rattle.rule_core.specs.declared.rules.Program.{Program}
use Rattle.rule_core.specs.declared.rules.Rule.{Rule}
use Rattle.rule_core.specs.declared.rules.VarInfo.{VarInfo}
use Rattle.rule_core.specs.declared.signature.Signature.{Signature}
use Rattle.rule_core.specs.declared.signature.SortRef.TheVariants.{Sort}
use Rattle.rule_core.proofs.SortedInstances.{sorted_use_first}
use Rattle.rewriter.specs.Configurations.{IsConfiguration}

-- the left side of the rule and the term have one sort
pub record HaveOneSort (sig : Signature) (rule : RewriteRule) (t : Tree) : Type 0 where
  pub sort : ℕ
  pub rule_of : IsRuleOf sig sort rule
  pub term : IsTermOf sig t sort

pub one_sort : (theory : RewriteTheory) (rule : RewriteRule) (t : Tree) (i : ℕ)
    → IsConfiguration theory t → slice_get theory.rules i ≡ Some rule
    → HaveOneSort theory.sig rule t
one_sort theory rule t i is there = record {
  sort = is.0;
  rule_of =
      subst (IsRuleOf theory.sig is.0) (get_or_from_slice_get theory.rules i rule rule there)
      (All-get_or (IsRuleOf theory.sig is.0) theory.rules i rule
      (slice_get_within theory.rules i rule there) is.1);
  term = is.2;
}

-- the left side uses only variables of the rule
pub own_variables : (sig : Signature) (r : Rule) (t : Tree) → HaveOneSort sig (rewrite_rule r) t
    → MatchesByOwnVariables r
own_variables sig r t is x stands =
    let low : x < length (rewrite_rule r).variables =
    sorted_use_first sig (rewrite_rule r).variables []
    (more_patterns (rewrite_rule r).left no_pattern) (Sort (record { 0 = is.sort }) ∷ [])
    (is.sort, refl, is.rule_of.left, tt) x stands in
    let count : length (rewrite_rule r).variables ≡ length r.vars.items =
    length-map r.vars.items (λ (v : VarInfo). v.sort.0) in
    omega (arith, low, count)

pub are_sorts : (sig : Signature) (ns : List ℕ) → All (λ s. s < length sig.sorts) ns
    → AreSorts sig ns
are_sorts sig [] all = tt
are_sorts sig (n ∷ ns) all = (
  All-get_or (λ s. s < length sig.sorts) (n ∷ ns) 0 n (omega arith) all,
  are_sorts sig ns (All-tail (λ s. s < length sig.sorts) n ns all),
)

count_of : (r : Rule) → length (rewrite_rule r).variables ≡ vec_len r.vars
count_of r = let count : length (rewrite_rule r).variables ≡ length r.vars.items =
    length-map r.vars.items (λ (v : VarInfo). v.sort.0) in omega (arith, count)

pub sorted_rule : (p q : Program) (r : Rule) (t : Tree) (i : ℕ) → q ≡ p
    → IsConfiguration (theory_of p) t → slice_get (theory_of q).rules i ≡ Some (rewrite_rule r)
    → HaveOneSort p.sig (rewrite_rule r) t
sorted_rule p q r t i same is there =
    one_sort (theory_of p) (rewrite_rule r) t i is
    (subst (λ (x : Program). slice_get (theory_of x).rules i ≡ Some (rewrite_rule r)) same there)

pub none_matches : (p q : Program) (r : Rule) (t : Tree) (vs : List ℕ)
    (o : Option (List (Option Tree))) → q ≡ p → HaveOneSort p.sig (rewrite_rule r) t
    → vs ≡ (rewrite_rule r).variables → o ≡ None
    → FindsMatch q.sig.subsorts (vec_len r.vars)
    (more_patterns (rewrite_rule r).left no_pattern) (more_trees t no_tree) o
    → NoneMatches p.sig vs (more_patterns (rewrite_rule r).left no_pattern) (more_trees t no_tree)
none_matches p q r t vs o same is variables none finds =
    let whole : (ps : Patterns) → FindsMatch q.sig.subsorts (vec_len r.vars) ps
    (more_trees t no_tree) o
    → FindsMatch p.sig.subsorts (vec_len r.vars) ps (more_trees t no_tree) None =
    λ ps f. subst (λ (x : Program). FindsMatch x.sig.subsorts (vec_len r.vars) ps
    (more_trees t no_tree) None) same
    (subst (FindsMatch q.sig.subsorts (vec_len r.vars) ps (more_trees t no_tree)) none f) in
    subst (λ (ws : List ℕ). NoneMatches p.sig ws (more_patterns (rewrite_rule r).left no_pattern)
    (more_trees t no_tree)) (sym variables)
    (whole (more_patterns (rewrite_rule r).left no_pattern) finds p.sig (rewrite_rule r).variables
    [] (Sort (record { 0 = is.sort }) ∷ []) refl (count_of r) (is.sort, refl, is.rule_of.left, tt)
    (is.sort, refl, is.term, tt))

pub one_matches : (p q : Program) (r : Rule) (t : Tree) (vs : List ℕ)
    (o : Option (List (Option Tree))) (theta : List (Option Tree)) → q ≡ p
    → HaveOneSort p.sig (rewrite_rule r) t → vs ≡ (rewrite_rule r).variables → o ≡ Some theta
    → FindsMatch q.sig.subsorts (vec_len r.vars)
    (more_patterns (rewrite_rule r).left no_pattern) (more_trees t no_tree) o
    → MatchAll p.sig vs (more_patterns (rewrite_rule r).left no_pattern) (more_trees t no_tree)
    theta
one_matches p q r t vs o theta same is variables one finds =
    let whole : (ps : Patterns) → FindsMatch q.sig.subsorts (vec_len r.vars) ps
    (more_trees t no_tree) o
    → FindsMatch p.sig.subsorts (vec_len r.vars) ps (more_trees t no_tree) (Some theta) =
    λ ps f. subst (λ (x : Program). FindsMatch x.sig.subsorts (vec_len r.vars) ps
    (more_trees t no_tree) (Some theta)) same
    (subst (FindsMatch q.sig.subsorts (vec_len r.vars) ps (more_trees t no_tree)) one f) in
    subst (λ (ws : List ℕ). MatchAll p.sig ws (more_patterns (rewrite_rule r).left no_pattern)
    (more_trees t no_tree) theta) (sym variables)
    (whole (more_patterns (rewrite_rule r).left no_pattern) finds p.sig (rewrite_rule r).variables
    [] (Sort (record { 0 = is.sort }) ∷ []) refl (count_of r) (is.sort, refl, is.rule_of.left, tt)
    (is.sort, refl, is.term, tt))
