-- The left side of a rule of a program with the names of its parts, and a configuration.
use Rattle.std.proofs.Common.{◌≡◌, ℕ, ◌≤◌, List, [], ◌∷◌, Option, length}
use Rattle.std.proofs.Common.{refl, sym, subst, ◌∙◌, arith}
use Rattle.term_core.specs.Terms.{Tree, no_tree, more_trees, height}
use Rattle.term_core.specs.Patterns.{no_pattern, more_patterns}
use Rattle.term_core.specs.PatternLists.{AllFitWithin, plain_patterns}
use Rattle.term_core.specs.declared.rule_patterns.RulePat.{RulePat}
use Rattle.rule_core.specs.Matching.{MatchAll, MatchNamed}
use Rattle.rule_core.specs.NamedLaws.{AddsNames}
use Rattle.rule_core.specs.Naming.{AreNamesOf}
use Rattle.rule_core.specs.ProgramView.{names_of, rewrite_rule}
use Rattle.rule_core.specs.WellSorted.{HaveNames}
use Rattle.rule_core.specs.declared.rules.Named.{Named}
use Rattle.rule_core.specs.declared.rules.Rule.{Rule}
use Rattle.rule_core.specs.declared.signature.Signature.{Signature}
use Rattle.rule_core.proofs.NamedMatches.{names_match}
use Rattle.fun_eval.proofs.Names.{all_fit, are_names_of}
use Rattle.refute_tests.proofs.LeftSides.{HaveOneSort}

-- parts of the left side have the names of the rule
pub have_names : (sig : Signature) (r : Rule) (t : Tree) (vs : List ℕ) (named : List Named)
    → HaveOneSort sig (rewrite_rule r) t → vs ≡ (rewrite_rule r).variables
    → named ≡ r.named.items
    → HaveNames sig vs (more_patterns (rewrite_rule r).left no_pattern) (names_of named)
have_names sig r t vs named is variables names =
    subst (λ (ws : List ℕ).
    HaveNames sig ws (more_patterns (rewrite_rule r).left no_pattern) (names_of named))
    (sym variables)
    (subst (λ (ns : List Named). HaveNames sig (rewrite_rule r).variables
    (more_patterns (rewrite_rule r).left no_pattern) (names_of ns)) (sym names) is.rule_of.names)

-- the names may be added to a substitution that matches without them
pub names_fit : (sig : Signature) (r : Rule) (t : Tree) (pats : List RulePat) (named : List Named)
    (theta : List (Option Tree)) → HaveOneSort sig (rewrite_rule r) t → height t ≤ 500
    → pats ≡ r.left ∷ [] → named ≡ r.named.items
    → MatchAll sig (rewrite_rule r).variables (more_patterns (rewrite_rule r).left no_pattern)
    (more_trees t no_tree) theta
    → AllFitWithin 500 theta (plain_patterns pats)
    × AreNamesOf (plain_patterns pats) (length theta) (names_of named)
names_fit sig r t pats named theta is low own names match =
    let fits : AllFitWithin 500 theta (plain_patterns (r.left ∷ [])) =
    all_fit 500 theta (more_patterns (rewrite_rule r).left no_pattern) (more_trees t no_tree)
    match.makes (omega (arith, low)) in
    let parts : AreNamesOf (plain_patterns (r.left ∷ [])) (length theta) (names_of named) =
    are_names_of sig (rewrite_rule r).variables
    (more_patterns (rewrite_rule r).left no_pattern) (names_of named) (length theta)
    (have_names sig r t (rewrite_rule r).variables named is refl names) match.binds.room in (
      subst (λ (ps : List RulePat). AllFitWithin 500 theta (plain_patterns ps)) (sym own) fits,
      subst (λ (ps : List RulePat).
          AreNamesOf (plain_patterns ps) (length theta) (names_of named)) (sym own) parts,
    )

-- with the names added it matches with them; the code has two copies of the names
pub names_added : (sig : Signature) (r : Rule) (t : Tree) (vs : List ℕ) (pats : List RulePat)
    (named again : List Named) (theta sigma : List (Option Tree))
    → HaveOneSort sig (rewrite_rule r) t → vs ≡ (rewrite_rule r).variables
    → pats ≡ r.left ∷ [] → named ≡ r.named.items → again ≡ r.named.items
    → MatchAll sig vs (more_patterns (rewrite_rule r).left no_pattern) (more_trees t no_tree) theta
    → AddsNames (plain_patterns pats) (names_of named) theta sigma
    → MatchNamed sig vs (more_patterns (rewrite_rule r).left no_pattern) (names_of again)
    (more_trees t no_tree) sigma
names_added sig r t vs pats named again theta sigma is variables own names names_again match adds =
    let all : AddsNames (plain_patterns (r.left ∷ [])) (names_of again) theta sigma =
    subst (λ (ps : List RulePat). AddsNames (plain_patterns ps) (names_of again) theta sigma) own
    (subst (λ (ns : List Named). AddsNames (plain_patterns pats) (names_of ns) theta sigma)
    (names ∙ sym names_again) adds) in
    names_match sig vs (more_patterns (rewrite_rule r).left no_pattern) (names_of again)
    (more_trees t no_tree) theta sigma (have_names sig r t vs again is variables names_again) match
    all
