-- A pattern means one rule pattern.
use Rattle.std.proofs.Common.{◌≡◌, ℕ, List, Option, Some, None, refl, sym, ap, ◌∙◌}
use Rattle.kore_text.specs.Trees.{PatternTree}
use Rattle.term_core.specs.Patterns.{Pattern, Patterns}
use Rattle.rule_core.specs.declared.signature.Signature.{Signature}
use Rattle.kore_check.specs.Folds.{Unfolded, Unfoldeds}
use Rattle.kore_check.specs.PatternMeanings.{Means, by_variable, by_value, by_symbol, by_name}
use Rattle.kore_check.specs.PatternMeanings.{AllMean, none_mean, more_mean, named_part}
use Rattle.kore_axioms.specs.AxiomMeanings.{MeansTest}

some_same : {A : Type 0} (x y : A) → Some x ≡ Some y → x ≡ y
some_same x y e = cc

mutual
  pub means_one : (sig : Signature) (vars : List (List ℕ × ℕ)) {u : Unfolded} {p q : Pattern}
      → Means sig vars u p → Means sig vars u q → p ≡ q
  means_one sig vars (by_variable a b) (by_variable c d) = cc
  means_one sig vars (by_value a b) (by_value c d) = cc
  means_one sig vars (by_symbol a b all e) (by_symbol c d same f) =
      let one = all_mean_one sig vars all same in
      let a0 = a.0 in
      let a1 = a.1 in
      let c0 = c.0 in
      let c1 = c.1 in cc
  means_one sig vars (by_name {p = p} {q = q} {r = r} a b part) (by_name {p = x} {q = y} {r = z} c d
      same) =
      some_same r z (sym part ∙ ap (λ (w : Pattern). named_part w q) (means_one sig vars a c)
      ∙ ap (named_part x) (means_one sig vars b d) ∙ same)

  pub all_mean_one : (sig : Signature) (vars : List (List ℕ × ℕ)) {us : Unfoldeds}
      {ps qs : Patterns} → AllMean sig vars us ps → AllMean sig vars us qs → ps ≡ qs
  all_mean_one sig vars none_mean none_mean = refl
  all_mean_one sig vars (more_mean a all) (more_mean b same) =
      let first = means_one sig vars a b in
      let rest = all_mean_one sig vars all same in cc

pub test_means_one : (sig : Signature) (vars : List (List ℕ × ℕ)) (b : Option PatternTree)
    (p q : Option Pattern) → MeansTest sig vars b p → MeansTest sig vars b q → p ≡ q
test_means_one sig vars None None None m n = refl
test_means_one sig vars None None (Some q) m n = absurd n
test_means_one sig vars None (Some p) q m n = absurd m
test_means_one sig vars (Some b) None q m n = absurd m
test_means_one sig vars (Some b) (Some p) None m n = absurd n
test_means_one sig vars (Some b) (Some p) (Some q) m n = ap Some (means_one sig vars m n)
