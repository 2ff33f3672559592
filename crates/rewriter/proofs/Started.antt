-- The start of a run.
use Rattle.std.proofs.Common.{◌≡◌, ℕ, ◌<◌, inl, List, [], ◌∷◌, Option, Some, None, refl, sym, subst}
use Rattle.std.proofs.Common.{arith}
use Rattle.term_core.specs.Terms.{Tree}
use Rattle.term_core.specs.Patterns.{Pattern, no_pattern, more_patterns}
use Rattle.rule_core.specs.Theories.{RewriteTheory}
use Rattle.rule_core.specs.Sorting.{HasSort}
use Rattle.rule_core.specs.WellSorted.{IsWellSorted, BindsVariablesOf, IsStart}
use Rattle.rule_core.specs.Evaluation.{value, Evaluates}
use Rattle.rule_core.specs.FirstRule.{most_nesting}
use Rattle.rule_core.specs.Runs.{Reaches, at_start}
use Rattle.rule_core.specs.declared.signature.SortRef.TheVariants.{Sort}
use Rattle.rule_core.proofs.SortedInstances.{sorted_use_first}
use Rattle.rule_core.proofs.RunAnswers.{configurations_are_sorted}
use Rattle.fun_eval.specs.Evaluable.{IsEvaluable}
use Rattle.rewriter.specs.Configurations.{IsConfiguration}

serves_start : (theory : RewriteTheory) (start : Pattern) (sort : ℕ)
    → HasSort theory.sig [] start sort → BindsVariablesOf theory.sig [] [] start
serves_start theory start sort h = record {
  bound =
      λ x stands. absurd (none x (sorted_use_first theory.sig [] [] (more_patterns start no_pattern)
      (Sort (record { 0 = sort }) ∷ []) (sort, refl, h, tt) x (inl stands)));
  sorted = λ x t b. absurd (no_term t b);
  low = λ x t b. absurd (no_term t b);
} where
  none : (x : ℕ) → x < 0 → ⊥
  none x lt = omega arith

  no_term : (t : Tree) → None ≡ Some t → ⊥
  no_term t e = cc

pub start_evaluable : (theory : RewriteTheory) (start : Pattern) (theta : List (Option Tree))
    → IsStart theory start → theta ≡ [] → IsEvaluable theory theta start
start_evaluable theory start theta is none =
    subst (λ th. IsEvaluable theory th start) (sym none)
    ([], is.0, is.1, serves_start theory start is.0 is.1)

pub run_started : (theory : RewriteTheory) (start : Pattern) (theta : List (Option Tree))
    (calls left : ℕ) (t : Tree) → theta ≡ []
    → Evaluates theory most_nesting theta start calls (value t left)
    → Reaches theory start calls 0 t left
run_started theory start theta calls left t none e =
    at_start (subst (λ th. Evaluates theory most_nesting th start calls (value t left)) none e)

pub start_sorted : (theory : RewriteTheory) (start : Pattern) (calls left : ℕ) (t : Tree)
    → IsWellSorted theory → IsStart theory start → Reaches theory start calls 0 t left
    → IsConfiguration theory t
start_sorted theory start calls left t good is reaches =
    let fine = configurations_are_sorted theory good calls is.0 start is.2 is.1 reaches in
    (is.0, is.2, fine.0)
