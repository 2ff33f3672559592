-- An evaluation that has a value also has it with more nesting and more calls left. Then it leaves
-- as many more calls.
use Rattle.std.proofs.Common.{◌≡◌, ℕ, suc, zero, ◌+◌, ◌≤◌, List, Option, arith}
use Rattle.term_core.specs.Terms.{Tree, Forest}
use Rattle.term_core.specs.Patterns.{Pattern, Patterns}
use Rattle.rule_core.specs.Rules.{Equation}
use Rattle.rule_core.specs.Theories.{RewriteTheory}
use Rattle.rule_core.specs.Evaluation.{value, blocked, values, ConditionOutcome, holds, fails}
use Rattle.rule_core.specs.Evaluation.{untested, Says, says_true, says_other, says_nothing}
use Rattle.rule_core.specs.Evaluation.{Evaluates, bound, itself, made, function_called, EvaluateAll}
use Rattle.rule_core.specs.Evaluation.{none_left, one_more, HasOutcome, by_hook, by_equations}
use Rattle.rule_core.specs.Evaluation.{Equates, unmatched, condition_fails, used, Tests}
use Rattle.rule_core.specs.Evaluation.{no_condition, condition, EvaluatesIn, inside}

-- k more calls are left
abbrev pub with_calls : ℕ → ConditionOutcome → ConditionOutcome
with_calls k (holds c) = holds (c + k)
with_calls k (fails c) = fails (c + k)
with_calls k (untested cause) = untested cause

-- a condition holds or fails, and is not blocked
abbrev pub IsTold : ConditionOutcome → Type 0
IsTold (holds c) = Unit {0}
IsTold (fails c) = Unit {0}
IsTold (untested cause) = ⊥

pub more_says : {c : ℕ} (k : ℕ) {t : Tree} {r : ConditionOutcome} → Says (value t c) r
    → Says (value t (c + k)) (with_calls k r)
more_says k (says_true is) = says_true is
more_says k (says_other other) = says_other other

mutual
  pub evaluates_more : (theory : RewriteTheory) (k : ℕ) {n c d : ℕ} {theta : List (Option Tree)}
      {p : Pattern} {t : Tree} → Evaluates theory n theta p c (value t d) → (m : ℕ) → n ≤ m
      → Evaluates theory m theta p (c + k) (value t (d + k))
  evaluates_more theory k (bound e) m le = bound e
  evaluates_more theory k itself m le = itself
  evaluates_more theory k (made h all b low) zero le = absurd (omega arith)
  evaluates_more theory k (made h all b low) (suc m) le =
      made h (all_more theory k all m (omega arith)) b low
  evaluates_more theory k (function_called all applied) zero le = absurd (omega arith)
  evaluates_more theory k (function_called all applied) (suc m) le =
      function_called (all_more theory k all m (omega arith)) (applies_more theory k applied m
      (omega arith))

  pub all_more : (theory : RewriteTheory) (k : ℕ) {n c d : ℕ} {theta : List (Option Tree)}
      {ps : Patterns} {ts : Forest} → EvaluateAll theory n theta ps c (values ts d) → (m : ℕ)
      → n ≤ m → EvaluateAll theory m theta ps (c + k) (values ts (d + k))
  all_more theory k none_left m le = none_left
  all_more theory k (one_more e all) m le =
      one_more (evaluates_more theory k e m le) (all_more theory k all m le)

  pub applies_more : (theory : RewriteTheory) (k : ℕ) {n f c d : ℕ} {ts : Forest} {t : Tree}
      → HasOutcome theory n f ts c (value t d) → (m : ℕ) → n ≤ m
      → HasOutcome theory m f ts (c + k) (value t (d + k))
  applies_more theory k (by_hook {c = c} i a s) m le =
      let e : suc c + k ≡ suc (c + k) = omega arith in rw e (by_hook i a s)
  applies_more theory k (by_equations {c = c} i is e) m le =
      let s : suc c + k ≡ suc (c + k) = omega arith in
      rw s (by_equations i is (equates_more theory k e m le))

  pub equates_more : (theory : RewriteTheory) (k : ℕ) {n f c d : ℕ} {es : List Equation}
      {ts : Forest} {t : Tree} → Equates theory n f es ts c (value t d) → (m : ℕ) → n ≤ m
      → Equates theory m f es ts (c + k) (value t (d + k))
  equates_more theory k (unmatched never others) m le =
      unmatched never (equates_more theory k others m le)
  equates_more theory k (condition_fails match test others) m le =
      condition_fails match (tests_more theory k test tt m le) (equates_more theory k others m le)
  equates_more theory k (used match test right) m le =
      used match (tests_more theory k test tt m le) (within_more theory k right m le)

  pub tests_more : (theory : RewriteTheory) (k : ℕ) {n f c : ℕ} {theta : List (Option Tree)}
      {p : Option Pattern} {r : ConditionOutcome} → Tests theory n f theta p c r → IsTold r
      → (m : ℕ)
      → n ≤ m → Tests theory m f theta p (c + k) (with_calls k r)
  tests_more theory k no_condition told m le = no_condition
  tests_more theory k (condition {e = value t d} e says) told m le =
      condition (within_more theory k e m le) (more_says k says)
  tests_more theory k (condition {e = blocked cause} e says_nothing) told m le = absurd told

  pub within_more : (theory : RewriteTheory) (k : ℕ) {n f c d : ℕ} {theta : List (Option Tree)}
      {p : Pattern} {t : Tree} → EvaluatesIn theory n f theta p c (value t d) → (m : ℕ) → n ≤ m
      → EvaluatesIn theory m f theta p (c + k) (value t (d + k))
  within_more theory k (inside e) zero le = absurd (omega arith)
  within_more theory k (inside e) (suc m) le = inside (evaluates_more theory k e m (omega arith))
