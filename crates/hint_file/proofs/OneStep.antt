-- A step by a rule has one outcome.
use Rattle.std.proofs.Common.{◌≡◌, ℕ, ◌⊎◌, inl, inr, List, Option, Some, None, refl, sym, ◌∙◌, ap}
use Rattle.std.proofs.Common.{subst}
use Rattle.term_core.specs.Terms.{Tree}
use Rattle.term_core.specs.Patterns.{Pattern}
use Rattle.rule_core.specs.Rules.{RewriteRule}
use Rattle.rule_core.specs.Theories.{RewriteTheory}
use Rattle.rule_core.specs.WellSorted.{IsWellSorted}
use Rattle.rule_core.specs.Evaluation.{Evaluated, value, blocked, ConditionOutcome, holds, fails}
use Rattle.rule_core.specs.Evaluation.{untested, Says, Evaluates}
use Rattle.rule_core.specs.FirstRule.{most_nesting, Matches, IsUnmatched, Meets, no_rule_condition}
use Rattle.rule_core.specs.FirstRule.{rule_condition}
use Rattle.rule_core.specs.Runs.{Stepped, steps_on, stays, stops}
use Rattle.rule_core.proofs.Determined.{evaluation_is_unique}
use Rattle.rule_core.proofs.EvaluationUnique.{says_only}
use Rattle.rule_core.proofs.FirstApplies.{all_at}
use Rattle.rule_core.proofs.RunUnique.{RuleMatchesOnce, rules_match_once}
use Rattle.hint_file.specs.Paths.{StepsBy, applied, does_not_match, condition_fails}
use Rattle.hint_file.specs.Paths.{condition_blocked, right_side_blocked}
use Rattle.hint_file.specs.ReadingLaws.{StepByIsOne}

-- what the value of a right side makes of a step
abbrev stepped : Evaluated → Stepped
stepped (value u e) = steps_on u e
stepped (blocked cause) = stops cause

abbrev AfterTest : RewriteTheory → RewriteRule → List (Option Tree) → ConditionOutcome → Stepped
    → Type 0
AfterTest theory rule theta (holds d) s =
    (e : Evaluated) × Evaluates theory most_nesting theta rule.right d e × (s ≡ stepped e)
AfterTest theory rule theta (fails d) s = s ≡ stays
AfterTest theory rule theta (untested cause) s = s ≡ stops cause

record AfterMatch (theory : RewriteTheory) (rule : RewriteRule) (t : Tree) (c : ℕ) (s : Stepped)
    : Type 0 where
  theta : List (Option Tree)
  match : Matches theory rule t theta
  outcome : ConditionOutcome
  met : Meets theory theta rule.condition c outcome
  after : AfterTest theory rule theta outcome s

split : {theory : RewriteTheory} {rule : RewriteRule} {t : Tree} {c : ℕ} {s : Stepped}
    → StepsBy theory rule t c s
    → (IsUnmatched theory rule t × (s ≡ stays)) ⊎ AfterMatch theory rule t c s
split (applied {d = d} {e = e} {theta = theta} {u = u} match met right) = inr (record {
  theta = theta;
  match = match;
  outcome = holds d;
  met = met;
  after = (value u e, right, refl);
})
split (does_not_match never) = inl (never, refl)
split (condition_fails {d = d} {theta = theta} match met) = inr (record {
  theta = theta;
  match = match;
  outcome = fails d;
  met = met;
  after = refl;
})
split (condition_blocked {theta = theta} {cause = cause} match met) = inr (record {
  theta = theta;
  match = match;
  outcome = untested cause;
  met = met;
  after = refl;
})
split (right_side_blocked {d = d} {theta = theta} {cause = cause} match met right) = inr (record {
  theta = theta;
  match = match;
  outcome = holds d;
  met = met;
  after = (blocked cause, right, refl);
})

-- ---- the condition

abbrev AtCondition : RewriteTheory → List (Option Tree) → ℕ → Option Pattern → ConditionOutcome
    → Type 0
AtCondition theory theta c None x = x ≡ holds c
AtCondition theory theta c (Some p) x =
    (e : Evaluated) × Evaluates theory most_nesting theta p c e × Says e x

at_condition : {theory : RewriteTheory} {theta : List (Option Tree)} {c : ℕ} {o : Option Pattern}
    {x : ConditionOutcome} → Meets theory theta o c x → AtCondition theory theta c o x
at_condition no_rule_condition = refl
at_condition (rule_condition {e = e} evaluated says) = (e, evaluated, says)

one_condition : (theory : RewriteTheory) (theta : List (Option Tree)) (c : ℕ) (o : Option Pattern)
    (x y : ConditionOutcome) → IsWellSorted theory → AtCondition theory theta c o x
    → AtCondition theory theta c o y → x ≡ y
one_condition theory theta c None x y good h k = h ∙ sym k
one_condition theory theta c (Some p) x y good h k =
    let same : h.0 ≡ k.0 =
    evaluation_is_unique theory most_nesting c theta p h.0 k.0 good h.1 k.1 in
    says_only h.2 (subst (λ (e : Evaluated). Says e y) (sym same) k.2)

one_after : (theory : RewriteTheory) (rule : RewriteRule) (theta : List (Option Tree))
    (x : ConditionOutcome) (r s : Stepped) → IsWellSorted theory
    → AfterTest theory rule theta x r → AfterTest theory rule theta x s → r ≡ s
one_after theory rule theta (holds d) r s good h k =
    h.2 ∙ ap stepped (evaluation_is_unique theory most_nesting d theta rule.right h.0 k.0 good h.1
    k.1) ∙ sym k.2
one_after theory rule theta (fails d) r s good h k = h ∙ sym k
one_after theory rule theta (untested cause) r s good h k = h ∙ sym k

-- ---- the step

one_split : (theory : RewriteTheory) (rule : RewriteRule) (t : Tree) (c : ℕ) (r s : Stepped)
    → IsWellSorted theory → RuleMatchesOnce theory rule
    → (IsUnmatched theory rule t × (r ≡ stays)) ⊎ AfterMatch theory rule t c r
    → (IsUnmatched theory rule t × (s ≡ stays)) ⊎ AfterMatch theory rule t c s → r ≡ s
one_split theory rule t c r s good once (inl a) (inl b) = a.1 ∙ sym b.1
one_split theory rule t c r s good once (inl a) (inr b) = absurd (a.0 b.theta b.match)
one_split theory rule t c r s good once (inr a) (inl b) = absurd (b.0 a.theta a.match)
one_split theory rule t c r s good once (inr a) (inr b) =
    let theta : b.theta ≡ a.theta = once t b.theta a.theta b.match a.match in
    let met : Meets theory a.theta rule.condition c b.outcome =
    subst (λ (th : List (Option Tree)). Meets theory th rule.condition c b.outcome) theta b.met in
    let outcome : b.outcome ≡ a.outcome =
    one_condition theory a.theta c rule.condition b.outcome a.outcome good (at_condition met)
    (at_condition a.met) in
    let after : AfterTest theory rule a.theta b.outcome s =
    subst (λ (th : List (Option Tree)). AfterTest theory rule th b.outcome s) theta b.after in
    one_after theory rule a.theta a.outcome r s good a.after
    (subst (λ (x : ConditionOutcome). AfterTest theory rule a.theta x s) outcome after)

pub step_by_is_one : StepByIsOne
step_by_is_one theory i c rule t r s good there h k =
    one_split theory rule t c r s good
    (all_at (RuleMatchesOnce theory) theory.rules i rule (rules_match_once theory good) there)
    (split h) (split k)
