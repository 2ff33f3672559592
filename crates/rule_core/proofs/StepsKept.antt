-- A step has a record.
use Rattle.std.proofs.Common.{◌≡◌, ℕ, suc, zero, ◌+◌, ◌-◌, ◌<◌, ◌≤◌, inl, inr, List, ◌∷◌, Option}
use Rattle.std.proofs.Common.{Some, refl, subst, slice_get, le_trans, arith}
use Rattle.term_core.specs.Terms.{Tree}
use Rattle.term_core.specs.Patterns.{Pattern}
use Rattle.rule_core.specs.Rules.{RewriteRule}
use Rattle.rule_core.specs.Theories.{RewriteTheory}
use Rattle.rule_core.specs.Evaluation.{value, blocked, ConditionOutcome, fails, says_nothing}
use Rattle.rule_core.specs.FirstRule.{most_nesting, Matches, Meets, no_rule_condition}
use Rattle.rule_core.specs.FirstRule.{rule_condition, applies, Tries, rule_unmatched}
use Rattle.rule_core.specs.FirstRule.{rule_condition_fails, condition_holds}
use Rattle.rule_core.specs.Runs.{by_rule}
use Rattle.rule_core.specs.Records.{RecordsCondition, OptionalRecord, unconditional, IsUnusedRule}
use Rattle.rule_core.specs.Records.{most_calls}
use Rattle.rule_core.specs.RunLaws.{StepHasRecord}
use Rattle.rule_core.proofs.MoreLeft.{with_calls, IsTold, more_says, evaluates_more}
use Rattle.rule_core.proofs.RecordsKept.{LeavesAtMost, says_at_most, calls_fall, ConditionRecord}
use Rattle.rule_core.proofs.RecordsKept.{condition_record, has_record}

-- the condition of a rule, with more calls left
meets_more : (theory : RewriteTheory) (k : ℕ) {c : ℕ} {theta : List (Option Tree)}
    {p : Option Pattern} {r : ConditionOutcome} → Meets theory theta p c r → IsTold r
    → Meets theory theta p (c + k) (with_calls k r)
meets_more theory k no_rule_condition told = no_rule_condition
meets_more theory k (rule_condition {e = value t d} e says) told =
    rule_condition (evaluates_more theory k e most_nesting (omega arith)) (more_says k says)
meets_more theory k (rule_condition {e = blocked cause} e says_nothing) told = absurd told

meets_fall : {theory : RewriteTheory} {c : ℕ} {theta : List (Option Tree)} {p : Option Pattern}
    {r : ConditionOutcome} → Meets theory theta p c r → LeavesAtMost c r
meets_fall no_rule_condition = omega arith
meets_fall (rule_condition {e = value t d} e says) = says_at_most says (calls_fall e)
meets_fall (rule_condition {e = blocked cause} e says_nothing) = tt

meets_record : (theory : RewriteTheory) {c : ℕ} {theta : List (Option Tree)} {p : Option Pattern}
    {r : ConditionOutcome} → Meets theory theta p c r → c ≤ most_calls
    → ConditionRecord theory theta p r
meets_record theory no_rule_condition few = (unconditional, refl)
meets_record theory (rule_condition {p = p} {e = value t d} e says) few =
    condition_record theory p says (has_record theory e (omega arith) few)
meets_record theory (rule_condition {e = blocked cause} e says_nothing) few = tt

failed_with : (theory : RewriteTheory) (theta : List (Option Tree)) (p : Option Pattern) (c d k : ℕ)
    → Meets theory theta p c (fails d) → c ≤ k → (left : ℕ) × Meets theory theta p k (fails left)
failed_with theory theta p c d k test few =
    let whole : c + (k - c) ≡ k = omega arith in (
      d
          + (k - c),
      subst (λ j. Meets theory theta p j (fails (d + (k - c)))) whole
          (meets_more theory (k - c) test tt),
    )

unused_rule : (theory : RewriteTheory) (t : Tree) (rule : RewriteRule) (theta : List (Option Tree))
    (c d : ℕ) → Matches theory rule t theta → Meets theory theta rule.condition c (fails d)
    → c ≤ most_calls → IsUnusedRule theory rule t
unused_rule theory t rule theta c d m test few =
    let failed = failed_with theory theta rule.condition c d most_calls test few in
    inr (theta, failed.0, m, failed.1)

-- the rule that is used, with the record of its condition
record Used (theory : RewriteTheory) (t : Tree) (c left : ℕ) (rules : List RewriteRule)
    (rule : RewriteRule) (theta : List (Option Tree)) : Type 0 where
  place : ℕ
  there : slice_get rules place ≡ Some rule
  matches : Matches theory rule t theta
  earlier : (j : ℕ) (other : RewriteRule) → j < place → slice_get rules j ≡ Some other
      → IsUnusedRule theory other t
  test : OptionalRecord
  condition : RecordsCondition theory theta rule.condition test
  fewer : left ≤ c

one_later : {theory : RewriteTheory} {t : Tree} {b c left : ℕ} {rules : List RewriteRule}
    {rule : RewriteRule} {theta : List (Option Tree)} (first : RewriteRule)
    → IsUnusedRule theory first t → b ≤ c → Used theory t b left rules rule theta
    → Used theory t c left (first ∷ rules) rule theta
one_later {theory} {t} {rules = rules} first unused le a = record {
  place = suc a.place;
  there = a.there;
  matches = a.matches;
  earlier = before;
  test = a.test;
  condition = a.condition;
  fewer = le_trans a.fewer le;
} where
  before : (j : ℕ) (other : RewriteRule) → j < suc a.place
      → slice_get (first ∷ rules) j ≡ Some other → IsUnusedRule theory other t
  before zero other lt s =
      let k : Some first ≡ Some other = s in
      let same : first ≡ other = cc in subst (λ r. IsUnusedRule theory r t) same unused
  before (suc j) other lt s = a.earlier j other (omega arith) s

rule_used : (theory : RewriteTheory) {t : Tree} {i c j d : ℕ} {rules : List RewriteRule}
    {rule : RewriteRule} {theta : List (Option Tree)}
    → Tries theory t i rules c (applies j rule theta d) → c ≤ most_calls
    → Used theory t c d rules rule theta
rule_used theory (rule_unmatched {rule = first} never others) few =
    one_later first (inl never) (omega arith) (rule_used theory others few)
rule_used theory {t} (rule_condition_fails {c = c} {d = d} {rule = first} {theta = theta} m test
    others)
    few =
    let le : d ≤ c = meets_fall test in
    one_later first (unused_rule theory t first theta c d m test few) le
    (rule_used theory others (le_trans le few))
rule_used theory (condition_holds {c = c} {d = d} m test) few =
    let o = meets_record theory test few in
    record {
      place = 0;
      there = refl;
      matches = m;
      earlier = λ j other lt s. absurd (omega arith);
      test = o.0;
      condition = o.1;
      fewer = meets_fall test;
    }

pub step_has_record : StepHasRecord
step_has_record theory t u c d few (by_rule {rule = rule} {theta = theta} tries right) =
    let a = rule_used theory tries few in
    let r = has_record theory right (omega arith) (le_trans a.fewer few) in (
      record { rule = a.place; theta = theta; condition = a.test; right = r.0 },
      record {
        rule =
            rule;
        there = a.there;
        matches = a.matches;
        earlier = a.earlier;
        condition = a.condition;
        right = r.1;
      },
      r.2,
    )
