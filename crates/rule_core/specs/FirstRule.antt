-- The first rule that applies to a term (K framework, "Rules"). Rules are tried in their order. The
-- calls that one condition leaves are available to the next.
use Rattle.std.specs.Prelude.{ℕ, ◌+◌, List, [], ◌∷◌, Option, Some, None}
use Rattle.term_core.specs.Terms.{Tree, no_tree, more_trees}
use Rattle.term_core.specs.Patterns.{Pattern, no_pattern, more_patterns}
use Rattle.rule_core.specs.Rules.{RewriteRule}
use Rattle.rule_core.specs.Theories.{RewriteTheory}
use Rattle.rule_core.specs.Matching.{MatchNamed, AreUnmatched}
use Rattle.rule_core.specs.Evaluation.{Cause, Evaluated, ConditionOutcome, holds, fails, untested}
use Rattle.rule_core.specs.Evaluation.{Says, Evaluates}

-- the nesting at which a condition or a right side of a rule is evaluated
abbrev pub most_nesting : ℕ
most_nesting = 2000

-- the substitution matches the left side with the term
abbrev pub Matches : RewriteTheory → RewriteRule → Tree → List (Option Tree) → Type 0
Matches theory rule t theta =
    MatchNamed theory.sig rule.variables (more_patterns rule.left no_pattern) rule.names
    (more_trees t no_tree) theta

-- no substitution does
abbrev pub IsUnmatched : RewriteTheory → RewriteRule → Tree → Type 0
IsUnmatched theory rule t =
    AreUnmatched theory.sig rule.variables (more_patterns rule.left no_pattern) rule.names
    (more_trees t no_tree)

-- the condition of a rule, if it has one
pub data Meets (theory : RewriteTheory) (theta : List (Option Tree)) : Option Pattern → ℕ
    → ConditionOutcome → Type 0 where
  no_rule_condition : {c : ℕ} → Meets theory theta None c (holds c)
  rule_condition : {c : ℕ} {p : Pattern} {e : Evaluated} {r : ConditionOutcome}
      → Evaluates theory most_nesting theta p c e → Says e r → Meets theory theta (Some p) c r

-- the outcome of trying rules: the rule with this number applies with this substitution, and this
-- many calls are left; or none applies; or a condition that is reached is blocked
pub data Trial : Type 0 where
  applies : ℕ → RewriteRule → List (Option Tree) → ℕ → Trial
  none_applies : Trial
  trial_blocked : Cause → Trial

-- the outcome of trying these rules on a term, where this is the number of the first one
pub data Tries (theory : RewriteTheory) (t : Tree) : ℕ → List RewriteRule → ℕ → Trial → Type 0 where
  no_rule_left : {i c : ℕ} → Tries theory t i [] c none_applies
  rule_unmatched : {i c : ℕ} {rule : RewriteRule} {rules : List RewriteRule} {r : Trial}
      → IsUnmatched theory rule t → Tries theory t (i + 1) rules c r
      → Tries theory t i (rule ∷ rules) c r
  rule_condition_fails : {i c d : ℕ} {rule : RewriteRule} {rules : List RewriteRule} {r : Trial}
      {theta : List (Option Tree)} → Matches theory rule t theta
      → Meets theory theta rule.condition c (fails d) → Tries theory t (i + 1) rules d r
      → Tries theory t i (rule ∷ rules) c r
  rule_condition_blocked : {i c : ℕ} {rule : RewriteRule} {rules : List RewriteRule}
      {theta : List (Option Tree)} {cause : Cause} → Matches theory rule t theta
      → Meets theory theta rule.condition c (untested cause)
      → Tries theory t i (rule ∷ rules) c (trial_blocked cause)
  condition_holds : {i c d : ℕ} {rule : RewriteRule} {rules : List RewriteRule}
      {theta : List (Option Tree)} → Matches theory rule t theta
      → Meets theory theta rule.condition c (holds d)
      → Tries theory t i (rule ∷ rules) c (applies i rule theta d)
