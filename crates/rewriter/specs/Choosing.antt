-- What the private functions that try rules return.
use Rattle.std.specs.Prelude.{◌≡◌, ◌<◌, ◌≤◌, ℕ, List, Option, Some, None, slice_get, Result}
use Rattle.term_core.specs.Terms.{Tree}
use Rattle.term_core.specs.Patterns.{Pattern}
use Rattle.rule_core.specs.Rules.{RewriteRule}
use Rattle.rule_core.specs.Theories.{RewriteTheory}
use Rattle.rule_core.specs.Sorting.{IsTermOf}
use Rattle.rule_core.specs.WellSorted.{IsRuleOf}
use Rattle.rule_core.specs.Evaluation.{holds, fails, untested}
use Rattle.rule_core.specs.FirstRule.{Matches, Meets, applies, none_applies}
use Rattle.rule_core.specs.FirstRule.{trial_blocked, Tries}
use Rattle.rule_core.specs.Records.{Record, OptionalRecord, RecordsCondition, IsUnusedRule}
use Rattle.fun_eval.specs.Giving.{Comes}
use Rattle.fun_eval.specs.RecordLists.{TellsOption}
use Rattle.fun_eval.specs.declared.answer.EvalEnd.{EvalEnd}
use Rattle.fun_eval.specs.declared.equations.Trial.{Trial}
use Rattle.fun_eval.specs.declared.equations.Trial.TheVariants.{Failed, Used}
use Rattle.rewriter.specs.declared.rules.Choice.{Choice}

-- a rule, and a term of its sort
abbrev pub IsTriable : RewriteTheory → RewriteRule → Tree → Type 0
IsTriable theory rule t = (sort : ℕ) × IsRuleOf theory.sig sort rule × IsTermOf theory.sig t sort

-- what is recorded of a condition that holds
abbrev pub IsRecordedCondition : {R : Type 0} → (R → Record → Type 0) → RewriteTheory
    → List (Option Tree) → Option Pattern → Option R → Type 0
IsRecordedCondition tells theory theta p kept =
    (o : OptionalRecord) × TellsOption tells kept o × RecordsCondition theory theta p o

-- a rule matches, and its condition does not hold, or holds
abbrev pub RuleSays : {R : Type 0} → (R → Record → Type 0) → RewriteTheory → RewriteRule → Tree → ℕ
    → Trial R → ℕ → Type 0
RuleSays tells theory rule t c (Failed theta kept) left =
    Matches theory rule t theta × Meets theory theta rule.condition c (fails left)
RuleSays tells theory rule t c (Used theta kept) left =
    Matches theory rule t theta × Meets theory theta rule.condition c (holds left)
    × IsRecordedCondition tells theory theta rule.condition kept

-- the same, or the rule's condition is blocked
abbrev pub TriesRule : {R : Type 0} → (R → Record → Type 0) → RewriteTheory → RewriteRule → Tree → ℕ
    → Result (Trial R × ℕ) EvalEnd → Type 0
TriesRule tells theory rule t c answer =
    Comes
    (RuleSays tells theory rule t c)
    (λ cause. (theta : List (Option Tree)) × Matches theory rule t theta
    × Meets theory theta rule.condition c (untested cause))
    answer

-- the rule with this number applies with this substitution, and no earlier rule applies
pub record IsChosen (theory : RewriteTheory) (t : Tree) (c number : ℕ) (theta : List (Option Tree))
    (left : ℕ) : Type 0
  where
    pub rule : RewriteRule
    pub there : slice_get theory.rules number ≡ Some rule
    pub matches : Matches theory rule t theta
    pub earlier : (j : ℕ) (other : RewriteRule) → j < number → slice_get theory.rules j ≡ Some other
        → IsUnusedRule theory other t
    pub tried : Tries theory t 0 theory.rules c (applies number rule theta left)
    pub fewer : left ≤ c

abbrev pub ChoiceSays : {R : Type 0} → (R → Record → Type 0) → RewriteTheory → Tree → ℕ
    → Option (Choice R) → ℕ → Type 0
ChoiceSays tells theory t c None left = Tries theory t 0 theory.rules c none_applies
ChoiceSays tells theory t c (Some chosen) left =
    (is : IsChosen theory t c chosen.number chosen.subst left)
    × IsRecordedCondition tells theory chosen.subst is.rule.condition chosen.cond

-- which rule applies, if any; or a condition is blocked before that
abbrev pub Chooses : {R : Type 0} → (R → Record → Type 0) → RewriteTheory → Tree → ℕ
    → Result (Option (Choice R) × ℕ) EvalEnd → Type 0
Chooses tells theory t c answer =
    Comes (ChoiceSays tells theory t c)
    (λ cause. Tries theory t 0 theory.rules c (trial_blocked cause)) answer
