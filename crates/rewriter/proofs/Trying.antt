-- How rules are tried one by one, and the result of a step.
use Rattle.std.proofs.Common.{◌≡◌, ℕ, suc, zero, ◌+◌, ◌-◌, ◌<◌, ◌≤◌, ⊎_elim, inr, List}
use Rattle.std.proofs.Common.{[], ◌∷◌, length, drop, Option, Some, None, refl, sym, ◌∙◌, ap, subst}
use Rattle.std.proofs.Common.{arith}
use Rattle.std.specs.Prelude.{Err, slice_get, IfSome}
use Rattle.std.proofs.lemmas.List.{drop_all}
use Rattle.std.proofs.lemmas.Option.{slice_get_within}
use Rattle.std.proofs.Math.Nat.{eq-or-lt_of_le}
use Rattle.term_core.specs.Terms.{Tree, no_tree, more_trees, height}
use Rattle.term_core.specs.Patterns.{Pattern, no_pattern, more_patterns}
use Rattle.rule_core.specs.Rules.{RewriteRule}
use Rattle.rule_core.specs.Theories.{RewriteTheory}
use Rattle.rule_core.specs.WellSorted.{IsWellSorted, IsRuleOf, IsCondition}
use Rattle.rule_core.specs.Evaluation.{value, blocked, ConditionOutcome, holds, fails, untested}
use Rattle.rule_core.specs.Evaluation.{IsTrueValue, says_true, says_other, says_nothing, Evaluates}
use Rattle.rule_core.specs.FirstRule.{most_nesting, Matches, Meets, no_rule_condition}
use Rattle.rule_core.specs.FirstRule.{rule_condition, applies, none_applies, trial_blocked, Tries}
use Rattle.rule_core.specs.FirstRule.{no_rule_left, rule_condition_fails}
use Rattle.rule_core.specs.FirstRule.{rule_condition_blocked, condition_holds}
use Rattle.rule_core.specs.FirstRule as first
use Rattle.rule_core.specs.Records.{Record, OptionalRecord, unconditional, conditional}
use Rattle.rule_core.specs.Records.{RecordsCondition, IsUnusedRule, most_calls, Records}
use Rattle.rule_core.specs.Runs.{Steps, steps_on, by_rule, in_condition, in_right_side}
use Rattle.rule_core.specs.RunView.{cause_of}
use Rattle.rule_core.proofs.FirstApplies.{all_at}
use Rattle.rule_core.proofs.EvaluationAnswers.{serves_match}
use Rattle.rule_core.proofs.Determined.{values_are_sorted}
use Rattle.rule_core.proofs.MoreLeft.{with_calls, IsTold, more_says, evaluates_more}
use Rattle.rule_core.proofs.RecordsKept.{LeavesAtMost, says_at_most, calls_fall}
use Rattle.fun_eval.specs.Evaluable.{IsEvaluable}
use Rattle.fun_eval.specs.EvalEnds.{EndsBy}
use Rattle.fun_eval.specs.Recorded.{IsRecorded}
use Rattle.fun_eval.specs.declared.answer.EvalEnd.{EvalEnd}
use Rattle.fun_eval.specs.declared.answer.EvalEnd.TheVariants.{Blocked, Memory}
use Rattle.fun_eval.specs.declared.equations.Trial.TheVariants.{Failed}
use Rattle.rewriter.specs.Configurations.{IsConfiguration}
use Rattle.rewriter.specs.NextSteps.{TellsStep}
use Rattle.rewriter.specs.Choosing.{IsTriable, IsRecordedCondition, RuleSays, TriesRule, IsChosen}
use Rattle.rewriter.specs.Choosing.{Chooses}
use Rattle.rewriter.specs.Stepping.{Advances}

-- ---- one rule

pub condition_evaluable : (theory : RewriteTheory) (rule : RewriteRule) (t : Tree)
    (theta : List (Option Tree)) (p : Pattern) → IsTriable theory rule t
    → Matches theory rule t theta → height t ≤ 500 → rule.condition ≡ Some p
    → IsEvaluable theory theta p
condition_evaluable theory rule t theta p fits match low is =
    let has : IsCondition theory.sig rule.variables (more_patterns rule.left no_pattern) rule.names
    p =
    subst (λ o. IfSome o
    (IsCondition theory.sig rule.variables (more_patterns rule.left no_pattern) rule.names)) is
    fits.1.condition in (
      rule.variables,
      has.0,
      has.5,
      serves_match theory.sig rule.variables (more_patterns rule.left no_pattern) rule.names
          (more_trees t no_tree) theta p fits.1.names match (omega arith) has.6,
    )

pub no_test : (theory : RewriteTheory) (c : ℕ) (theta : List (Option Tree)) (p : Option Pattern)
    → p ≡ None
    → Meets theory theta p c (holds c)
    × ((o : OptionalRecord) × (o ≡ unconditional) × RecordsCondition theory theta p o)
no_test theory c theta p is = (
  subst (λ o. Meets theory theta o c (holds c)) (sym is) no_rule_condition,
  (unconditional, refl, is),
)

pub test_holds : (tell : Record → Type 0) (theory : RewriteTheory) (c left : ℕ)
    (theta : List (Option Tree)) (p : Option Pattern) (q : Pattern) (t : Tree) → p ≡ Some q
    → Evaluates theory most_nesting theta q c (value t left) → IsRecorded tell theory theta q t
    → IsTrueValue t
    → Meets theory theta p c (holds left)
    × ((o : OptionalRecord) × ((r : Record) × (o ≡ conditional r) × tell r)
    × RecordsCondition theory theta p o)
test_holds tell theory c left theta p q t is evaluated told true_value = (
  subst (λ o. Meets theory theta o c (holds left)) (sym is)
      (rule_condition evaluated (says_true true_value)),
  (
    conditional told.0,
    (told.0, refl, told.1),
    (q, is, told.2, subst IsTrueValue (sym told.3) true_value),
  ),
)

pub test_fails : (theory : RewriteTheory) (c left : ℕ) (theta : List (Option Tree))
    (p : Option Pattern) (q : Pattern) (t : Tree) → p ≡ Some q
    → Evaluates theory most_nesting theta q c (value t left) → (IsTrueValue t → ⊥)
    → Meets theory theta p c (fails left)
test_fails theory c left theta p q t is evaluated other =
    subst (λ o. Meets theory theta o c (fails left)) (sym is)
    (rule_condition evaluated (says_other other))

pub test_stops : {R : Type 0} (tells : R → Record → Type 0) (theory : RewriteTheory)
    (rule : RewriteRule) (t : Tree) (c : ℕ) (theta : List (Option Tree)) (q : Pattern)
    (end : EvalEnd) → Matches theory rule t theta → rule.condition ≡ Some q
    → EndsBy (Evaluates theory most_nesting theta q c) end
    → TriesRule tells theory rule t c (Err end)
test_stops tells theory rule t c theta q (Blocked why) match is h = (
  theta,
  match,
  subst (λ o. Meets theory theta o c (untested (cause_of why))) (sym is)
      (rule_condition h says_nothing),
)
test_stops tells theory rule t c theta q Memory match is h = tt

-- ---- with less and with more calls left

meets_more : (theory : RewriteTheory) (k : ℕ) {c : ℕ} {theta : List (Option Tree)}
    {p : Option Pattern} {r : ConditionOutcome} → Meets theory theta p c r → IsTold r
    → Meets theory theta p (c + k) (with_calls k r)
meets_more theory k no_rule_condition told = no_rule_condition
meets_more theory k (rule_condition {e = value t d} e says) told =
    rule_condition (evaluates_more theory k e most_nesting (omega arith)) (more_says k says)
meets_more theory k (rule_condition {e = blocked cause} e says_nothing) told = absurd told

meets_fall : {theory : RewriteTheory} {c : ℕ} {theta : List (Option Tree)} {p : Option Pattern}
    {r : ConditionOutcome} → Meets theory theta p c r → LeavesAtMost c r
meets_fall no_rule_condition = omega arith
meets_fall (rule_condition {e = value t d} e says) = says_at_most says (calls_fall e)
meets_fall (rule_condition {e = blocked cause} e says_nothing) = tt

failed_with : (theory : RewriteTheory) (theta : List (Option Tree)) (p : Option Pattern) (c d k : ℕ)
    → Meets theory theta p c (fails d) → c ≤ k → (left : ℕ) × Meets theory theta p k (fails left)
failed_with theory theta p c d k test few =
    let whole : c + (k - c) ≡ k = omega arith in (
      d
          + (k - c),
      subst (λ j. Meets theory theta p j (fails (d + (k - c)))) whole
          (meets_more theory (k - c) test tt),
    )

pub is_unused : {R : Type 0} (tells : R → Record → Type 0) (theory : RewriteTheory)
    (rule : RewriteRule) (t : Tree) (c left : ℕ) (theta : List (Option Tree)) (kept : R)
    → c ≤ most_calls → RuleSays tells theory rule t c (Failed theta kept) left
    → IsUnusedRule theory rule t
is_unused tells theory rule t c left theta kept few says =
    let more = failed_with theory theta rule.condition c left most_calls says.1 few in
    inr (theta, more.0, says.0, more.1)

pub trial_falls : {R : Type 0} (tells : R → Record → Type 0) (theory : RewriteTheory)
    (rule : RewriteRule) (t : Tree) (c left : ℕ) (theta : List (Option Tree)) (kept : R)
    → RuleSays tells theory rule t c (Failed theta kept) left → left ≤ c
trial_falls tells theory rule t c left theta kept says = meets_fall says.1

pub holds_fall : (theory : RewriteTheory) (theta : List (Option Tree)) (p : Option Pattern)
    (c left rest : ℕ) → Meets theory theta p left (holds rest) → left ≤ c → rest ≤ c
holds_fall theory theta p c left rest test le =
    let fall : rest ≤ left = meets_fall test in omega arith

-- ---- the rules from i on

abbrev pub TriedUpTo : RewriteTheory → Tree → ℕ → ℕ → ℕ → Type 0
TriedUpTo theory t c i left =
    (r : first.Trial) → Tries theory t i (drop i theory.rules) left r
    → Tries theory t 0 theory.rules c r

abbrev pub UnusedUpTo : RewriteTheory → Tree → ℕ → Type 0
UnusedUpTo theory t i = (j : ℕ) (other : RewriteRule) → j < i
    → slice_get theory.rules j ≡ Some other → IsUnusedRule theory other t

pub from_here : (rs : List RewriteRule) (i : ℕ) (rule : RewriteRule) → slice_get rs i ≡ Some rule
    → drop i rs ≡ rule ∷ drop (i + 1) rs
from_here [] i rule there = let no : ⊥ = cc in absurd no
from_here (x ∷ rs) zero rule there = let same : x ≡ rule = cc in ap (λ y. y ∷ rs) same
from_here (x ∷ rs) (suc i) rule there =
    let later : suc i + 1 ≡ suc (i + 1) = omega arith in rw later (from_here rs i rule there)

pub tried-more : {R : Type 0} (tells : R → Record → Type 0) (theory : RewriteTheory) (t : Tree)
    (c i left rest : ℕ) (rule : RewriteRule) (theta : List (Option Tree)) (kept : R)
    → TriedUpTo theory t c i left → slice_get theory.rules i ≡ Some rule
    → RuleSays tells theory rule t left (Failed theta kept) rest
    → TriedUpTo theory t c (i + 1) rest
tried-more tells theory t c i left rest rule theta kept tried there says = λ r others.
    tried r (subst (λ xs. Tries theory t i xs left r) (sym (from_here theory.rules i rule there))
    (rule_condition_fails says.0 says.1 others))

pub unused-more : (theory : RewriteTheory) (t : Tree) (i : ℕ) (rule : RewriteRule)
    → UnusedUpTo theory t i → slice_get theory.rules i ≡ Some rule → IsUnusedRule theory rule t
    → UnusedUpTo theory t (i + 1)
unused-more theory t i rule before there unused = λ j other lt at.
    ⊎_elim
    (λ (same : j ≡ i).
    let k : Some rule ≡ Some other = sym there ∙ ap (slice_get theory.rules) (sym same) ∙ at in
    let is : rule ≡ other = cc in subst (λ x. IsUnusedRule theory x t) is unused)
    (λ (earlier : j < i). before j other earlier at)
    (eq-or-lt_of_le (omega arith))

abbrev pub chosen : (theory : RewriteTheory) (t : Tree) (c i left rest : ℕ) (rule : RewriteRule)
    (theta : List (Option Tree)) → TriedUpTo theory t c i left → UnusedUpTo theory t i
    → slice_get theory.rules i ≡ Some rule → Matches theory rule t theta
    → Meets theory theta rule.condition left (holds rest) → left ≤ c
    → IsChosen theory t c i theta rest
chosen theory t c i left rest rule theta tried before there match test le = record {
  rule = rule;
  there = there;
  matches = match;
  earlier = before;
  tried =
      tried (applies i rule theta rest) (subst
      (λ xs. Tries theory t i xs left (applies i rule theta rest))
      (sym (from_here theory.rules i rule there)) (condition_holds match test));
  fewer = holds_fall theory theta rule.condition c left rest test le;
}

pub trial_stops : {R : Type 0} (tells : R → Record → Type 0) (theory : RewriteTheory) (t : Tree)
    (c i left : ℕ) (rule : RewriteRule) (end : EvalEnd) → TriedUpTo theory t c i left
    → slice_get theory.rules i ≡ Some rule → TriesRule tells theory rule t left (Err end)
    → Chooses tells theory t c (Err end)
trial_stops tells theory t c i left rule (Blocked why) tried there h =
    tried (trial_blocked (cause_of why)) (subst
    (λ xs. Tries theory t i xs left (trial_blocked (cause_of why)))
    (sym (from_here theory.rules i rule there)) (rule_condition_blocked h.1 h.2))
trial_stops tells theory t c i left rule Memory tried there h = tt

pub tried-all : (theory : RewriteTheory) (t : Tree) (c i left : ℕ) → TriedUpTo theory t c i left
    → length theory.rules ≤ i → Tries theory t 0 theory.rules c none_applies
tried-all theory t c i left tried le =
    tried none_applies (subst (λ xs. Tries theory t i xs left none_applies)
    (sym (drop_all i theory.rules le)) no_rule_left)

pub triable : (theory : RewriteTheory) (t : Tree) (i : ℕ) (rule : RewriteRule)
    → IsConfiguration theory t → slice_get theory.rules i ≡ Some rule → IsTriable theory rule t
triable theory t i rule is there =
    (is.0, all_at (IsRuleOf theory.sig is.0) theory.rules i rule is.1 there, is.2)

-- ---- the step

pub right_evaluable : (theory : RewriteTheory) (t : Tree) (c number left : ℕ)
    (theta : List (Option Tree)) (rule : RewriteRule) → IsConfiguration theory t
    → IsChosen theory t c number theta left → slice_get theory.rules number ≡ Some rule
    → height t ≤ 500 → IsEvaluable theory theta rule.right
right_evaluable theory t c number left theta rule is picked there low =
    let both : Some picked.rule ≡ Some rule = sym picked.there ∙ there in
    let same : picked.rule ≡ rule = cc in
    let match = subst (λ (r : RewriteRule). Matches theory r t theta) same picked.matches in
    let fits : IsRuleOf theory.sig is.0 rule =
    all_at (IsRuleOf theory.sig is.0) theory.rules number rule is.1 there in (
      rule.variables,
      is.0,
      fits.right,
      serves_match theory.sig rule.variables (more_patterns rule.left no_pattern) rule.names
          (more_trees t no_tree) theta rule.right fits.names match (omega arith) fits.bound,
    )

pub right_stops : {R : Type 0} (tells : R → Record → Type 0) (theory : RewriteTheory) (t : Tree)
    (c number left : ℕ) (theta : List (Option Tree)) (rule : RewriteRule) (end : EvalEnd)
    → IsChosen theory t c number theta left → slice_get theory.rules number ≡ Some rule
    → EndsBy (Evaluates theory most_nesting theta rule.right left) end
    → Advances tells theory t c (Err end)
right_stops tells theory t c number left theta rule (Blocked why) picked there h =
    let both : Some rule ≡ Some picked.rule = sym there ∙ picked.there in
    let same : rule ≡ picked.rule = cc in
    in_right_side picked.tried (subst (λ (r : RewriteRule).
    Evaluates theory most_nesting theta r.right left (blocked (cause_of why))) same h)
right_stops tells theory t c number left theta rule Memory picked there h = tt

pub choice_stops : {R : Type 0} (tells : R → Record → Type 0) (theory : RewriteTheory) (t : Tree)
    (c : ℕ) (end : EvalEnd) → Chooses tells theory t c (Err end)
    → Advances tells theory t c (Err end)
choice_stops tells theory t c (Blocked why) h = in_condition h
choice_stops tells theory t c Memory h = tt

pub step_made : {R : Type 0} (tells : R → Record → Type 0) (theory : RewriteTheory) (t u : Tree)
    (c number left rest : ℕ) (theta : List (Option Tree)) (cond : Option R) (rule : RewriteRule)
    (recorded : R) → IsWellSorted theory → IsConfiguration theory t → height t ≤ 500
    → (picked : IsChosen theory t c number theta left)
    → IsRecordedCondition tells theory theta picked.rule.condition cond
    → slice_get theory.rules number ≡ Some rule
    → Evaluates theory most_nesting theta rule.right left (value u rest)
    → IsRecorded (tells recorded) theory theta rule.right u
    → Steps theory t c (steps_on u rest)
    × TellsStep tells theory t u
    (record { rule = number; subst = theta; cond = cond; right = recorded })
    × IsConfiguration theory u
step_made tells theory t u c number left rest theta cond rule recorded good is low picked met there
    evaluated told =
    let both : Some rule ≡ Some picked.rule = sym there ∙ picked.there in
    let same : rule ≡ picked.rule = cc in
    let right : Evaluates theory most_nesting theta picked.rule.right left (value u rest) =
    subst (λ (r : RewriteRule). Evaluates theory most_nesting theta r.right left (value u rest))
    same evaluated in
    let fits : IsEvaluable theory theta rule.right =
    right_evaluable theory t c number left theta rule is picked there low in
    let rule_fits : IsRuleOf theory.sig is.0 rule =
    all_at (IsRuleOf theory.sig is.0) theory.rules number rule is.1 there in
    let match = subst (λ (r : RewriteRule). Matches theory r t theta) (sym same) picked.matches in
    let serves =
    serves_match theory.sig rule.variables (more_patterns rule.left no_pattern) rule.names
    (more_trees t no_tree) theta rule.right rule_fits.names match (omega arith) rule_fits.bound in
    let fine =
    values_are_sorted theory most_nesting left rest rule.variables theta rule.right is.0 u good
    rule_fits.right serves evaluated in (
      by_rule picked.tried right,
      record {
        step = record { rule = number; theta = theta; condition = met.0; right = told.0 };
        rule = refl;
        theta = refl;
        condition = met.1;
        right = told.1;
        follows = record {
          rule = picked.rule;
          there = picked.there;
          matches = picked.matches;
          earlier = picked.earlier;
          condition = met.2;
          right = subst (λ (r : RewriteRule). Records theory theta r.right told.0) same told.2;
        };
        result = told.3;
      },
      (is.0, is.1, fine.0),
    )

-- the number of the chosen rule is the number of a rule
pub chosen_within : (theory : RewriteTheory) (t : Tree) (c number left : ℕ)
    (theta : List (Option Tree)) → IsChosen theory t c number theta left
    → number < length theory.rules
chosen_within theory t c number left theta picked =
    slice_get_within theory.rules number picked.rule picked.there
