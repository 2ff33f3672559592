-- Steps and runs have an outcome, their configurations are well-sorted, and a record of a step
-- determines the next term.
use Rattle.std.proofs.Common.{◌≡◌, ℕ, suc, zero, ◌+◌, ◌<◌, ◌≤◌, inl, ⊎_elim, List, [], ◌∷◌, Option}
use Rattle.std.proofs.Common.{Some, None, refl, sym, ◌∙◌, ap, subst, slice_get, arith}
use Rattle.std.specs.Prelude.{All, IfSome}
use Rattle.term_core.specs.Terms.{Tree, Forest, no_tree, more_trees, height, heights}
use Rattle.term_core.specs.Patterns.{Pattern, Patterns, no_pattern, more_patterns}
use Rattle.rule_core.specs.Rules.{RewriteRule}
use Rattle.rule_core.specs.Theories.{RewriteTheory}
use Rattle.rule_core.specs.NamedParts.{Name}
use Rattle.rule_core.specs.Matching.{MatchNamed}
use Rattle.rule_core.specs.Sorting.{HasSort}
use Rattle.rule_core.specs.Evaluation.{Evaluated, value, blocked, ConditionOutcome, holds, fails}
use Rattle.rule_core.specs.Evaluation.{untested, says_true, says_other, IsTrueValue, Evaluates}
use Rattle.rule_core.specs.Evaluation.{most_height}
use Rattle.rule_core.specs.FirstRule.{most_nesting, Matches, IsUnmatched, Meets, no_rule_condition}
use Rattle.rule_core.specs.FirstRule.{rule_condition, Trial, applies, none_applies, trial_blocked}
use Rattle.rule_core.specs.FirstRule.{Tries, no_rule_left, rule_unmatched, rule_condition_fails}
use Rattle.rule_core.specs.FirstRule.{rule_condition_blocked, condition_holds}
use Rattle.rule_core.specs.Runs.{Stepped, steps_on, stays, stops, Steps, by_rule, by_none}
use Rattle.rule_core.specs.Runs.{in_condition, in_right_side, Reaches, at_start, after_step, Run}
use Rattle.rule_core.specs.Runs.{stuck, limited, stopped, unstarted, IsRunOf}
use Rattle.rule_core.specs.RunLaws.{HasRun, StepRecordDetermines}
use Rattle.rule_core.specs.Records.{StepRecord, RecordsStep, RecordsCondition, OptionalRecord}
use Rattle.rule_core.specs.Records.{unconditional, conditional, result_of}
use Rattle.rule_core.specs.WellSorted.{IsWellSorted, BindsVariablesOf, IsRuleOf, IsCondition}
use Rattle.rule_core.specs.WellSorted.{HaveNames}
use Rattle.rule_core.specs.declared.signature.SortRef.TheVariants.{Sort}
use Rattle.rule_core.proofs.EvaluationUnique.{all_first, all_rest}
use Rattle.rule_core.proofs.EvaluationAnswers.{IsGood, IsGoodTree, answers, serves_match}
use Rattle.rule_core.proofs.EvaluationAnswers.{says_something}
use Rattle.rule_core.proofs.FirstApplies.{Applied, applied, all_at}
use Rattle.rule_core.proofs.MatchExact.{match_is_decidable}
use Rattle.rule_core.proofs.NamedMatches.{match_named_is_decidable}
use Rattle.rule_core.proofs.SortedInstances.{sorted_use_first}
use Rattle.rule_core.proofs.RecordsTell.{record_tells}
use Rattle.rule_core.proofs.Determined.{values_agree, values_are_sorted, record_determines}
use Rattle.rule_core.proofs.RunUnique.{RuleMatchesOnce, rules_match_once, step_is_unique, After}
use Rattle.rule_core.proofs.RunUnique.{after_right, after_trial}

-- ---- trials

abbrev IsGoodTrial : RewriteTheory → ℕ → Tree → Trial → Type 0
IsGoodTrial theory sort t (applies i rule theta d) =
    IsRuleOf theory.sig sort rule × Matches theory rule t theta
IsGoodTrial theory sort t none_applies = Unit {0}
IsGoodTrial theory sort t (trial_blocked cause) = Unit {0}

abbrev TrialAnswer : RewriteTheory → ℕ → Tree → ℕ → List RewriteRule → ℕ → Type 0
TrialAnswer theory sort t i rules c =
    (r : Trial) × Tries theory t i rules c r × IsGoodTrial theory sort t r

meets_answer : (theory : RewriteTheory) → IsWellSorted theory
    → (variables : List ℕ) (ps : Patterns) (names : List Name) (ts : Forest)
    (theta : List (Option Tree)) (c : ℕ) → HaveNames theory.sig variables ps names
    → MatchNamed theory.sig variables ps names ts theta → heights ts ≤ most_height
    → (o : Option Pattern) → IfSome o (IsCondition theory.sig variables ps names)
    → (x : ConditionOutcome) × Meets theory theta o c x
meets_answer theory good variables ps names ts theta c have m lows None fits =
    (holds c, no_rule_condition)
meets_answer theory good variables ps names ts theta c have m lows (Some p) fits =
    let r =
    (answers theory good most_nesting).0 variables theta p fits.0 c fits.5
    (serves_match theory.sig variables ps names ts theta p have m lows fits.6) in
    let x = says_something r.0 in
    (x.0, rule_condition r.1 x.1)

matched_rule : (theory : RewriteTheory) (sort : ℕ) (t : Tree) (i c : ℕ) (rule : RewriteRule)
    (rules : List RewriteRule) (theta : List (Option Tree)) → IsRuleOf theory.sig sort rule
    → Matches theory rule t theta → (x : ConditionOutcome) → Meets theory theta rule.condition c x
    → ((d : ℕ) → TrialAnswer theory sort t (i + 1) rules d)
    → TrialAnswer theory sort t i (rule ∷ rules) c
matched_rule theory sort t i c rule rules theta fits m (holds d) test others =
    (applies i rule theta d, condition_holds m test, (fits, m))
matched_rule theory sort t i c rule rules theta fits m (fails d) test others =
    let r = others d in (r.0, rule_condition_fails m test r.1, r.2)
matched_rule theory sort t i c rule rules theta fits m (untested cause) test others =
    (trial_blocked cause, rule_condition_blocked m test, tt)

trial_answer : (theory : RewriteTheory) → IsWellSorted theory → (sort : ℕ) (t : Tree)
    → IsGoodTree theory.sig t sort → (rules : List RewriteRule)
    → All (IsRuleOf theory.sig sort) rules → (i c : ℕ) → TrialAnswer theory sort t i rules c
trial_answer theory good sort t fine [] each i c = (none_applies, no_rule_left, tt)
trial_answer theory good sort t fine (rule ∷ rules) each i c =
    let fits : IsRuleOf theory.sig sort rule =
    all_first (IsRuleOf theory.sig sort) rule rules each in
    let others : (d : ℕ) → TrialAnswer theory sort t (i + 1) rules d =
    trial_answer theory good sort t fine rules
    (all_rest (IsRuleOf theory.sig sort) rule rules each) (i + 1) in
    let low : height t ≤ most_height = fine.2 in
    ⊎_elim
    (λ (hit : (theta : List (Option Tree)) × Matches theory rule t theta).
    let x =
    meets_answer theory good rule.variables (more_patterns rule.left no_pattern) rule.names
    (more_trees t no_tree) hit.0 c fits.names hit.1 (omega arith) rule.condition
    fits.condition in
    matched_rule theory sort t i c rule rules hit.0 fits hit.1 x.0 x.1 others)
    (λ (never : IsUnmatched theory rule t).
    let r = others c in (r.0, rule_unmatched never r.1, r.2))
    (match_named_is_decidable theory.sig rule.variables (more_patterns rule.left no_pattern)
    rule.names (more_trees t no_tree) fits.names
    (match_is_decidable theory.sig rule.variables [] (more_patterns rule.left no_pattern)
    (Sort (record { 0 = sort }) ∷ []) (more_trees t no_tree) good.signature.no_cycle
    (sort, refl, fits.left, tt) (sort, refl, fine.0, tt) (fine.1, tt)))

-- ---- steps

abbrev IsGoodStep : RewriteTheory → ℕ → Stepped → Type 0
IsGoodStep theory sort (steps_on u d) = IsGoodTree theory.sig u sort
IsGoodStep theory sort stays = Unit {0}
IsGoodStep theory sort (stops cause) = Unit {0}

abbrev StepAnswer : RewriteTheory → ℕ → Tree → ℕ → Type 0
StepAnswer theory sort t c = (s : Stepped) × Steps theory t c s × IsGoodStep theory sort s

right_answer : (theory : RewriteTheory) (sort : ℕ) (t : Tree) (c i d : ℕ) (rule : RewriteRule)
    (theta : List (Option Tree)) → Tries theory t 0 theory.rules c (applies i rule theta d)
    → (r : Evaluated) → Evaluates theory most_nesting theta rule.right d r
    → IsGood theory.sig sort r → StepAnswer theory sort t c
right_answer theory sort t c i d rule theta tries (value u e) right fine =
    (steps_on u e, by_rule tries right, fine)
right_answer theory sort t c i d rule theta tries (blocked cause) right fine =
    (stops cause, in_right_side tries right, tt)

step_by : (theory : RewriteTheory) → IsWellSorted theory → (sort : ℕ) (t : Tree)
    → IsGoodTree theory.sig t sort → (c : ℕ) (r : Trial) → Tries theory t 0 theory.rules c r
    → IsGoodTrial theory sort t r → StepAnswer theory sort t c
step_by theory good sort t fine c (applies i rule theta d) tries (fits, m) =
    let low : height t ≤ most_height = fine.2 in
    let r =
    (answers theory good most_nesting).0 rule.variables theta rule.right sort d fits.right
    (serves_match theory.sig rule.variables (more_patterns rule.left no_pattern) rule.names
    (more_trees t no_tree) theta rule.right fits.names m (omega arith) fits.bound) in
    right_answer theory sort t c i d rule theta tries r.0 r.1 r.2
step_by theory good sort t fine c none_applies tries fits = (stays, by_none tries, tt)
step_by theory good sort t fine c (trial_blocked cause) tries fits =
    (stops cause, in_condition tries, tt)

step_answer : (theory : RewriteTheory) → IsWellSorted theory → (sort : ℕ)
    → All (IsRuleOf theory.sig sort) theory.rules → (t : Tree) → IsGoodTree theory.sig t sort
    → (c : ℕ) → StepAnswer theory sort t c
step_answer theory good sort each t fine c =
    let r = trial_answer theory good sort t fine theory.rules each 0 c in
    step_by theory good sort t fine c r.0 r.1 r.2

-- ---- runs

serves_start : (theory : RewriteTheory) (start : Pattern) (sort : ℕ)
    → HasSort theory.sig [] start sort → BindsVariablesOf theory.sig [] [] start
serves_start theory start sort h = record {
  bound =
      λ x stands. absurd (none x (sorted_use_first theory.sig [] [] (more_patterns start no_pattern)
      (Sort (record { 0 = sort }) ∷ []) (sort, refl, h, tt) x (inl stands)));
  sorted = λ x t b. absurd (no_term t b);
  low = λ x t b. absurd (no_term t b);
} where
  none : (x : ℕ) → x < 0 → ⊥
  none x lt = omega arith

  no_term : (t : Tree) → None ≡ Some t → ⊥
  no_term t e = cc

start_answer : (theory : RewriteTheory) → IsWellSorted theory → (calls sort : ℕ) (start : Pattern)
    → HasSort theory.sig [] start sort
    → (r : Evaluated) × Evaluates theory most_nesting [] start calls r × IsGood theory.sig sort r
start_answer theory good calls sort start h =
    (answers theory good most_nesting).0 [] [] start sort calls h (serves_start theory start sort h)

-- the run continues with this step, if each configuration after it has a run with less left to the
-- limit
run_by : (theory : RewriteTheory) (limit calls sort : ℕ) (start : Pattern) (n : ℕ) (t : Tree)
    (c : ℕ) → Reaches theory start calls n t c → n < limit → (s : Stepped) → Steps theory t c s
    → IsGoodStep theory sort s
    → ((u : Tree) (d : ℕ) → Reaches theory start calls (suc n) u d → IsGoodTree theory.sig u sort
    → (r : Run) × IsRunOf theory limit calls start r)
    → (r : Run) × IsRunOf theory limit calls start r
run_by theory limit calls sort start n t c r lt (steps_on u d) step fine later =
    later u d (after_step r step) fine
run_by theory limit calls sort start n t c r lt stays step fine later =
    (stuck n t, (c, r, lt, step))
run_by theory limit calls sort start n t c r lt (stops cause) step fine later =
    (stopped n cause t, (c, r, lt, step))

run_from : (theory : RewriteTheory) → IsWellSorted theory → (limit calls sort : ℕ) (start : Pattern)
    → All (IsRuleOf theory.sig sort) theory.rules → (k n : ℕ) (t : Tree) (c : ℕ)
    → Reaches theory start calls n t c → IsGoodTree theory.sig t sort → n + k ≡ limit
    → (r : Run) × IsRunOf theory limit calls start r
run_from theory good limit calls sort start each zero n t c r fine sum =
    (limited n t, (c, r, omega arith))
run_from theory good limit calls sort start each (suc k) n t c r fine sum =
    let s = step_answer theory good sort each t fine c in
    run_by theory limit calls sort start n t c r (omega arith) s.0 s.1 s.2
    (λ u d on fine_there.
    run_from theory good limit calls sort start each k (suc n) u d on fine_there (omega arith))

started : (theory : RewriteTheory) → IsWellSorted theory → (limit calls sort : ℕ) (start : Pattern)
    → All (IsRuleOf theory.sig sort) theory.rules → (r : Evaluated)
    → Evaluates theory most_nesting [] start calls r → IsGood theory.sig sort r
    → (run : Run) × IsRunOf theory limit calls start run
started theory good limit calls sort start each (blocked cause) e fine = (unstarted cause, e)
started theory good limit calls sort start each (value t d) e fine =
    run_from theory good limit calls sort start each limit 0 t d (at_start e) fine (omega arith)

pub has_run : HasRun
has_run theory limit calls sort start good each h =
    let r = start_answer theory good calls sort start h in
    started theory good limit calls sort start each r.0 r.1 r.2

pub configurations_are_sorted : (theory : RewriteTheory) (good : IsWellSorted theory)
    (calls sort : ℕ) (start : Pattern) → All (IsRuleOf theory.sig sort) theory.rules
    → HasSort theory.sig [] start sort → {n c : ℕ} {t : Tree} → Reaches theory start calls n t c
    → IsGoodTree theory.sig t sort
configurations_are_sorted theory good calls sort start each h (at_start {t = t} {c = c} e) =
    values_are_sorted theory most_nesting calls c [] [] start sort t good h
    (serves_start theory start sort h) e
configurations_are_sorted theory good calls sort start each h
    (after_step {c = c} {d = d} {t = t} {u = u} r step) =
    let fine : IsGoodTree theory.sig t sort =
    configurations_are_sorted theory good calls sort start each h r in
    let s = step_answer theory good sort each t fine c in
    let same : s.0 ≡ steps_on u d = step_is_unique theory t c s.0 (steps_on u d) good s.1 step in
    subst (IsGoodStep theory sort) same s.2

-- ---- records of steps

-- a condition cannot both hold and fail, however much is left
not_both : (theory : RewriteTheory) → IsWellSorted theory
    → (theta : List (Option Tree)) (p : Option Pattern) (c d k e : ℕ)
    → Meets theory theta p c (holds d) → Meets theory theta p k (fails e) → ⊥
not_both theory good theta None c d k e holding failing = elim failing [ ]
not_both theory good theta (Some p) c d k e (rule_condition {e = value t m} a (says_true is))
    (rule_condition {e = value u n} b (says_other other)) =
    other (subst IsTrueValue
    (values_agree theory good theta p t u most_nesting c m most_nesting k n a b) is)
not_both theory good theta (Some p) c d k e (rule_condition {e = value t m} a (says_true is))
    (rule_condition {e = blocked cause} b says) =
    elim says [ ]
not_both theory good theta (Some p) c d k e (rule_condition {e = blocked cause} a says) failing =
    elim says [ ]

-- a condition that has a record cannot fail
not_recorded : (theory : RewriteTheory) → IsWellSorted theory
    → (theta : List (Option Tree)) (p : Option Pattern) (k e : ℕ) (o : OptionalRecord)
    → RecordsCondition theory theta p o → Meets theory theta p k (fails e) → ⊥
not_recorded theory good theta p k e unconditional w test =
    no_failure (subst (λ q. Meets theory theta q k (fails e)) w test)
  where
    no_failure : Meets theory theta None k (fails e) → ⊥
    no_failure m = elim m [ ]
not_recorded theory good theta p k e (conditional r) w test =
    failed (subst (λ q. Meets theory theta q k (fails e)) w.1 test)
  where
    failed : Meets theory theta (Some w.0) k (fails e) → ⊥
    failed (rule_condition {e = value u n} b (says_other other)) =
        let told = record_tells theory theta w.0 r w.2 in
        other (subst IsTrueValue (values_agree theory good theta w.0 (result_of r) u told.0 told.1
        told.2 most_nesting k n told.3 b) w.3)
    failed (rule_condition {e = blocked cause} b says) = elim says [ ]

-- the rule that is used is the one in the record
same_rule : (theory : RewriteTheory) → IsWellSorted theory
    → (t : Tree) (rule : RewriteRule) (theta : List (Option Tree)) (step : StepRecord)
    → (w : RecordsStep theory t step) → {i d : ℕ}
    → (a : Applied theory t 0 i d theory.rules rule theta) → a.place ≡ step.rule
same_rule theory good t rule theta step w {i} {d} a =
    let once = rules_match_once theory good in
    let not_less : a.place < step.rule → ⊥ = λ lt. ⊎_elim
    (λ (never : IsUnmatched theory rule t). never theta a.matches)
    (λ failed. let same : failed.0 ≡ theta =
    all_at (RuleMatchesOnce theory) theory.rules a.place rule once a.there t failed.0 theta
    failed.2 a.matches in
    not_both theory good theta rule.condition a.before d _ failed.1 a.holding
    (subst (λ s. Meets theory s rule.condition _ (fails failed.1)) same failed.3))
    (w.earlier a.place rule lt a.there) in
    let not_more : step.rule < a.place → ⊥ = λ lt. ⊎_elim
    (λ (never : IsUnmatched theory w.rule t). never step.theta w.matches)
    (λ (failed : (theta : List (Option
    Tree)) × (c :
    ℕ) × (d : ℕ) × Matches theory w.rule t theta × Meets theory theta w.rule.condition c (fails d)).
    let same : failed.0 ≡ step.theta =
    all_at (RuleMatchesOnce theory) theory.rules step.rule w.rule once w.there t failed.0
    step.theta failed.3 w.matches in
    not_recorded theory good step.theta w.rule.condition failed.1 failed.2 step.condition
    w.condition
    (subst (λ s. Meets theory s w.rule.condition failed.1 (fails failed.2)) same failed.4))
    (a.earlier step.rule w.rule lt w.there) in
    omega arith

recorded_right : (theory : RewriteTheory) → IsWellSorted theory
    → (t u : Tree) (c d : ℕ) (step : StepRecord) → RecordsStep theory t step → (r : Trial)
    → Tries theory t 0 theory.rules c r → After theory r (steps_on u d) → u ≡ result_of step.right
recorded_right theory good t u c d step w (applies i rule theta k) tries (after_right e) =
    let a = applied tries in
    let places : a.place ≡ step.rule = same_rule theory good t rule theta step w a in
    let rules : Some w.rule ≡ Some rule =
    sym w.there ∙ ap (slice_get theory.rules) (sym places) ∙ a.there in
    let rule_same : rule ≡ w.rule = cc in
    let matched : Matches theory w.rule t theta =
    subst (λ (r : RewriteRule). Matches theory r t theta) rule_same a.matches in
    let theta_same : theta ≡ step.theta =
    all_at (RuleMatchesOnce theory) theory.rules step.rule w.rule (rules_match_once theory good)
    w.there t theta step.theta matched w.matches in
    let right : Evaluates theory most_nesting step.theta w.rule.right k (value u d) =
    subst (λ s. Evaluates theory most_nesting s w.rule.right k (value u d)) theta_same
    (subst (λ (r : RewriteRule). Evaluates theory most_nesting theta r.right k (value u d))
    rule_same e) in
    record_determines theory most_nesting k d step.theta w.rule.right step.right u good w.right
    right
recorded_right theory good t u c d step w none_applies tries after = elim after [ ]
recorded_right theory good t u c d step w (trial_blocked cause) tries after = elim after [ ]

pub step_record_determines : StepRecordDetermines
step_record_determines theory t u c d step good w s =
    let after = after_trial s in recorded_right theory good t u c d step w after.0 after.1 after.2
