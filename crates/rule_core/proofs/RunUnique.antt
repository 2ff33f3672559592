-- A step and a run have one outcome in well-sorted theories.
use Rattle.std.proofs.Common.{◌≡◌, ℕ, suc, zero, ◌+◌, ◌<◌, ◌≤◌, ⊎_elim, List, [], ◌∷◌, Option, refl}
use Rattle.std.proofs.Common.{sym, ap, subst, arith}
use Rattle.std.specs.Prelude.{All}
use Rattle.std.proofs.Math.Nat.{eq-or-lt_of_le}
use Rattle.term_core.specs.Terms.{Tree, no_tree, more_trees}
use Rattle.term_core.specs.Patterns.{Pattern}
use Rattle.rule_core.specs.Rules.{RewriteRule}
use Rattle.rule_core.specs.Theories.{RewriteTheory}
use Rattle.rule_core.specs.Evaluation.{Cause, value, blocked, ConditionOutcome, holds, fails}
use Rattle.rule_core.specs.Evaluation.{untested, Says, Evaluates}
use Rattle.rule_core.specs.FirstRule.{most_nesting, Matches, IsUnmatched, Meets, no_rule_condition}
use Rattle.rule_core.specs.FirstRule.{rule_condition, Trial, applies, none_applies, trial_blocked}
use Rattle.rule_core.specs.FirstRule.{Tries, no_rule_left, rule_unmatched, rule_condition_fails}
use Rattle.rule_core.specs.FirstRule.{rule_condition_blocked, condition_holds}
use Rattle.rule_core.specs.Runs.{Stepped, steps_on, stays, stops, Steps, by_rule, by_none}
use Rattle.rule_core.specs.Runs.{in_condition, in_right_side, Reaches, at_start, after_step, stuck}
use Rattle.rule_core.specs.Runs.{limited, stopped, unstarted, IsRunOf}
use Rattle.rule_core.specs.RunLaws.{TrialIsUnique, StepIsUnique, RunIsUnique}
use Rattle.rule_core.specs.WellSorted.{IsWellSorted, IsRuleOf}
use Rattle.rule_core.specs.declared.signature.SortRef.TheVariants.{Sort}
use Rattle.rule_core.proofs.EvaluationUnique.{AllMatchOnce, all_first, all_rest, says_only}
use Rattle.rule_core.proofs.EvaluationUnique.{evaluation_unique}
use Rattle.rule_core.proofs.MatchExact.{match_is_unique}
use Rattle.rule_core.proofs.NamedMatches.{match_named_once}
use Rattle.rule_core.proofs.Determined.{all_match_once}

-- only one substitution matches a rule with a term
abbrev pub RuleMatchesOnce : RewriteTheory → RewriteRule → Type 0
RuleMatchesOnce theory rule = (t : Tree) (theta sigma : List (Option Tree))
    → Matches theory rule t theta → Matches theory rule t sigma → theta ≡ sigma

pub rules_match_once : (theory : RewriteTheory) → IsWellSorted theory
    → All (RuleMatchesOnce theory) theory.rules
rules_match_once theory good =
    ⊎_elim
    (λ (none : theory.rules ≡ []). let nothing : All (RuleMatchesOnce theory) [] =
    λ k d lt. absurd (omega arith) in
    subst (λ rules. All (RuleMatchesOnce theory) rules) (sym none) nothing)
    (λ (all : (sort : ℕ) × All (IsRuleOf theory.sig sort) theory.rules).
    λ k d lt. let fits = all.1 k d lt in
    λ t theta sigma m l. match_named_once theory.sig _ _ _ (more_trees t no_tree) theta sigma
    (λ xs ys one other. match_is_unique theory.sig _ [] _ (Sort (record { 0 = all.0 }) ∷ [])
    (more_trees t no_tree) xs ys good.signature.no_cycle (all.0, refl, fits.left, tt) one other)
    m l)
    good.one_sort

-- ---- trials

data RuleTried (theory : RewriteTheory) (t : Tree) (i : ℕ) (rule : RewriteRule)
    (rules : List RewriteRule) (theta : List (Option Tree)) (c : ℕ) : Trial → Type 0 where
  rule_fails : {d : ℕ} {r : Trial} → Meets theory theta rule.condition c (fails d)
      → Tries theory t (i + 1) rules d r → RuleTried theory t i rule rules theta c r
  rule_blocked : {cause : Cause} → Meets theory theta rule.condition c (untested cause)
      → RuleTried theory t i rule rules theta c (trial_blocked cause)
  rule_holds : {d : ℕ} → Meets theory theta rule.condition c (holds d)
      → RuleTried theory t i rule rules theta c (applies i rule theta d)

rule_tried : {theory : RewriteTheory} {t : Tree} {i c : ℕ} {rule : RewriteRule}
    {rules : List RewriteRule} {r : Trial} (theta : List (Option Tree))
    → RuleMatchesOnce theory rule → Matches theory rule t theta
    → Tries theory t i (rule ∷ rules) c r → RuleTried theory t i rule rules theta c r
rule_tried theta once m (rule_unmatched never others) = absurd (never theta m)
rule_tried {t = t} theta once m (rule_condition_fails {theta = sigma} l test others) =
    rw (once t theta sigma m l) (rule_fails test others)
rule_tried {t = t} theta once m (rule_condition_blocked {theta = sigma} l test) =
    rw (once t theta sigma m l) (rule_blocked test)
rule_tried {t = t} theta once m (condition_holds {theta = sigma} l test) =
    rw (once t theta sigma m l) (rule_holds test)

meets_only : (theory : RewriteTheory) → AllMatchOnce theory
    → {c : ℕ} {theta : List (Option Tree)} {p : Option Pattern} {x y : ConditionOutcome}
    → Meets theory theta p c x → Meets theory theta p c y → x ≡ y
meets_only theory once no_rule_condition no_rule_condition = refl
meets_only theory once {y = y} (rule_condition {e = e} a says) (rule_condition {e = other} b told) =
    says_only says (subst (λ v. Says v y) (sym (evaluation_unique theory once a other b)) told)

unmatched_only : {theory : RewriteTheory} {t : Tree} {i c : ℕ} {rule : RewriteRule}
    {rules : List RewriteRule} {r s : Trial} → IsUnmatched theory rule t
    → ((x : Trial) → Tries theory t (i + 1) rules c x → r ≡ x) → Tries theory t i (rule ∷ rules) c s
    → r ≡ s
unmatched_only {s = s} never only (rule_unmatched other others) = only s others
unmatched_only never only (rule_condition_fails {theta = sigma} l test others) =
    absurd (never sigma l)
unmatched_only never only (rule_condition_blocked {theta = sigma} l test) = absurd (never sigma l)
unmatched_only never only (condition_holds {theta = sigma} l test) = absurd (never sigma l)

fails_only : (theory : RewriteTheory) → AllMatchOnce theory
    → {t : Tree} {i c d : ℕ} {rule : RewriteRule} {rules : List RewriteRule}
    {theta : List (Option Tree)} {r s : Trial} → Meets theory theta rule.condition c (fails d)
    → ((x : Trial) → Tries theory t (i + 1) rules d x → r ≡ x)
    → RuleTried theory t i rule rules theta c s → r ≡ s
fails_only theory once {t} {i} {d = d} {rules = rules} {s = s} test only
    (rule_fails {d = k} other others) =
    let same : fails d ≡ fails k = meets_only theory once test other in
    let calls_same : k ≡ d = cc in
    only s (subst (λ j. Tries theory t (i + 1) rules j s) calls_same others)
fails_only theory once {d = d} test only (rule_blocked {cause = cause} other) =
    let same : fails d ≡ untested cause = meets_only theory once test other in
    let no : ⊥ = cc in absurd no
fails_only theory once {d = d} test only (rule_holds {d = k} other) =
    let same : fails d ≡ holds k = meets_only theory once test other in let no : ⊥ = cc in absurd no

blocked_only : (theory : RewriteTheory) → AllMatchOnce theory
    → {t : Tree} {i c : ℕ} {rule : RewriteRule} {rules : List RewriteRule}
    {theta : List (Option Tree)} {cause : Cause} {s : Trial}
    → Meets theory theta rule.condition c (untested cause)
    → RuleTried theory t i rule rules theta c s → trial_blocked cause ≡ s
blocked_only theory once {cause = cause} test (rule_fails {d = k} other others) =
    let same : untested cause ≡ fails k = meets_only theory once test other in
    let no : ⊥ = cc in absurd no
blocked_only theory once {cause = cause} test (rule_blocked {cause = why} other) =
    let same : untested cause ≡ untested why = meets_only theory once test other in cc
blocked_only theory once {cause = cause} test (rule_holds {d = k} other) =
    let same : untested cause ≡ holds k = meets_only theory once test other in
    let no : ⊥ = cc in absurd no

holds_only : (theory : RewriteTheory) → AllMatchOnce theory
    → {t : Tree} {i c d : ℕ} {rule : RewriteRule} {rules : List RewriteRule}
    {theta : List (Option Tree)} {s : Trial} → Meets theory theta rule.condition c (holds d)
    → RuleTried theory t i rule rules theta c s → applies i rule theta d ≡ s
holds_only theory once {d = d} test (rule_fails {d = k} other others) =
    let same : holds d ≡ fails k = meets_only theory once test other in let no : ⊥ = cc in absurd no
holds_only theory once {d = d} test (rule_blocked {cause = cause} other) =
    let same : holds d ≡ untested cause = meets_only theory once test other in
    let no : ⊥ = cc in absurd no
holds_only theory once {i = i} {d = d} {rule = rule} {theta = theta} test
    (rule_holds {d = k} other) =
    let same : holds d ≡ holds k = meets_only theory once test other in
    let calls_same : d ≡ k = cc in
    ap (applies i rule theta) calls_same

none_left_only : {theory : RewriteTheory} {t : Tree} {i c : ℕ} {s : Trial} → Tries theory t i [] c s
    → none_applies ≡ s
none_left_only no_rule_left = refl

tries_unique : (theory : RewriteTheory) (once : AllMatchOnce theory) {t : Tree} {i c : ℕ}
    {rules : List RewriteRule} {r : Trial} → All (RuleMatchesOnce theory) rules
    → Tries theory t i rules c r → (s : Trial) → Tries theory t i rules c s → r ≡ s
tries_unique theory once each no_rule_left s d = none_left_only d
tries_unique theory once each (rule_unmatched {rule = rule} {rules = rules} never others) s d =
    unmatched_only never
    (tries_unique theory once (all_rest (RuleMatchesOnce theory) rule rules each) others) d
tries_unique theory once each
    (rule_condition_fails {rule = rule} {rules = rules} {theta = theta} m test others) s d =
    fails_only theory once test
    (tries_unique theory once (all_rest (RuleMatchesOnce theory) rule rules each) others)
    (rule_tried theta (all_first (RuleMatchesOnce theory) rule rules each) m d)
tries_unique theory once each
    (rule_condition_blocked {rule = rule} {rules = rules} {theta = theta} m test) s d =
    blocked_only theory once test
    (rule_tried theta (all_first (RuleMatchesOnce theory) rule rules each) m d)
tries_unique theory once each (condition_holds {rule = rule} {rules = rules} {theta = theta} m test)
    s d =
    holds_only theory once test
    (rule_tried theta (all_first (RuleMatchesOnce theory) rule rules each) m d)

pub trial_is_unique : TrialIsUnique
trial_is_unique theory t c r s good a b =
    tries_unique theory (all_match_once theory good) (rules_match_once theory good) a s b

-- ---- steps

-- the outcome of a step, by the outcome of the trial
pub data After (theory : RewriteTheory) : Trial → Stepped → Type 0 where
  after_right : {i d e : ℕ} {rule : RewriteRule} {theta : List (Option Tree)} {u : Tree}
      → Evaluates theory most_nesting theta rule.right d (value u e)
      → After theory (applies i rule theta d) (steps_on u e)
  after_none : After theory none_applies stays
  after_condition : {cause : Cause} → After theory (trial_blocked cause) (stops cause)
  after_blocked : {i d : ℕ} {rule : RewriteRule} {theta : List (Option Tree)} {cause : Cause}
      → Evaluates theory most_nesting theta rule.right d (blocked cause)
      → After theory (applies i rule theta d) (stops cause)

pub after_trial : {theory : RewriteTheory} {t : Tree} {c : ℕ} {s : Stepped} → Steps theory t c s
    → (r : Trial) × Tries theory t 0 theory.rules c r × After theory r s
after_trial (by_rule tries e) = (_, tries, after_right e)
after_trial (by_none tries) = (none_applies, tries, after_none)
after_trial (in_condition {cause = cause} tries) = (trial_blocked cause, tries, after_condition)
after_trial (in_right_side tries e) = (_, tries, after_blocked e)

after_only : (theory : RewriteTheory) → AllMatchOnce theory → {t : Trial} {r s : Stepped}
    → After theory t r → After theory t s → r ≡ s
after_only theory once (after_right {e = c} {u = t} a) (after_right {e = d} {u = u} b) =
    let same : value t c ≡ value u d = evaluation_unique theory once a (value u d) b in cc
after_only theory once (after_right {e = c} {u = t} a) (after_blocked {cause = cause} b) =
    let same : value t c ≡ blocked cause = evaluation_unique theory once a (blocked cause) b in
    let no : ⊥ = cc in absurd no
after_only theory once after_none after_none = refl
after_only theory once after_condition after_condition = refl
after_only theory once (after_blocked {cause = cause} a) (after_right {e = d} {u = u} b) =
    let same : blocked cause ≡ value u d = evaluation_unique theory once a (value u d) b in
    let no : ⊥ = cc in absurd no
after_only theory once (after_blocked {cause = cause} a) (after_blocked {cause = other} b) =
    let same : blocked cause ≡ blocked other = evaluation_unique theory once a (blocked other) b in
    cc

pub step_is_unique : StepIsUnique
step_is_unique theory t c r s good a b =
    let first = after_trial a in
    let second = after_trial b in
    let same : second.0 ≡ first.0 =
    trial_is_unique theory t c second.0 first.0 good second.1 first.1 in
    after_only theory (all_match_once theory good) first.2
    (subst (λ x. After theory x s) same second.2)

-- ---- runs

same_start : (theory : RewriteTheory) → AllMatchOnce theory
    → {start : Pattern} {calls c d : ℕ} {t u : Tree}
    → Evaluates theory most_nesting [] start calls (value t c)
    → Evaluates theory most_nesting [] start calls (value u d) → (t ≡ u) × (c ≡ d)
same_start theory once {c = c} {d = d} {t = t} {u = u} a b =
    let same : value t c ≡ value u d = evaluation_unique theory once a (value u d) b in (cc, cc)

from_start : {theory : RewriteTheory} {start : Pattern} {calls c : ℕ} {t : Tree}
    → Reaches theory start calls 0 t c → Evaluates theory most_nesting [] start calls (value t c)
from_start (at_start e) = e

-- the configuration before a step
record Before (theory : RewriteTheory) (start : Pattern) (calls n : ℕ) (u : Tree) (d : ℕ) :
    Type 0 where
  term : Tree
  left : ℕ
  reached : Reaches theory start calls n term left
  step : Steps theory term left (steps_on u d)

before : {theory : RewriteTheory} {start : Pattern} {calls n d : ℕ} {u : Tree}
    → Reaches theory start calls (suc n) u d → Before theory start calls n u d
before (after_step r s) = record { term = _; left = _; reached = r; step = s }

same_place : (theory : RewriteTheory) → IsWellSorted theory
    → {start : Pattern} {calls : ℕ} (n : ℕ) {c d : ℕ} {t u : Tree}
    → Reaches theory start calls n t c → Reaches theory start calls n u d → (t ≡ u) × (c ≡ d)
same_place theory good zero a b =
    same_start theory (all_match_once theory good) (from_start a) (from_start b)
same_place theory good (suc n) {c} {d} {t} {u} a b =
    let x = before a in
    let y = before b in
    let places = same_place theory good n y.reached x.reached in
    let step : Steps theory x.term x.left (steps_on u d) =
    subst (λ k. Steps theory x.term k (steps_on u d)) places.1
    (subst (λ v. Steps theory v y.left (steps_on u d)) places.0 y.step) in
    let same : steps_on t c ≡ steps_on u d =
    step_is_unique theory x.term x.left (steps_on t c) (steps_on u d) good x.step step in
    (cc, cc)

starts : {theory : RewriteTheory} {start : Pattern} {calls n c : ℕ} {t : Tree}
    → Reaches theory start calls n t c
    → (u : Tree) × (d : ℕ) × Evaluates theory most_nesting [] start calls (value u d)
starts (at_start {t = t} {c = c} e) = (t, c, e)
starts (after_step r s) = starts r

-- a run that continues passes each earlier configuration by a step
passes : {theory : RewriteTheory} {start : Pattern} {calls : ℕ} (m n : ℕ) {d : ℕ} {u : Tree}
    → Reaches theory start calls m u d → n < m
    → (w : Tree) × (e : ℕ) × Before theory start calls n w e
passes zero n r lt = absurd (omega arith)
passes (suc m) n {d} {u} r lt =
    ⊎_elim (λ (same : n ≡ m). rw same (u, d, before r))
    (λ (less : n < m). passes m n (before r).reached less) (eq-or-lt_of_le (omega arith))

-- a configuration is the last one: the limit is reached, or there is no next one
pub record Last (theory : RewriteTheory) (limit : ℕ) (start : Pattern) (calls n : ℕ) (t : Tree)
    (c : ℕ) : Type 0 where
  pub reached : Reaches theory start calls n t c
  pub within : n ≤ limit
  pub ends : n < limit → (w : Tree) (e : ℕ) → Steps theory t c (steps_on w e) → ⊥

-- nothing is reached after it within the limit
pub not_after : (theory : RewriteTheory) → IsWellSorted theory
    → {start : Pattern} {calls : ℕ} (limit n m : ℕ) {c d : ℕ} {t u : Tree}
    → Last theory limit start calls n t c → Reaches theory start calls m u d → m ≤ limit → n < m → ⊥
not_after theory good limit n m {c} {d} {t} {u} a b le lt =
    let on = passes m n b lt in
    let places = same_place theory good n on.2.reached a.reached in
    let step : Steps theory t c (steps_on on.0 on.1) =
    subst (λ k. Steps theory t k (steps_on on.0 on.1)) places.1
    (subst (λ v. Steps theory v on.2.left (steps_on on.0 on.1)) places.0 on.2.step) in
    a.ends (omega arith) on.0 on.1 step

same_count : (theory : RewriteTheory) → IsWellSorted theory
    → {start : Pattern} {calls : ℕ} (limit n m : ℕ) {c d : ℕ} {t u : Tree}
    → Last theory limit start calls n t c → Last theory limit start calls m u d → n ≡ m
same_count theory good limit n m a b =
    let less : n < m → ⊥ = not_after theory good limit n m a b.reached b.within in
    let more : m < n → ⊥ = not_after theory good limit m n b a.reached a.within in
    omega arith

same_last : (theory : RewriteTheory) → IsWellSorted theory
    → {start : Pattern} {calls : ℕ} (limit n m : ℕ) {c d : ℕ} {t u : Tree}
    → Last theory limit start calls n t c → Last theory limit start calls m u d
    → (n ≡ m) × (t ≡ u) × (c ≡ d)
same_last theory good {start} {calls} limit n m {c} {d} {t} {u} a b =
    let counts = same_count theory good limit n m a b in
    let places =
    same_place theory good n a.reached
    (subst (λ k. Reaches theory start calls k u d) (sym counts) b.reached) in
    (counts, places.0, places.1)

pub stuck_last : (theory : RewriteTheory) → IsWellSorted theory
    → {start : Pattern} {calls : ℕ} (limit n : ℕ) (t : Tree)
    → (h : IsRunOf theory limit calls start (stuck n t)) → Last theory limit start calls n t h.0
stuck_last theory good limit n t (c, r, lt, s) = record {
  reached = r;
  within = omega arith;
  ends =
      λ le w e step. let same : stays ≡ steps_on w e =
      step_is_unique theory t c stays (steps_on w e) good s step in
      let no : ⊥ = cc in no;
}

pub stopped_last : (theory : RewriteTheory) → IsWellSorted theory
    → {start : Pattern} {calls : ℕ} (limit n : ℕ) (cause : Cause) (t : Tree)
    → (h : IsRunOf theory limit calls start (stopped n cause t))
    → Last theory limit start calls n t h.0
stopped_last theory good limit n cause t (c, r, lt, s) = record {
  reached = r;
  within = omega arith;
  ends =
      λ le w e step. let same : stops cause ≡ steps_on w e =
      step_is_unique theory t c (stops cause) (steps_on w e) good s step in
      let no : ⊥ = cc in no;
}

pub limited_last : (theory : RewriteTheory) {start : Pattern} {calls : ℕ} (limit n : ℕ) (t : Tree)
    → (h : IsRunOf theory limit calls start (limited n t)) → Last theory limit start calls n t h.0
limited_last theory limit n t (c, r, e) = record {
  reached = r;
  within = omega arith;
  ends = λ lt w k step. absurd (omega arith);
}

-- an initial term whose evaluation is blocked reaches no configuration
pub unstarted_reaches : (theory : RewriteTheory) → IsWellSorted theory
    → {start : Pattern} {calls n c : ℕ} {t : Tree} (cause : Cause)
    → Evaluates theory most_nesting [] start calls (blocked cause)
    → Reaches theory start calls n t c → ⊥
unstarted_reaches theory good cause e r =
    let s = starts r in
    let same : blocked cause ≡ value s.0 s.1 =
    evaluation_unique theory (all_match_once theory good) e (value s.0 s.1) s.2 in
    cc

-- a step from the same configuration
moved : (theory : RewriteTheory) {t u : Tree} {c d : ℕ} {s : Stepped} → t ≡ u → c ≡ d
    → Steps theory u d s → Steps theory t c s
moved theory {t} {u} {c} {d} {s} e k step =
    subst (λ v. Steps theory v c s) (sym e) (subst (λ j. Steps theory u j s) (sym k) step)

pub run_is_unique : RunIsUnique
run_is_unique theory limit calls start (stuck n t) (stuck m u) good a b =
    let same =
    same_last theory good limit n m (stuck_last theory good limit n t a)
    (stuck_last theory good limit m u b) in
    let counts : n ≡ m = same.0 in
    let terms : t ≡ u = same.1 in
    cc
run_is_unique theory limit calls start (stuck n t) (limited m u) good a b =
    let counts =
    same_count theory good limit n m (stuck_last theory good limit n t a)
    (limited_last theory limit m u b) in
    let lt : n < limit = a.2 in let e : m ≡ limit = b.2 in absurd (omega (arith, counts))
run_is_unique theory limit calls start (stuck n t) (stopped m cause u) good a b =
    let same =
    same_last theory good limit n m (stuck_last theory good limit n t a)
    (stopped_last theory good limit m cause u b) in
    let steps : stays ≡ stops cause =
    step_is_unique theory t a.0 stays (stops cause) good a.3 (moved theory same.1 same.2 b.3) in
    let no : ⊥ = cc in absurd no
run_is_unique theory limit calls start (stuck n t) (unstarted cause) good a b =
    absurd (unstarted_reaches theory good cause b a.1)
run_is_unique theory limit calls start (limited n t) (stuck m u) good a b =
    let counts =
    same_count theory good limit n m (limited_last theory limit n t a)
    (stuck_last theory good limit m u b) in
    let lt : m < limit = b.2 in let e : n ≡ limit = a.2 in absurd (omega (arith, counts))
run_is_unique theory limit calls start (limited n t) (limited m u) good a b =
    let same =
    same_last theory good limit n m (limited_last theory limit n t a)
    (limited_last theory limit m u b) in
    let counts : n ≡ m = same.0 in
    let terms : t ≡ u = same.1 in
    cc
run_is_unique theory limit calls start (limited n t) (stopped m cause u) good a b =
    let counts =
    same_count theory good limit n m (limited_last theory limit n t a)
    (stopped_last theory good limit m cause u b) in
    let lt : m < limit = b.2 in let e : n ≡ limit = a.2 in absurd (omega (arith, counts))
run_is_unique theory limit calls start (limited n t) (unstarted cause) good a b =
    absurd (unstarted_reaches theory good cause b a.1)
run_is_unique theory limit calls start (stopped n why t) (stuck m u) good a b =
    let same =
    same_last theory good limit n m (stopped_last theory good limit n why t a)
    (stuck_last theory good limit m u b) in
    let steps : stops why ≡ stays =
    step_is_unique theory t a.0 (stops why) stays good a.3 (moved theory same.1 same.2 b.3) in
    let no : ⊥ = cc in absurd no
run_is_unique theory limit calls start (stopped n why t) (limited m u) good a b =
    let counts =
    same_count theory good limit n m (stopped_last theory good limit n why t a)
    (limited_last theory limit m u b) in
    let lt : n < limit = a.2 in let e : m ≡ limit = b.2 in absurd (omega (arith, counts))
run_is_unique theory limit calls start (stopped n why t) (stopped m cause u) good a b =
    let same =
    same_last theory good limit n m (stopped_last theory good limit n why t a)
    (stopped_last theory good limit m cause u b) in
    let steps : stops why ≡ stops cause =
    step_is_unique theory t a.0 (stops why) (stops cause) good a.3
    (moved theory same.1 same.2 b.3) in
    let counts : n ≡ m = same.0 in
    let terms : t ≡ u = same.1 in
    cc
run_is_unique theory limit calls start (stopped n why t) (unstarted cause) good a b =
    absurd (unstarted_reaches theory good cause b a.1)
run_is_unique theory limit calls start (unstarted why) (stuck m u) good a b =
    absurd (unstarted_reaches theory good why a b.1)
run_is_unique theory limit calls start (unstarted why) (limited m u) good a b =
    absurd (unstarted_reaches theory good why a b.1)
run_is_unique theory limit calls start (unstarted why) (stopped m cause u) good a b =
    absurd (unstarted_reaches theory good why a b.1)
run_is_unique theory limit calls start (unstarted why) (unstarted cause) good a b =
    let same : blocked why ≡ blocked cause =
    evaluation_unique theory (all_match_once theory good) a (blocked cause) b in
    cc
