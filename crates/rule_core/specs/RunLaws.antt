-- Laws of steps and runs.
use Rattle.std.specs.Prelude.{◌≡◌, ◌≤◌, ◌⊎◌, ℕ, List, [], Option, Some, slice_get, All}
use Rattle.term_core.specs.Terms.{Tree, height, IsNormal}
use Rattle.term_core.specs.Patterns.{Pattern, ground_pattern}
use Rattle.rule_core.specs.Rules.{RewriteRule, ComesBefore}
use Rattle.rule_core.specs.Theories.{RewriteTheory}
use Rattle.rule_core.specs.Sorting.{HasSort, IsTermOf}
use Rattle.rule_core.specs.Evaluation.{holds, fails, most_height}
use Rattle.rule_core.specs.FirstRule.{Matches, IsUnmatched, Meets, Trial, applies, none_applies}
use Rattle.rule_core.specs.FirstRule.{Tries}
use Rattle.rule_core.specs.Runs.{Stepped, steps_on, Steps, Reaches, Run, stuck, limited, stopped}
use Rattle.rule_core.specs.Runs.{unstarted, IsRunOf, kept_by}
use Rattle.rule_core.specs.RunCuts.{MayEndAt}
use Rattle.rule_core.specs.Records.{StepRecord, RecordsStep, most_calls, result_of}
use Rattle.rule_core.specs.WellSorted.{IsWellSorted, IsRuleOf}

-- A trial of the rules, a step and a run each have at most one outcome.
abbrev pub TrialIsUnique : Type 0
TrialIsUnique = (theory : RewriteTheory) (t : Tree) (c : ℕ) (r s : Trial) → IsWellSorted theory →
    Tries theory t 0 theory.rules c r → Tries theory t 0 theory.rules c s → r ≡ s

abbrev pub StepIsUnique : Type 0
StepIsUnique = (theory : RewriteTheory) (t : Tree) (c : ℕ) (r s : Stepped) → IsWellSorted theory →
    Steps theory t c r → Steps theory t c s → r ≡ s

abbrev pub RunIsUnique : Type 0
RunIsUnique =
    (theory : RewriteTheory) (limit calls : ℕ) (start : Pattern) (r s : Run) → IsWellSorted theory →
    IsRunOf theory limit calls start r → IsRunOf theory limit calls start s → r ≡ s

-- the pattern is a configuration that is reached after at most this many steps
abbrev pub IsReachedWithin : RewriteTheory → ℕ → Pattern → ℕ → Pattern → Type 0
IsReachedWithin theory calls start most end =
    (n : ℕ) × (c : ℕ) × (t : Tree) × Reaches theory start calls n t c × (n ≤ most)
    × (end ≡ ground_pattern t)

-- the pattern is a configuration of the run, or the initial term of a run that has none
abbrev pub IsOfRun : RewriteTheory → ℕ → Pattern → Run → Pattern → Type 0
IsOfRun theory calls start (stuck n t) end = IsReachedWithin theory calls start n end
IsOfRun theory calls start (limited n t) end = IsReachedWithin theory calls start n end
IsOfRun theory calls start (stopped n cause t) end = IsReachedWithin theory calls start n end
IsOfRun theory calls start (unstarted cause) end = end ≡ start

-- Where a run may be cut is a configuration of the one run of the term, or its initial term if there
-- is none. A run may be cut where it ends.
abbrev pub EndsAreOfRun : Type 0
EndsAreOfRun =
    (theory : RewriteTheory) (limit calls : ℕ) (start end : Pattern) (r : Run) → IsWellSorted theory →
    IsRunOf theory limit calls start r → MayEndAt theory limit calls start end →
    IsOfRun theory calls start r end

abbrev pub RunMayEnd : Type 0
RunMayEnd =
    (theory : RewriteTheory) (limit calls : ℕ) (start : Pattern) (r : Run) →
    IsRunOf theory limit calls start r → MayEndAt theory limit calls start (kept_by start r)

-- a trial passed over the rule: it does not match, or its condition failed with the number of calls
-- that were left then
abbrev pub IsPassedOver : RewriteTheory → Tree → RewriteRule → Type 0
IsPassedOver theory t rule =
    IsUnmatched theory rule t
    ⊎ ((theta : List (Option Tree)) × (c : ℕ) × (d : ℕ) × Matches theory rule t theta
    × Meets theory theta rule.condition c (fails d))

-- The rule that applies matches, and its condition holds. Each rule that comes before it by
-- priority and position is passed over.
abbrev pub FirstApplies : Type 0
FirstApplies =
    (theory : RewriteTheory) (t : Tree) (c i d : ℕ) (rule : RewriteRule)
    (theta : List (Option Tree)) →
    IsWellSorted theory → Tries theory t 0 theory.rules c (applies i rule theta d) →
    (slice_get theory.rules i ≡ Some rule) × Matches theory rule t theta × ((b : ℕ)
    × Meets theory theta rule.condition b (holds d)) ×
    ((j : ℕ) (other : RewriteRule) → slice_get theory.rules j ≡ Some other →
    ComesBefore (other.priority, other.place) (rule.priority, rule.place)
    → IsPassedOver theory t other)

-- If no rule applies, each is passed over.
abbrev pub NoneApplies : Type 0
NoneApplies =
    (theory : RewriteTheory) (t : Tree) (c j : ℕ) (other : RewriteRule) →
    Tries theory t 0 theory.rules c none_applies → slice_get theory.rules j ≡ Some other →
    IsPassedOver theory t other

-- An initial term of the rules' sort has a run.
abbrev pub HasRun : Type 0
HasRun =
    (theory : RewriteTheory) (limit calls sort : ℕ) (start : Pattern) → IsWellSorted theory →
    All (IsRuleOf theory.sig sort) theory.rules → HasSort theory.sig [] start sort →
    (r : Run) × IsRunOf theory limit calls start r

-- Its configurations are normal terms of this sort, and they are not too high.
abbrev pub ConfigurationsAreSorted : Type 0
ConfigurationsAreSorted =
    (theory : RewriteTheory) (calls sort n c : ℕ) (start : Pattern) (t : Tree) → IsWellSorted theory
    →
    All (IsRuleOf theory.sig sort) theory.rules → HasSort theory.sig [] start sort →
    Reaches theory start calls n t c
    → IsTermOf theory.sig t sort × IsNormal t × (height t ≤ most_height)

-- A step has a record, if the number of calls left is at most the one with which records are
-- judged.
abbrev pub StepHasRecord : Type 0
StepHasRecord =
    (theory : RewriteTheory) (t u : Tree) (c d : ℕ) → c ≤ most_calls
    → Steps theory t c (steps_on u d) →
    (step : StepRecord) × RecordsStep theory t step × (result_of step.right ≡ u)

-- If there is a record of a step from a term, its result is the only term to which a step leads.
abbrev pub StepRecordDetermines : Type 0
StepRecordDetermines =
    (theory : RewriteTheory) (t u : Tree) (c d : ℕ) (step : StepRecord) → IsWellSorted theory →
    RecordsStep theory t step → Steps theory t c (steps_on u d) → u ≡ result_of step.right
