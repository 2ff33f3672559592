-- Records of evaluations. A record holds what was used at each node of a pattern to get its value,
-- so that a proof can be built from it.
use Rattle.std.specs.Prelude.{◌≡◌, ◌<◌, ◌≤◌, ◌-◌, ◌^◌, ◌⊎◌, ℕ, List, [], ◌∷◌, slice_get, take}
use Rattle.std.specs.Prelude.{Option, Some, None, IsNone, IsSome}
use Rattle.term_core.specs.Terms.{Tree, leaf, node, injected, Forest, no_tree, more_trees, height}
use Rattle.term_core.specs.Terms.{DomainValue}
use Rattle.term_core.specs.Patterns.{Pattern, Patterns, variable, domain_value, application}
use Rattle.term_core.specs.Patterns.{injection, call, no_pattern, more_patterns, binding}
use Rattle.rule_core.specs.Rules.{RewriteRule, Equation}
use Rattle.rule_core.specs.Theories.{RewriteTheory, equations_of}
use Rattle.rule_core.specs.Sorting.{IsSymbol, sort_at}
use Rattle.rule_core.specs.HookCalls.{HookAnswers}
use Rattle.rule_core.specs.Evaluation.{IsInjectionSymbol, most_height, IsTrueValue, IsUnmatchedBy}
use Rattle.rule_core.specs.Evaluation.{MatchesBy, Tests, fails}
use Rattle.rule_core.specs.FirstRule.{Matches, IsUnmatched, Meets, most_nesting}
use Rattle.rule_core.specs.declared.signature.SymInfo.{SymInfo}
use Rattle.rule_core.specs.declared.signature.SymKind.TheVariants.{Equations}

-- A variable's binding; a value; what a constructor built; what the injection from a sort to another
-- built; what the hook of a function returned; or the equation of a function that was used. For an
-- equation it has its number, its substitution, the record of its condition, if it has one, the
-- record of its right side, and what was missed: for an equation of the last resort, why each other
-- equation of the function is not used. An equation is missed if it does not match, or if its
-- condition is not true under the substitution that matches.
mutual
  pub data Record : Type 0 where
    bound : ℕ → Tree → Record
    itself : Tree → Record
    made : ℕ → RecordList → Tree → Record
    injected_record : ℕ → ℕ → Record → Tree → Record
    by_hook : ℕ → RecordList → Tree → Record
    by_equation : ℕ → RecordList → ℕ → List (Option Tree) → OptionalRecord → Record → MissList
        → Record

  pub data RecordList : Type 0 where
    no_record : RecordList
    more_records : Record → RecordList → RecordList

  pub data OptionalRecord : Type 0 where
    unconditional : OptionalRecord
    conditional : Record → OptionalRecord

  pub data Miss : Type 0 where
    no_match : Miss
    condition_false : List (Option Tree) → Record → Miss

  pub data MissList : Type 0 where
    none_missed : MissList
    more_missed : Miss → MissList → MissList

-- the value that a record states
abbrev pub result_of : Record → Tree
result_of (bound x t) = t
result_of (itself t) = t
result_of (made f rs t) = t
result_of (injected_record a b r t) = t
result_of (by_hook f rs t) = t
result_of (by_equation f rs i theta condition body missed) = result_of body

abbrev pub results_of : RecordList → Forest
results_of no_record = no_tree
results_of (more_records r rs) = more_trees (result_of r) (results_of rs)

-- the number of calls with which records are judged
abbrev pub most_calls : ℕ
most_calls = 2 ^ 32 - 1

-- the equation of the function is not used at these terms: it does not match, or its condition
-- fails
abbrev pub IsUnused : RewriteTheory → ℕ → Equation → Forest → Type 0
IsUnused theory f e ts =
    IsUnmatchedBy theory e ts ⊎ ((theta : List (Option Tree)) × (left : ℕ)
    × MatchesBy theory e ts theta
    × Tests theory most_nesting f theta e.condition most_calls (fails left))

-- The record describes the evaluation of the pattern under the substitution.
abbrev mutual
  pub Records : RewriteTheory → List (Option Tree) → Pattern → Record → Type 0
  Records theory theta p (bound x t) = (p ≡ variable x) × (binding theta x ≡ Some t)
  Records theory theta p (itself t) =
      (s : ℕ) × (v : DomainValue) × (p ≡ domain_value s v) × (t ≡ leaf s v)
  Records theory theta p (made f rs t) = (ps : Patterns) × (p ≡ application f ps)
      × (t ≡ node f (results_of rs)) × (height t ≤ most_height) × RecordAll theory theta ps rs
  Records theory theta p (injected_record a b r t) = (q : Pattern) × (p ≡ injection a b q)
      × ((f : ℕ) × IsInjectionSymbol theory.sig f) × (t ≡ injected a b (result_of r))
      × (height t ≤ most_height) × Records theory theta q r
  Records theory theta p (by_hook f rs t) =
      (sorts : List ℕ) × (ps : Patterns) × (info : SymInfo) × (row : ℕ) × (v : DomainValue)
      × (sort : ℕ)
      × (p ≡ call f sorts ps) × IsSymbol theory.sig f info × HookAnswers info row (results_of rs) v
      × (sort_at [] info.result ≡ Some sort) × (t ≡ leaf sort v) × RecordAll theory theta ps rs
  Records theory theta p (by_equation f rs i sigma condition body missed) =
      (sorts : List ℕ) × (ps : Patterns) × (info : SymInfo) × (e : Equation)
      × (p ≡ call f sorts ps)
      × IsSymbol theory.sig f info × (info.kind ≡ Equations)
      × (slice_get (equations_of theory f) i ≡ Some e)
      × MatchesBy theory e (results_of rs) sigma
      × ((j : ℕ) (other : Equation) → j < i →
      slice_get (equations_of theory f) j ≡ Some other → IsUnused theory f other (results_of rs))
      × RecordAll theory theta ps rs × RecordsCondition theory sigma e.condition condition
      × Records theory sigma e.right body
      × ((IsNone e.last_resort × (missed ≡ none_missed))
      ⊎ (IsSome e.last_resort
      × AreMissed theory (take i (equations_of theory f)) (results_of rs) missed))

  pub RecordAll : RewriteTheory → List (Option Tree) → Patterns → RecordList → Type 0
  RecordAll theory theta ps no_record = ps ≡ no_pattern
  RecordAll theory theta ps (more_records r rs) =
      (q : Pattern) × (qs : Patterns) × (ps ≡ more_patterns q qs) × Records theory theta q r
      × RecordAll theory theta qs rs

  -- the same for a condition that holds
  pub RecordsCondition : RewriteTheory → List (Option Tree) → Option Pattern → OptionalRecord
      → Type 0
  RecordsCondition theory theta p unconditional = p ≡ None
  RecordsCondition theory theta p (conditional r) =
      (q : Pattern) × (p ≡ Some q) × Records theory theta q r
      × IsTrueValue (result_of r)

  -- each of these equations is missed at the terms, in order
  pub AreMissed : RewriteTheory → List Equation → Forest → MissList → Type 0
  AreMissed theory es ts none_missed = es ≡ []
  AreMissed theory es ts (more_missed no_match missed) =
      (e : Equation) × (others : List Equation) × (es ≡ e ∷ others) × IsUnmatchedBy theory e ts
      × AreMissed theory others ts missed
  AreMissed theory es ts (more_missed (condition_false sigma r) missed) =
      (e : Equation) × (others : List Equation) × (q : Pattern) × (es ≡ e ∷ others)
      × MatchesBy theory e ts sigma × (e.condition ≡ Some q) × Records theory sigma q r
      × (IsTrueValue (result_of r) → ⊥) × AreMissed theory others ts missed

-- The record of a step: the number of the rule that was used, its substitution, and the records of
-- its condition and of its right side.
pub record StepRecord : Type 0 where
  pub rule : ℕ
  pub theta : List (Option Tree)
  pub condition : OptionalRecord
  pub right : Record

-- the rule is not used at the term: it does not match, or its condition fails
abbrev pub IsUnusedRule : RewriteTheory → RewriteRule → Tree → Type 0
IsUnusedRule theory rule t =
    IsUnmatched theory rule t
    ⊎ ((theta : List (Option Tree)) × (left : ℕ) × Matches theory rule t theta
    × Meets theory theta rule.condition most_calls (fails left))

-- The record describes a step from this term: the rule applies, and the rules before it do not.
pub record RecordsStep (theory : RewriteTheory) (t : Tree) (step : StepRecord) : Type 0 where
  pub rule : RewriteRule
  pub there : slice_get theory.rules step.rule ≡ Some rule
  pub matches : Matches theory rule t step.theta
  pub earlier : (j : ℕ) (other : RewriteRule) → j < step.rule
      → slice_get theory.rules j ≡ Some other → IsUnusedRule theory other t
  pub condition : RecordsCondition theory step.theta rule.condition step.condition
  pub right : Records theory step.theta rule.right step.right
