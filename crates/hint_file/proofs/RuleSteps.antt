-- A step by one rule.
use Rattle.std.proofs.Common.{◌≡◌, ℕ, zero, suc, ◌<◌, ◌≤◌, List, [], ◌∷◌, length, Option, Some}
use Rattle.std.proofs.Common.{None, All, refl, sym, subst, arith}
use Rattle.std.specs.Prelude.{slice_get, Ok, Err, vec_len}
use Rattle.term_core.specs.Terms.{Tree, no_tree, more_trees, height}
use Rattle.term_core.specs.Patterns.{Pattern, no_pattern, more_patterns}
use Rattle.term_core.specs.PatternLists.{AllFitWithin, plain_patterns}
use Rattle.term_core.specs.declared.rule_patterns.RulePat.{RulePat}
use Rattle.rule_core.specs.Rules.{RewriteRule}
use Rattle.rule_core.specs.Theories.{RewriteTheory}
use Rattle.rule_core.specs.WellSorted.{IsWellSorted, IsRuleOf}
use Rattle.rule_core.specs.Matching.{MatchAll}
use Rattle.rule_core.specs.Naming.{AreNamesOf}
use Rattle.rule_core.specs.NamedLaws.{AddsNames}
use Rattle.rule_core.specs.Trial.{FindsFirstMatch}
use Rattle.rule_core.specs.Evaluation.{value, holds, fails, says_true, says_other, says_nothing}
use Rattle.rule_core.specs.Evaluation.{Evaluates, IsTrueValue}
use Rattle.rule_core.specs.FirstRule.{most_nesting, Matches, IsUnmatched, Meets, rule_condition}
use Rattle.rule_core.specs.Records.{Records, result_of}
use Rattle.rule_core.specs.RecordView.{plain_record}
use Rattle.rule_core.specs.ProgramView.{names_of, rewrite_rule, rewrite_rules}
use Rattle.rule_core.specs.RuleVariables.{MatchesByOwnVariables}
use Rattle.rule_core.specs.declared.records.EvalRecord.{EvalRecord}
use Rattle.rule_core.specs.declared.records.StepRecord.{StepRecord}
use Rattle.rule_core.specs.declared.rules.Named.{Named}
use Rattle.rule_core.specs.declared.rules.Rule.{Rule}
use Rattle.rule_core.specs.declared.signature.SortRef.TheVariants.{Sort}
use Rattle.rule_core.proofs.Determined.{values_are_sorted}
use Rattle.rule_core.proofs.EvaluationAnswers.{serves_match}
use Rattle.rule_core.proofs.FirstApplies.{all_at}
use Rattle.rule_core.proofs.NamedMatches.{names_match, none_matches_named}
use Rattle.rule_core.proofs.SortedInstances.{sorted_use_first}
use Rattle.fun_eval.specs.Evaluable.{IsEvaluable}
use Rattle.fun_eval.specs.EvalEnds.{EndsBy}
use Rattle.fun_eval.specs.declared.answer.EvalEnd.{EvalEnd}
use Rattle.fun_eval.specs.declared.answer.EvalEnd.TheVariants.{Blocked, Memory}
use Rattle.fun_eval.proofs.Names.{all_fit, are_names_of}
use Rattle.rewriter.specs.Configurations.{IsConfiguration}
use Rattle.rewriter.proofs.Trying.{triable}
use Rattle.rewriter.proofs.Walks.{count_of}
use Rattle.hint_file.specs.Paths.{applied, condition_fails, condition_blocked}
use Rattle.hint_file.specs.Paths.{right_side_blocked}
use Rattle.hint_file.specs.ReadAnswers.{TestsCondition, TakesStepBy}

-- ---- matching

-- the rule matches by its own variables
pub only_own : (theory : RewriteTheory) (t : Tree) (i : ℕ) (r : Rule) (rules : List Rule)
    → IsConfiguration theory t → slice_get theory.rules i ≡ Some (rewrite_rule r)
    → rules ≡ r ∷ [] → All MatchesByOwnVariables rules
only_own theory t i r rules is there one =
    subst (λ (rs : List Rule). All MatchesByOwnVariables rs) (sym one) all where
      use_own : MatchesByOwnVariables r
      use_own x stands =
          let rule : RewriteRule = rewrite_rule r in
          let fits = triable theory t i rule is there in
          let many : vec_len r.vars ≡ length rule.variables = count_of r (vec_len r.vars) refl in
          let lt : x < length rule.variables =
          sorted_use_first theory.sig rule.variables [] (more_patterns rule.left no_pattern)
          (Sort (record { 0 = fits.0 }) ∷ []) (fits.0, refl, fits.1.left, tt) x stands in
          omega arith

      all : All MatchesByOwnVariables (r ∷ [])
      all zero d lt = use_own
      all (suc k) d lt = absurd (omega arith)

one_there : (rule other : RewriteRule) (i : ℕ) → slice_get (rule ∷ []) i ≡ Some other
    → other ≡ rule
one_there rule other zero h = cc
one_there rule other (suc i) h = absurd (let no : ⊥ = cc in no)

-- all rules of a list of one rule are of the configuration's sort
one_sorted : (theory : RewriteTheory) (sort : ℕ) (rule : RewriteRule)
    → IsRuleOf theory.sig sort rule → All (IsRuleOf theory.sig sort) (rule ∷ [])
one_sorted theory sort rule fits zero d lt = fits
one_sorted theory sort rule fits (suc k) d lt = absurd (omega arith)

pub rule_unmatched : (theory : RewriteTheory) (t : Tree) (i : ℕ) (r : Rule) (rules : List Rule)
    (pairs : List (ℕ × ℕ)) → IsConfiguration theory t
    → slice_get theory.rules i ≡ Some (rewrite_rule r) → rules ≡ r ∷ []
    → theory.sig.subsorts ≡ pairs → FindsFirstMatch pairs (rewrite_rules rules) 0 t None
    → IsUnmatched theory (rewrite_rule r) t
rule_unmatched theory t i r rules pairs is there one same finds =
    let rule : RewriteRule = rewrite_rule r in
    let fits = triable theory t i rule is there in
    let own : FindsFirstMatch pairs (rule ∷ []) 0 t None =
    subst (λ (rs : List Rule). FindsFirstMatch pairs (rewrite_rules rs) 0 t None) one finds in
    let none = own theory.sig fits.0 same (one_sorted theory fits.0 rule fits.1) fits.2 in
    λ theta match. none_matches_named theory.sig rule.variables (more_patterns rule.left no_pattern)
    rule.names (more_trees t no_tree) theta (none 0 rule (omega arith) (omega arith) refl) match

-- the substitution that was found matches the rule without its names
pub rule_found : (theory : RewriteTheory) (t : Tree) (i : ℕ) (r : Rule) (rules : List Rule)
    (pairs : List (ℕ × ℕ)) (hit : ℕ × List (Option Tree)) → IsConfiguration theory t
    → slice_get theory.rules i ≡ Some (rewrite_rule r) → rules ≡ r ∷ []
    → theory.sig.subsorts ≡ pairs → FindsFirstMatch pairs (rewrite_rules rules) 0 t (Some hit)
    → MatchAll theory.sig (rewrite_rule r).variables
    (more_patterns (rewrite_rule r).left no_pattern) (more_trees t no_tree) hit.1
rule_found theory t i r rules pairs hit is there one same finds =
    let rule : RewriteRule = rewrite_rule r in
    let fits = triable theory t i rule is there in
    let own : FindsFirstMatch pairs (rule ∷ []) 0 t (Some hit) =
    subst (λ (rs : List Rule). FindsFirstMatch pairs (rewrite_rules rs) 0 t (Some hit)) one finds in
    let first = own theory.sig fits.0 same (one_sorted theory fits.0 rule fits.1) fits.2 in
    subst (λ (x : RewriteRule). MatchAll theory.sig x.variables (more_patterns x.left no_pattern)
    (more_trees t no_tree) hit.1) (one_there rule first.rule hit.0 first.there) first.matches

-- its names may be added
pub names_fit : (theory : RewriteTheory) (t : Tree) (i : ℕ) (r : Rule) (pats : List RulePat)
    (named : List Named) (theta : List (Option Tree)) → IsConfiguration theory t → height t ≤ 500
    → slice_get theory.rules i ≡ Some (rewrite_rule r) → pats ≡ r.left ∷ []
    → named ≡ r.named.items
    → MatchAll theory.sig (rewrite_rule r).variables
    (more_patterns (rewrite_rule r).left no_pattern) (more_trees t no_tree) theta
    → AllFitWithin 500 theta (plain_patterns pats)
    × AreNamesOf (plain_patterns pats) (length theta) (names_of named)
names_fit theory t i r pats named theta is low there own own_names match =
    let rule : RewriteRule = rewrite_rule r in
    let fits : AllFitWithin 500 theta (plain_patterns (r.left ∷ [])) =
    all_fit 500 theta (more_patterns rule.left no_pattern) (more_trees t no_tree) match.makes
    (omega arith) in
    let names : AreNamesOf (plain_patterns (r.left ∷ [])) (length theta) (names_of r.named.items) =
    are_names_of theory.sig rule.variables (more_patterns rule.left no_pattern) rule.names
    (length theta) (triable theory t i rule is there).1.names match.binds.room in (
      subst (λ (ps : List RulePat). AllFitWithin 500 theta (plain_patterns ps)) (sym own) fits,
      subst (λ (ps : List RulePat). AreNamesOf (plain_patterns ps) (length theta) (names_of named))
          (sym own)
          (subst (λ (ns : List Named). AreNamesOf (plain_patterns (r.left ∷ [])) (length theta)
          (names_of ns)) (sym own_names) names),
    )

-- and then it matches the rule
pub rule_matched : (theory : RewriteTheory) (t : Tree) (i : ℕ) (r : Rule) (pats : List RulePat)
    (named : List Named) (theta sigma : List (Option Tree)) → IsConfiguration theory t
    → slice_get theory.rules i ≡ Some (rewrite_rule r) → pats ≡ r.left ∷ []
    → named ≡ r.named.items
    → MatchAll theory.sig (rewrite_rule r).variables
    (more_patterns (rewrite_rule r).left no_pattern) (more_trees t no_tree) theta
    → AddsNames (plain_patterns pats) (names_of named) theta sigma
    → Matches theory (rewrite_rule r) t sigma
rule_matched theory t i r pats named theta sigma is there own own_names match adds =
    let rule : RewriteRule = rewrite_rule r in
    let all : AddsNames (plain_patterns (r.left ∷ [])) (names_of r.named.items) theta sigma =
    subst (λ (ps : List RulePat).
    AddsNames (plain_patterns ps) (names_of r.named.items) theta sigma)
    own (subst (λ (ns : List Named). AddsNames (plain_patterns pats) (names_of ns) theta sigma)
    own_names adds) in
    names_match theory.sig rule.variables (more_patterns rule.left no_pattern) rule.names
    (more_trees t no_tree) theta sigma (triable theory t i rule is there).1.names match all

-- ---- the condition

pub condition_true : (theory : RewriteTheory) (theta : List (Option Tree)) (p : Option Pattern)
    (q : Pattern) (c left : ℕ) (tested : EvalRecord) → p ≡ Some q
    → Evaluates theory most_nesting theta q c (value (result_of (plain_record tested)) left)
    → Records theory theta q (plain_record tested)
    → IsTrueValue (result_of (plain_record tested))
    → TestsCondition theory theta p c (Ok (Some (Some tested, left)))
condition_true theory theta p q c left tested is evaluated recorded true_value = (
  subst (λ o. Meets theory theta o c (holds left)) (sym is)
      (rule_condition evaluated (says_true true_value)),
  (q, is, recorded, true_value),
)

pub condition_false : (theory : RewriteTheory) (theta : List (Option Tree)) (p : Option Pattern)
    (q : Pattern) (c left : ℕ) (t : Tree) → p ≡ Some q
    → Evaluates theory most_nesting theta q c (value t left) → (IsTrueValue t → ⊥)
    → TestsCondition theory theta p c (Ok None)
condition_false theory theta p q c left t is evaluated other = (
  left,
  subst (λ o. Meets theory theta o c (fails left)) (sym is)
      (rule_condition evaluated (says_other other)),
)

pub condition_ends : (theory : RewriteTheory) (theta : List (Option Tree)) (p : Option Pattern)
    (q : Pattern) (c : ℕ) (end : EvalEnd) → p ≡ Some q
    → EndsBy (Evaluates theory most_nesting theta q c) end
    → TestsCondition theory theta p c (Err end)
condition_ends theory theta p q c (Blocked why) is h =
    subst (λ o. TestsCondition theory theta o c (Err (Blocked why))) (sym is)
    (rule_condition h says_nothing)
condition_ends theory theta p q c Memory is h = tt

-- ---- the step

pub right_evaluable : (theory : RewriteTheory) (t : Tree) (i : ℕ) (rule : RewriteRule)
    (theta : List (Option Tree)) → IsConfiguration theory t → slice_get theory.rules i ≡ Some rule
    → Matches theory rule t theta → height t ≤ 500 → IsEvaluable theory theta rule.right
right_evaluable theory t i rule theta is there match low =
    let fits = triable theory t i rule is there in (
      rule.variables,
      fits.0,
      fits.1.right,
      serves_match theory.sig rule.variables (more_patterns rule.left no_pattern) rule.names
          (more_trees t no_tree) theta rule.right fits.1.names match (omega arith) fits.1.bound,
    )

pub test_ends : (theory : RewriteTheory) (rule : RewriteRule) (i : ℕ) (t : Tree) (c : ℕ)
    (theta : List (Option Tree)) (end : EvalEnd) → Matches theory rule t theta
    → TestsCondition theory theta rule.condition c (Err end)
    → TakesStepBy theory rule i t c (Err end)
test_ends theory rule i t c theta (Blocked why) match h = condition_blocked match h
test_ends theory rule i t c theta Memory match h = tt

pub test_fails : (theory : RewriteTheory) (rule : RewriteRule) (i : ℕ) (t : Tree) (c : ℕ)
    (theta : List (Option Tree)) → Matches theory rule t theta
    → TestsCondition theory theta rule.condition c (Ok None)
    → TakesStepBy theory rule i t c (Ok None)
test_fails theory rule i t c theta match h = condition_fails match h.1

pub right_ends : (theory : RewriteTheory) (rule : RewriteRule) (i : ℕ) (t : Tree) (c : ℕ)
    (theta : List (Option Tree)) (cond : Option EvalRecord) (left : ℕ) (end : EvalEnd)
    → Matches theory rule t theta
    → TestsCondition theory theta rule.condition c (Ok (Some (cond, left)))
    → EndsBy (Evaluates theory most_nesting theta rule.right left) end
    → TakesStepBy theory rule i t c (Err end)
right_ends theory rule i t c theta cond left (Blocked why) match tested h =
    right_side_blocked match tested.0 h
right_ends theory rule i t c theta cond left Memory match tested h = tt

pub step_made : (theory : RewriteTheory) (rule : RewriteRule) (i : ℕ) (t : Tree) (c left rest : ℕ)
    (s : StepRecord) → IsWellSorted theory → IsConfiguration theory t → height t ≤ 500
    → slice_get theory.rules i ≡ Some rule → Matches theory rule t s.subst → s.rule ≡ i
    → TestsCondition theory s.subst rule.condition c (Ok (Some (s.cond, left)))
    → Evaluates theory most_nesting s.subst rule.right left
    (value (result_of (plain_record s.right)) rest)
    → Records theory s.subst rule.right (plain_record s.right)
    → TakesStepBy theory rule i t c (Ok (Some (s, rest)))
step_made theory rule i t c left rest s good is low there match number tested evaluated recorded =
    let fits : IsRuleOf theory.sig is.0 rule =
    all_at (IsRuleOf theory.sig is.0) theory.rules i rule is.1 there in
    let serves =
    serves_match theory.sig rule.variables (more_patterns rule.left no_pattern) rule.names
    (more_trees t no_tree) s.subst rule.right fits.names match (omega arith) fits.bound in
    let fine =
    values_are_sorted theory most_nesting left rest rule.variables s.subst rule.right is.0
    (result_of (plain_record s.right)) good fits.right serves evaluated in (
      applied match tested.0 evaluated,
      record { matches = match; condition = tested.1; right = recorded },
      number,
      (is.0, is.1, fine.0),
    )
