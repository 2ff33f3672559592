-- An evaluation that has a value leaves no more calls than there were, and has a record.
use Rattle.std.proofs.Common.{◌≡◌, ℕ, suc, zero, ◌+◌, ◌-◌, ◌<◌, ◌≤◌, inl, inr, List, ◌∷◌, Option}
use Rattle.std.proofs.Common.{Some, None, refl, sym, ◌∙◌, ap, subst, slice_get, take, le_trans}
use Rattle.std.proofs.Common.{◌⊎◌, arith}
use Rattle.std.specs.Prelude.{IsSome, IsNone}
use Rattle.term_core.specs.Terms.{Tree, leaf, node, injected, Forest, no_tree, more_trees, height}
use Rattle.term_core.specs.Patterns.{Pattern, Patterns, injection, call, no_pattern, more_patterns}
use Rattle.rule_core.specs.Rules.{Equation, Guard}
use Rattle.rule_core.specs.Theories.{RewriteTheory, equations_of}
use Rattle.rule_core.specs.Evaluation.{MatchesBy, IsUnmatchedBy}
use Rattle.rule_core.specs.Evaluation.{value, blocked, values, ConditionOutcome, holds, fails}
use Rattle.rule_core.specs.Evaluation.{untested, built, says_true, says_other, says_nothing}
use Rattle.rule_core.specs.Evaluation.{Evaluates, bound, itself, made, function_called, EvaluateAll}
use Rattle.rule_core.specs.Evaluation.{none_left, one_more, HasOutcome, by_hook, by_equations}
use Rattle.rule_core.specs.Evaluation.{Equates, unmatched, condition_fails, used, Tests}
use Rattle.rule_core.specs.Evaluation.{no_condition, condition, EvaluatesIn, inside, IsTrueValue}
use Rattle.rule_core.specs.Evaluation.{Says, HasHead, of_constructor, of_injection, of_call}
use Rattle.rule_core.specs.Evaluation.{most_height}
use Rattle.rule_core.specs.FirstRule.{most_nesting}
use Rattle.rule_core.specs.HookCalls.{HookAnswers}
use Rattle.rule_core.specs.Records.{Record, RecordList, no_record, more_records, OptionalRecord}
use Rattle.rule_core.specs.Records.{unconditional, conditional, result_of, results_of, most_calls}
use Rattle.rule_core.specs.Records.{IsUnused, Records, RecordAll, RecordsCondition, AreMissed, Miss}
use Rattle.rule_core.specs.Records.{no_match, condition_false, MissList, none_missed, more_missed}
use Rattle.rule_core.specs.Records as kept
use Rattle.rule_core.specs.Sorting.{IsSymbol}
use Rattle.rule_core.specs.declared.signature.SymInfo.{SymInfo}
use Rattle.rule_core.specs.declared.signature.SymKind.TheVariants.{Equations}
use Rattle.rule_core.proofs.MoreLeft.{tests_more}

-- the number of calls that a condition leaves, if it is not blocked
abbrev pub LeavesAtMost : ℕ → ConditionOutcome → Type 0
LeavesAtMost c (holds d) = d ≤ c
LeavesAtMost c (fails d) = d ≤ c
LeavesAtMost c (untested cause) = Unit {0}

pub says_at_most : {c d : ℕ} {t : Tree} {r : ConditionOutcome} → Says (value t d) r → d ≤ c
    → LeavesAtMost c r
says_at_most (says_true is) le = le
says_at_most (says_other other) le = le

mutual
  pub calls_fall : {theory : RewriteTheory} {n c d : ℕ} {theta : List (Option Tree)} {p : Pattern}
      {t : Tree} → Evaluates theory n theta p c (value t d) → d ≤ c
  calls_fall (bound e) = omega arith
  calls_fall itself = omega arith
  calls_fall (made h all b low) = all_calls_fall all
  calls_fall (function_called all applied) = omega (
    arith,
    all_calls_fall all,
    applied_calls_fall applied,
  )

  pub all_calls_fall : {theory : RewriteTheory} {n c d : ℕ} {theta : List (Option Tree)}
      {ps : Patterns} {ts : Forest} → EvaluateAll theory n theta ps c (values ts d) → d ≤ c
  all_calls_fall none_left = omega arith
  all_calls_fall (one_more e all) = omega (arith, calls_fall e, all_calls_fall all)

  applied_calls_fall : {theory : RewriteTheory} {n f c d : ℕ} {ts : Forest} {t : Tree}
      → HasOutcome theory n f ts c (value t d) → d ≤ c
  applied_calls_fall (by_hook i a s) = omega arith
  applied_calls_fall (by_equations i is e) = omega (arith, equated_calls_fall e)

  equated_calls_fall : {theory : RewriteTheory} {n f c d : ℕ} {es : List Equation} {ts : Forest}
      {t : Tree} → Equates theory n f es ts c (value t d) → d ≤ c
  equated_calls_fall (unmatched never others) = equated_calls_fall others
  equated_calls_fall (condition_fails {c = c} {d = k} match test others) =
      let le : k ≤ c = tested_calls_fall test in omega (arith, le, equated_calls_fall others)
  equated_calls_fall (used {c = c} {d = k} match test right) =
      let le : k ≤ c = tested_calls_fall test in omega (arith, le, within_calls_fall right)

  tested_calls_fall : {theory : RewriteTheory} {n f c : ℕ} {theta : List (Option Tree)}
      {p : Option Pattern} {r : ConditionOutcome} → Tests theory n f theta p c r → LeavesAtMost c r
  tested_calls_fall no_condition = omega arith
  tested_calls_fall (condition {e = value t d} e says) = says_at_most says (within_calls_fall e)
  tested_calls_fall (condition {e = blocked cause} e says_nothing) = tt

  within_calls_fall : {theory : RewriteTheory} {n f c d : ℕ} {theta : List (Option Tree)}
      {p : Pattern} {t : Tree} → EvaluatesIn theory n f theta p c (value t d) → d ≤ c
  within_calls_fall (inside e) = calls_fall e

-- a record of the pattern whose result is this term
abbrev pub RecordOf : RewriteTheory → List (Option Tree) → Pattern → Tree → Type 0
RecordOf theory theta p t = (r : Record) × Records theory theta p r × (result_of r ≡ t)

abbrev RecordsOf : RewriteTheory → List (Option Tree) → Patterns → Forest → Type 0
RecordsOf theory theta ps ts =
    (rs : RecordList) × RecordAll theory theta ps rs × (results_of rs ≡ ts)

abbrev pub ConditionRecord : RewriteTheory → List (Option Tree) → Option Pattern → ConditionOutcome
    → Type 0
ConditionRecord theory theta p (holds c) = (o : OptionalRecord) × RecordsCondition theory theta p o
ConditionRecord theory theta p (fails c) =
    (q : Pattern) × (r : Record) × (p ≡ Some q) × Records theory theta q r
    × (IsTrueValue (result_of r) → ⊥)
ConditionRecord theory theta p (untested cause) = Unit {0}

-- the first of these equations that applies at the terms, with its records
record EquationRecord (theory : RewriteTheory) (f : ℕ) (es : List Equation) (ts : Forest)
    (t : Tree) : Type 0 where
  place : ℕ
  equation : Equation
  there : slice_get es place ≡ Some equation
  sigma : List (Option Tree)
  matches : MatchesBy theory equation ts sigma
  earlier : (j : ℕ) (other : Equation) → j < place → slice_get es j ≡ Some other
      → IsUnused theory f other ts
  test : OptionalRecord
  condition : RecordsCondition theory sigma equation.condition test
  body : Record
  right : Records theory sigma equation.right body
  result : result_of body ≡ t
  missed : MissList
  passed : AreMissed theory (take place es) ts missed

-- why one equation is missed, in front of why the later ones are
abbrev MissedFirst : RewriteTheory → Equation → Forest → Type 0
MissedFirst theory e ts =
    (miss : Miss) × ((es : List Equation) (missed : MissList) → AreMissed theory es ts missed
    → AreMissed theory (e ∷ es) ts (more_missed miss missed))

first_unmatched : {theory : RewriteTheory} (e : Equation) (ts : Forest)
    → IsUnmatchedBy theory e ts → MissedFirst theory e ts
first_unmatched e ts never = (no_match, λ es missed later. (e, es, refl, never, later))

first_false : {theory : RewriteTheory} (e : Equation) (ts : Forest) (theta : List (Option Tree))
    (d : ℕ) → MatchesBy theory e ts theta → ConditionRecord theory theta e.condition (fails d)
    → MissedFirst theory e ts
first_false e ts theta d match (q, r, is, recorded, not_true) = (
  condition_false theta r,
  λ es missed later. (e, es, q, refl, match, is, recorded, not_true, later),
)

one_later : {theory : RewriteTheory} {f : ℕ} {es : List Equation} {ts : Forest} {t : Tree}
    (e : Equation) → IsUnused theory f e ts → MissedFirst theory e ts
    → EquationRecord theory f es ts t → EquationRecord theory f (e ∷ es) ts t
one_later {theory} {f} {es} {ts} e unused first r = record {
  place = suc r.place;
  equation = r.equation;
  there = r.there;
  sigma = r.sigma;
  matches = r.matches;
  earlier = before;
  test = r.test;
  condition = r.condition;
  body = r.body;
  right = r.right;
  result = r.result;
  missed = more_missed first.0 r.missed;
  passed = first.1 (take r.place es) r.missed r.passed;
} where
  before : (j : ℕ) (other : Equation) → j < suc r.place → slice_get (e ∷ es) j ≡ Some other
      → IsUnused theory f other ts
  before zero other lt s =
      let k : Some e ≡ Some other = s in
      let same : e ≡ other = cc in subst (λ x. IsUnused theory f x ts) same unused
  before (suc j) other lt s = r.earlier j other (omega arith) s

first_used : {theory : RewriteTheory} {f : ℕ} {ts : Forest} {t : Tree} (e : Equation)
    (es : List Equation) (theta : List (Option Tree))
    → MatchesBy theory e ts theta → (o : OptionalRecord)
    → RecordsCondition theory theta e.condition o → RecordOf theory theta e.right t
    → EquationRecord theory f (e ∷ es) ts t
first_used e es theta match o kept_condition right = record {
  place = 0;
  equation = e;
  there = refl;
  sigma = theta;
  matches = match;
  earlier = λ j other lt s. absurd (omega arith);
  test = o;
  condition = kept_condition;
  body = right.0;
  right = right.1;
  result = right.2;
  missed = none_missed;
  passed = refl;
}

-- a condition that fails with less also fails with the calls and the nesting with which records are
-- judged
failed_before : {theory : RewriteTheory} {f : ℕ} {ts : Forest} (e : Equation)
    (theta : List (Option Tree)) (n c d m k : ℕ)
    → MatchesBy theory e ts theta
    → Tests theory n f theta e.condition c (fails d) → n ≤ m → c ≤ k
    → (left : ℕ) × Tests theory m f theta e.condition k (fails left)
failed_before {theory} {f} e theta n c d m k match test le few =
    let whole : c + (k - c) ≡ k = omega arith in (
      d
          + (k - c),
      subst (λ j. Tests theory m f theta e.condition j (fails (d + (k - c)))) whole
          (tests_more theory (k - c) test tt m le),
    )

unused_before : {theory : RewriteTheory} {f : ℕ} {ts : Forest} (e : Equation)
    (theta : List (Option Tree)) (n c d : ℕ)
    → MatchesBy theory e ts theta
    → Tests theory n f theta e.condition c (fails d) → n ≤ most_nesting → c ≤ most_calls
    → IsUnused theory f e ts
unused_before e theta n c d match test le few =
    let failed = failed_before e theta n c d most_nesting most_calls match test le few in
    inr (theta, failed.0, match, failed.1)

-- an equation of the last resort lists what was missed
what_is_said : (theory : RewriteTheory) (es : List Equation) (guards : Option (List Guard))
    (ts : Forest) (missed : MissList) → AreMissed theory es ts missed
    → (said : MissList) × ((IsNone guards × (said ≡ none_missed))
    ⊎ (IsSome guards × AreMissed theory es ts said))
what_is_said theory es None ts missed passed = (none_missed, inl (refl, refl))
what_is_said theory es (Some guards) ts missed passed = (missed, inr (refl, passed))

by_equation_record : (theory : RewriteTheory) (f : ℕ) (info : SymInfo) {theta : List (Option Tree)}
    {ts : Forest} {t : Tree} → IsSymbol theory.sig f info → info.kind ≡ Equations
    → (sorts : List ℕ) (ps : Patterns) → RecordsOf theory theta ps ts
    → EquationRecord theory f (equations_of theory f) ts t
    → RecordOf theory theta (call f sorts ps) t
by_equation_record theory f info {ts = ts} is defined sorts ps args r =
    let back : ts ≡ results_of args.0 = sym args.2 in
    let there =
    subst (λ us. MatchesBy theory r.equation us r.sigma) back
    r.matches in
    let before =
    subst (λ us. (j : ℕ) (other : Equation) → j < r.place
    → slice_get (equations_of theory f) j ≡ Some other → IsUnused theory f other us)
    back r.earlier in
    let said =
    what_is_said theory (take r.place (equations_of theory f)) r.equation.last_resort
    (results_of args.0) r.missed
    (subst (λ us. AreMissed theory (take r.place (equations_of theory f)) us r.missed) back
    r.passed) in (
      kept.by_equation f args.0 r.place r.sigma r.test r.body said.0,
      (
        sorts,
        ps,
        info,
        r.equation,
        refl,
        is,
        defined,
        r.there,
        there,
        before,
        args.1,
        r.condition,
        r.right,
        said.1,
      ),
      r.result,
    )

pub condition_record : (theory : RewriteTheory) {theta : List (Option Tree)} (p : Pattern) {d : ℕ}
    {t : Tree} {r : ConditionOutcome} → Says (value t d) r → RecordOf theory theta p t
    → ConditionRecord theory theta (Some p) r
condition_record theory p (says_true is) kept_value =
    (conditional kept_value.0, (p, refl, kept_value.1, subst IsTrueValue (sym kept_value.2) is))
condition_record theory p (says_other other) kept_value =
    (p, kept_value.0, refl, kept_value.1, λ is. other (subst IsTrueValue kept_value.2 is))

-- a list of records of one pattern has one record
abbrev AreOne : RewriteTheory → List (Option Tree) → Pattern → RecordList → Type 0
AreOne theory theta p rs =
    (r : Record) × Records theory theta p r × (results_of rs ≡ more_trees (result_of r) no_tree)

one_record : (theory : RewriteTheory) (theta : List (Option Tree)) (p : Pattern) (rs : RecordList)
    → RecordAll theory theta (more_patterns p no_pattern) rs → AreOne theory theta p rs
one_record theory theta p no_record all = let no : ⊥ = cc in absurd no
one_record theory theta p (more_records r no_record) all =
    let only : more_patterns p no_pattern ≡ more_patterns all.0 all.1 = all.2 in
    let same : all.0 ≡ p = cc in
    (r, subst (λ q. Records theory theta q r) same all.3, refl)
one_record theory theta p (more_records r (more_records s rs)) all =
    let only : more_patterns p no_pattern ≡ more_patterns all.0 all.1 = all.2 in
    let more : all.1 ≡ more_patterns all.4.0 all.4.1 = all.4.2 in
    let no : ⊥ = cc in absurd no

-- what a constructor or an injection builds has a record
built_record : (theory : RewriteTheory) {theta : List (Option Tree)} {f : ℕ} {p : Pattern}
    {ps : Patterns} {ts : Forest} (t : Tree) → HasHead theory p f ps → built p ts ≡ Some t
    → height t ≤ most_height → RecordsOf theory theta ps ts → RecordOf theory theta p t
built_record theory {ts = ts} t (of_constructor {f = f} {ps = ps}) b low args =
    let there : Some (node f ts) ≡ Some t = b in
    let same : t ≡ node f ts = cc in (
      kept.made f args.0 t,
      (ps, refl, same ∙ ap (node f) (sym args.2), low, args.1),
      refl,
    )
built_record theory {theta} {ts = ts} t (of_injection {a = a} {b = b} {f = f} {p = q} i) b_is low
    args =
    let one = one_record theory theta q args.0 args.1 in
    let there : Some (injected a b (result_of one.0)) ≡ Some t =
    subst (λ us. built (injection a b q) us ≡ Some t) (sym args.2 ∙ one.2) b_is in
    let same : t ≡ injected a b (result_of one.0) = cc in
    (kept.injected_record a b one.0 t, (q, refl, (f, i), same, low, one.1), refl)
built_record theory t of_call b low args = let no : ⊥ = cc in absurd no

mutual
  pub has_record : (theory : RewriteTheory) {n c d : ℕ} {theta : List (Option Tree)} {p : Pattern}
      {t : Tree} → Evaluates theory n theta p c (value t d) → n ≤ most_nesting → c ≤ most_calls
      → RecordOf theory theta p t
  has_record theory (bound {x = x} {t = t} e) le few = (kept.bound x t, (refl, e), refl)
  has_record theory (itself {s = s} {v = v}) le few =
      (kept.itself (leaf s v), (s, v, refl, refl), refl)
  has_record theory (made {t = t} h all b low) le few =
      built_record theory t h b low (have_records theory all (omega arith) few)
  has_record theory (function_called {c = c} {d = d} {sorts = sorts} {ps = ps} all applied) le few =
      let fewer : d ≤ c = all_calls_fall all in
      has_call_record theory applied (omega arith) (le_trans fewer few) sorts ps
      (have_records theory all (omega arith) few)

  have_records : (theory : RewriteTheory) {n c d : ℕ} {theta : List (Option Tree)} {ps : Patterns}
      {ts : Forest} → EvaluateAll theory n theta ps c (values ts d) → n ≤ most_nesting
      → c ≤ most_calls → RecordsOf theory theta ps ts
  have_records theory none_left le few = (no_record, refl, refl)
  have_records theory (one_more {c = c} {d = d} {p = p} {ps = ps} {t = t} e all) le few =
      let fewer : d ≤ c = calls_fall e in
      let first = has_record theory e le few in
      let others = have_records theory all le (le_trans fewer few) in (
        more_records first.0 others.0,
        (p, ps, refl, first.1, others.1),
        ap (λ u. more_trees u (results_of others.0)) first.2 ∙ ap (more_trees t) others.2,
      )

  has_call_record : (theory : RewriteTheory) {n f c d : ℕ} {ts : Forest} {t : Tree}
      → HasOutcome theory n f ts c (value t d) → n ≤ most_nesting → c ≤ most_calls
      → {theta : List (Option Tree)} (sorts : List ℕ) (ps : Patterns) → RecordsOf theory theta ps ts
      → RecordOf theory theta (call f sorts ps) t
  has_call_record theory (by_hook {f = f} {sort = sort} {info = info} {v = v} {row = row} i a s) le
      few sorts ps args = (
        kept.by_hook f args.0 (leaf sort v),
        (
          sorts,
          ps,
          info,
          row,
          v,
          sort,
          refl,
          i,
          subst (λ us. HookAnswers info row us v) (sym args.2) a,
          s,
          refl,
          args.1,
        ),
        refl,
      )
  has_call_record theory (by_equations {n = n} {f = f} {c = c} {info = info} {e = e} i is eq) le few
      sorts ps args =
      let r = has_equation_record theory eq le (le_trans (omega arith) few) in
      by_equation_record theory f info i is sorts ps args r

  has_equation_record : (theory : RewriteTheory) {n f c d : ℕ} {es : List Equation} {ts : Forest}
      {t : Tree} → Equates theory n f es ts c (value t d) → n ≤ most_nesting → c ≤ most_calls
      → EquationRecord theory f es ts t
  has_equation_record theory {ts = ts} (unmatched {e = e} never others) le few =
      one_later {theory = theory} e (inl never) (first_unmatched e ts never) (has_equation_record theory others le few)
  has_equation_record theory {ts = ts}
      (condition_fails {n = n} {c = c} {d = d} {e = e} {theta = theta} match test others) le few =
      let fewer : d ≤ c = tested_calls_fall test in
      one_later {theory = theory} e (unused_before e theta n c d match test le few)
      (first_false e ts theta d match (has_condition_record theory test le few))
      (has_equation_record theory others le (le_trans fewer few))
  has_equation_record theory
      (used {c = c} {d = d} {e = e} {es = es} {theta = theta} match test right) le few =
      let fewer : d ≤ c = tested_calls_fall test in
      let o = has_condition_record theory test le few in
      first_used e es theta match o.0 o.1 (has_record_within theory right le (le_trans fewer few))

  has_condition_record : (theory : RewriteTheory) {n f c : ℕ} {theta : List (Option Tree)}
      {p : Option Pattern} {r : ConditionOutcome} → Tests theory n f theta p c r → n ≤ most_nesting
      → c ≤ most_calls → ConditionRecord theory theta p r
  has_condition_record theory no_condition le few = (unconditional, refl)
  has_condition_record theory (condition {p = p} {e = value t d} e says) le few =
      condition_record theory p says (has_record_within theory e le few)
  has_condition_record theory (condition {e = blocked cause} e says_nothing) le few = tt

  has_record_within : (theory : RewriteTheory) {n f c d : ℕ} {theta : List (Option Tree)}
      {p : Pattern} {t : Tree} → EvaluatesIn theory n f theta p c (value t d) → n ≤ most_nesting
      → c ≤ most_calls → RecordOf theory theta p t
  has_record_within theory (inside e) le few = has_record theory e (omega arith) few
