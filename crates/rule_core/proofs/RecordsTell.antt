-- A record of a pattern describes an evaluation of it, with some nesting and some calls left.
use Rattle.std.proofs.Common.{◌≡◌, ℕ, suc, zero, ◌+◌, ◌<◌, ◌≤◌, ⊎_elim, List, [], ◌∷◌, Option, Some}
use Rattle.std.proofs.Common.{refl, sym, ap, subst, slice_get, arith}
use Rattle.term_core.specs.Terms.{Tree, leaf, Forest, more_trees}
use Rattle.term_core.specs.Patterns.{Pattern, Patterns, call, more_patterns}
use Rattle.rule_core.specs.Rules.{Equation}
use Rattle.rule_core.specs.Theories.{RewriteTheory, equations_of}
use Rattle.rule_core.specs.Evaluation.{MatchesBy}
use Rattle.rule_core.specs.Evaluation.{value, values, holds, fails, says_true, Evaluates, bound}
use Rattle.rule_core.specs.Evaluation.{itself, made, function_called, EvaluateAll, none_left}
use Rattle.rule_core.specs.Evaluation.{one_more, HasOutcome, by_hook, by_equations, Equates}
use Rattle.rule_core.specs.Evaluation.{unmatched, condition_fails, used, Tests, no_condition}
use Rattle.rule_core.specs.Evaluation.{condition, EvaluatesIn, inside, of_constructor, of_injection}
use Rattle.rule_core.specs.FirstRule.{most_nesting}
use Rattle.rule_core.specs.Records.{Record, RecordList, no_record, more_records, OptionalRecord}
use Rattle.rule_core.specs.Records.{unconditional, conditional, result_of, results_of, most_calls}
use Rattle.rule_core.specs.Records.{IsUnused, Records, RecordAll, RecordsCondition}
use Rattle.rule_core.specs.Records as kept
use Rattle.rule_core.proofs.MoreLeft.{evaluates_more, all_more, equates_more, tests_more}

-- with some nesting and some calls left, it holds
abbrev pub Somehow : (ℕ → ℕ → ℕ → Type 0) → Type 0
Somehow P = (n : ℕ) × (c : ℕ) × (d : ℕ) × P n c d

abbrev ValueBy : RewriteTheory → List (Option Tree) → Pattern → Tree → ℕ → ℕ → ℕ → Type 0
ValueBy theory theta p t n c d = Evaluates theory n theta p c (value t d)

abbrev ValuesBy : RewriteTheory → List (Option Tree) → Patterns → Forest → ℕ → ℕ → ℕ → Type 0
ValuesBy theory theta ps ts n c d = EvaluateAll theory n theta ps c (values ts d)

abbrev EquatedBy : RewriteTheory → ℕ → List Equation → Forest → Tree → ℕ → ℕ → ℕ → Type 0
EquatedBy theory f es ts t n c d = Equates theory n f es ts c (value t d)

abbrev HoldsBy : RewriteTheory → ℕ → List (Option Tree) → Option Pattern → ℕ → ℕ → ℕ → Type 0
HoldsBy theory f theta p n c d = Tests theory n f theta p c (holds d)

one_more_somehow : (theory : RewriteTheory) (theta : List (Option Tree)) (p : Pattern)
    (ps : Patterns) (t : Tree) (ts : Forest) → Somehow (ValueBy theory theta p t)
    → Somehow (ValuesBy theory theta ps ts)
    → Somehow (ValuesBy theory theta (more_patterns p ps) (more_trees t ts))
one_more_somehow theory theta p ps t ts first others =
    let n : ℕ = first.0 + others.0 in
    let e : Evaluates theory n theta p (first.1 + others.1) (value t (first.2 + others.1)) =
    evaluates_more theory others.1 first.3 n (omega arith) in
    let all : EvaluateAll theory n theta ps (others.1 + first.2) (values ts (others.2 + first.2)) =
    all_more theory first.2 others.3 n (omega arith) in
    let swap : others.1 + first.2 ≡ first.2 + others.1 = omega arith in (
      n,
      first.1 + others.1,
      others.2
          + first.2,
      one_more e (subst
          (λ c. EvaluateAll theory n theta ps c (values ts (others.2 + first.2))) swap all),
    )

-- a call, from its arguments and the result of the function
called_somehow : (theory : RewriteTheory) (theta : List (Option Tree)) (f : ℕ) (sorts : List ℕ)
    (ps : Patterns) (ts : Forest) (t : Tree) (m c d : ℕ) → Somehow (ValuesBy theory theta ps ts)
    → ((n k : ℕ) → m ≤ n → HasOutcome theory n f ts (c + k) (value t (d + k)))
    → Somehow (ValueBy theory theta (call f sorts ps) t)
called_somehow theory theta f sorts ps ts t m c d all applied =
    let n : ℕ = m + all.0 in
    let arguments : EvaluateAll theory n theta ps (all.1 + c) (values ts (all.2 + c)) =
    all_more theory c all.3 n (omega arith) in
    let swap : all.2 + c ≡ c + all.2 = omega arith in
    let value_there : HasOutcome theory n f ts (c + all.2) (value t (d + all.2)) =
    applied n all.2 (omega arith) in (
      suc n,
      all.1 + c,
      d
          + all.2,
      function_called (subst (λ k. EvaluateAll theory n theta ps (all.1 + c) (values ts k)) swap
          arguments) value_there,
    )

skipped_somehow : (theory : RewriteTheory) (f : ℕ) (e : Equation) (es : List Equation) (ts : Forest)
    (t : Tree) → IsUnused theory f e ts → Somehow (EquatedBy theory f es ts t)
    → Somehow (EquatedBy theory f (e ∷ es) ts t)
skipped_somehow theory f e es ts t unused others =
    ⊎_elim (λ never. (others.0, others.1, others.2, unmatched never others.3))
    (λ failed. failing failed.0 failed.1 most_nesting most_calls failed.2 failed.3) unused
  where
    failing : (theta : List (Option Tree)) (left m c : ℕ)
        → MatchesBy theory e ts theta
        → Tests theory m f theta e.condition c (fails left)
        → Somehow (EquatedBy theory f (e ∷ es) ts t)
    failing theta left m c match test =
        let n : ℕ = m + others.0 in
        let tested : Tests theory n f theta e.condition (c + others.1) (fails (left + others.1)) =
        tests_more theory others.1 test tt n (omega arith) in
        let rest : Equates theory n f es ts (others.1 + left) (value t (others.2 + left)) =
        equates_more theory left others.3 n (omega arith) in
        let swap : others.1 + left ≡ left + others.1 = omega arith in (
          n,
          c + others.1,
          others.2
              + left,
          condition_fails match tested
              (subst (λ k. Equates theory n f es ts k (value t (others.2 + left))) swap rest),
        )

used_somehow : (theory : RewriteTheory) (f : ℕ) (e : Equation) (es : List Equation) (ts : Forest)
    (theta : List (Option Tree)) (t : Tree)
    → MatchesBy theory e ts theta
    → Somehow (HoldsBy theory f theta e.condition) → Somehow (ValueBy theory theta e.right t)
    → Somehow (EquatedBy theory f (e ∷ es) ts t)
used_somehow theory f e es ts theta t match test right =
    let n : ℕ = suc (test.0 + right.0) in
    let tested : Tests theory n f theta e.condition (test.1 + right.1) (holds (test.2 + right.1)) =
    tests_more theory right.1 test.3 tt n (omega arith) in
    let there : EvaluatesIn theory n f theta e.right (right.1 + test.2)
    (value t (right.2 + test.2)) =
    inside (evaluates_more theory test.2 right.3 (test.0 + right.0) (omega arith)) in
    let swap : right.1 + test.2 ≡ test.2 + right.1 = omega arith in (
      n,
      test.1 + right.1,
      right.2
          + test.2,
      used match tested (subst
          (λ k. EvaluatesIn theory n f theta e.right k (value t (right.2 + test.2))) swap
          there),
    )

-- from the equation that applies back to the first one
equated_somehow : (theory : RewriteTheory) (f : ℕ) (es : List Equation) (ts : Forest) (t : Tree)
    (i : ℕ) (e : Equation) → slice_get es i ≡ Some e
    → ((j : ℕ) (other : Equation) → j < i → slice_get es j ≡ Some other
    → IsUnused theory f other ts)
    → ((rest : List Equation) → Somehow (EquatedBy theory f (e ∷ rest) ts t))
    → Somehow (EquatedBy theory f es ts t)
equated_somehow theory f [] ts t i e there earlier from = let no : ⊥ = cc in absurd no
equated_somehow theory f (x ∷ es) ts t zero e there earlier from =
    let k : Some x ≡ Some e = there in
    let same : e ≡ x = cc in
    subst (λ y. Somehow (EquatedBy theory f (y ∷ es) ts t)) same (from es)
equated_somehow theory f (x ∷ es) ts t (suc i) e there earlier from =
    skipped_somehow theory f x es ts t (earlier 0 x (omega arith) refl) (equated_somehow theory f es
    ts t i e there (λ j other lt s. earlier (suc j) other (omega arith) s) from)

mutual
  pub record_tells : (theory : RewriteTheory) (theta : List (Option Tree)) (p : Pattern)
      (r : Record) → Records theory theta p r → Somehow (ValueBy theory theta p (result_of r))
  record_tells theory theta p (kept.bound x t) w = rw w.0 (0, 0, 0, bound w.1)
  record_tells theory theta p (kept.itself t) w = rw (w.2, w.3) (0, 0, 0, itself)
  record_tells theory theta p (kept.made f rs t) w =
      let all : Somehow (ValuesBy theory theta w.0 (results_of rs)) =
      records_tell theory theta w.0 rs w.4 in
      rw w.1 (suc all.0, all.1, all.2, made of_constructor all.3 (ap Some (sym w.2)) w.3)
  record_tells theory theta p (kept.injected_record a b r t) w =
      let e : Somehow (ValueBy theory theta w.0 (result_of r)) =
      record_tells theory theta w.0 r w.5 in
      rw w.1 (
        suc e.0,
        e.1,
        e.2,
        made (of_injection w.2.1) (one_more e.3 none_left)
            (ap Some (sym w.3)) w.4,
      )
  record_tells theory theta p (kept.by_hook f rs t) w =
      rw (w.6, w.10) (called_somehow theory theta f w.0 w.1 (results_of rs) (leaf w.5 w.4) 0 1 0
      (records_tell theory theta w.1 rs w.11)
      (λ n k le. let one : 1 + k ≡ suc (0 + k) = omega arith in rw one (by_hook w.7 w.8 w.9)))
  record_tells theory theta p (kept.by_equation f rs i sigma o body missed) w =
      let used_there : (rest : List Equation) → Somehow
      (EquatedBy theory f (w.3 ∷ rest) (results_of rs) (result_of body)) =
      λ rest. used_somehow theory f w.3 rest (results_of rs) sigma (result_of body) w.8
      (condition_told theory f sigma w.3.condition o w.11)
      (record_tells theory sigma w.3.right body w.12) in
      let equated : Somehow
      (EquatedBy theory f (equations_of theory f) (results_of rs) (result_of body)) =
      equated_somehow theory f (equations_of theory f) (results_of rs) (result_of body) i
      w.3 w.7 w.9 used_there in
      rw w.4 (called_somehow theory theta f w.0 w.1 (results_of rs) (result_of body) equated.0
      (suc equated.1) equated.2 (records_tell theory theta w.1 rs w.10)
      (λ n k le. let one : suc equated.1 + k ≡ suc (equated.1 + k) = omega arith in
      rw one (by_equations w.5 w.6 (equates_more theory k equated.3 n le))))

  records_tell : (theory : RewriteTheory) (theta : List (Option Tree)) (ps : Patterns)
      (rs : RecordList) → RecordAll theory theta ps rs
      → Somehow (ValuesBy theory theta ps (results_of rs))
  records_tell theory theta ps no_record w = rw w (0, 0, 0, none_left)
  records_tell theory theta ps (more_records r rs) w =
      rw w.2 (one_more_somehow theory theta w.0 w.1 (result_of r) (results_of rs)
      (record_tells theory theta w.0 r w.3) (records_tell theory theta w.1 rs w.4))

  condition_told : (theory : RewriteTheory) (f : ℕ) (theta : List (Option Tree))
      (p : Option Pattern) (o : OptionalRecord) → RecordsCondition theory theta p o
      → Somehow (HoldsBy theory f theta p)
  condition_told theory f theta p unconditional w = rw w (0, 0, 0, no_condition)
  condition_told theory f theta p (conditional r) w =
      let told : Somehow (ValueBy theory theta w.0 (result_of r)) =
      record_tells theory theta w.0 r w.2 in
      rw w.1 (suc told.0, told.1, told.2, condition (inside told.3) (says_true w.3))
