-- Laws of evaluation and of its records.
use Rattle.std.specs.Prelude.{◌≡◌, ◌≤◌, ◌+◌, ℕ, List, Option}
use Rattle.term_core.specs.Terms.{Tree, height, IsNormal}
use Rattle.term_core.specs.Patterns.{Pattern}
use Rattle.rule_core.specs.Theories.{RewriteTheory}
use Rattle.rule_core.specs.Sorting.{HasSort, IsTermOf}
use Rattle.rule_core.specs.Evaluation.{Evaluated, value, Evaluates, most_height}
use Rattle.rule_core.specs.FirstRule.{most_nesting}
use Rattle.rule_core.specs.Records.{Record, result_of, most_calls, Records}
use Rattle.rule_core.specs.WellSorted.{IsWellSorted, BindsVariablesOf}

-- Evaluation is a function: it has at most one answer.
abbrev pub EvaluationIsUnique : Type 0
EvaluationIsUnique =
    (theory : RewriteTheory) (n c : ℕ) (theta : List (Option Tree)) (p : Pattern) (r s : Evaluated)
    →
    IsWellSorted theory → Evaluates theory n theta p c r → Evaluates theory n theta p c s → r ≡ s

-- It has at least one answer, for a well-sorted pattern under a substitution that serves it.
abbrev pub EvaluationHasAnswer : Type 0
EvaluationHasAnswer =
    (theory : RewriteTheory) (n c : ℕ) (variables : List ℕ) (theta : List (Option Tree))
    (p : Pattern) (sort : ℕ) →
    IsWellSorted theory → HasSort theory.sig variables p sort →
    BindsVariablesOf theory.sig variables theta p → (r : Evaluated) × Evaluates theory n theta p c r

-- The value of a well-sorted pattern is a normal term of its sort, and it is not too high.
abbrev pub ValuesAreSorted : Type 0
ValuesAreSorted =
    (theory : RewriteTheory) (n c d : ℕ) (variables : List ℕ) (theta : List (Option Tree))
    (p : Pattern) (sort : ℕ) (t : Tree) → IsWellSorted theory
    → HasSort theory.sig variables p sort →
    BindsVariablesOf theory.sig variables theta p → Evaluates theory n theta p c (value t d)
    → IsTermOf theory.sig t sort
    × IsNormal t × (height t ≤ most_height)

-- The calls and the nesting left can only block an evaluation. If it has a value, it has the same
-- value with more left, and takes the same number of calls.
abbrev pub MoreLeftKeepsValue : Type 0
MoreLeftKeepsValue =
    (theory : RewriteTheory) (n m c d k : ℕ) (theta : List (Option Tree)) (p : Pattern) (t : Tree)
    → n ≤ m →
    Evaluates theory n theta p c (value t d) → Evaluates theory m theta p (c + k) (value t (d + k))

-- No evaluation leaves more calls than there were.
abbrev pub CallsFall : Type 0
CallsFall =
    (theory : RewriteTheory) (n c d : ℕ) (theta : List (Option Tree)) (p : Pattern) (t : Tree) →
    Evaluates theory n theta p c (value t d) → d ≤ c

-- A value has a record, if the calls and the nesting left are at most those with which records are
-- judged.
abbrev pub ValueHasRecord : Type 0
ValueHasRecord =
    (theory : RewriteTheory) (n c d : ℕ) (theta : List (Option Tree)) (p : Pattern) (t : Tree)
    → n ≤ most_nesting →
    c ≤ most_calls → Evaluates theory n theta p c (value t d) →
    (r : Record) × Records theory theta p r × (result_of r ≡ t)

-- A record describes an evaluation: with enough left, its result is the value.
abbrev pub RecordTells : Type 0
RecordTells =
    (theory : RewriteTheory) (theta : List (Option Tree)) (p : Pattern) (r : Record)
    → Records theory theta p r →
    (n : ℕ) × (c : ℕ) × (d : ℕ) × Evaluates theory n theta p c (value (result_of r) d)

-- If there is a record, its result is the only value, however much is left.
abbrev pub RecordDetermines : Type 0
RecordDetermines =
    (theory : RewriteTheory) (n c d : ℕ) (theta : List (Option Tree)) (p : Pattern) (r : Record)
    (t : Tree) →
    IsWellSorted theory → Records theory theta p r → Evaluates theory n theta p c (value t d) →
    t ≡ result_of r

-- So two records of one pattern have the same result.
abbrev pub RecordsAgree : Type 0
RecordsAgree =
    (theory : RewriteTheory) (theta : List (Option Tree)) (p : Pattern) (r s : Record)
    → IsWellSorted theory →
    Records theory theta p r → Records theory theta p s → result_of r ≡ result_of s
