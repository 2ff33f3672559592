-- The condition of a rule that matches a term and is not used: it has a value, which is not `true`.
use Rattle.std.proofs.Common.{◌≡◌, ℕ, List, [], ◌∷◌, Option, Some, None, refl, sym, ◌∙◌, subst}
use Rattle.term_core.specs.Terms.{Tree, no_tree, more_trees}
use Rattle.term_core.specs.Patterns.{Pattern, no_pattern, more_patterns}
use Rattle.rule_core.specs.Evaluation.{Cause, Evaluates, IsTrueValue, blocked, fails, says_other}
use Rattle.rule_core.specs.Evaluation.{value}
use Rattle.rule_core.specs.FirstRule.{Matches, Meets, most_nesting, rule_condition}
use Rattle.rule_core.specs.Records.{Record, Records, result_of}
use Rattle.rule_core.specs.Rules.{RewriteRule}
use Rattle.rule_core.specs.Theories.{RewriteTheory}
use Rattle.rule_core.specs.WellSorted.{IsRuleOf, IsWellSorted}
use Rattle.rule_core.specs.declared.signature.SortRef.TheVariants.{Sort}
use Rattle.rule_core.proofs.Determined.{evaluation_is_unique}
use Rattle.rule_core.proofs.MatchExact.{match_is_unique}
use Rattle.rule_core.proofs.NamedMatches.{match_named_once}
use Rattle.stuck_prove.specs.Trials.{IsPassed, IsUntrue, unmatched, untrue}

-- the condition is evaluated, with c calls left, to another value than `true`; then d are left
pub record IsOther (theory : RewriteTheory) (theta : List (Option Tree)) (p : Option Pattern)
    (c d : ℕ) : Type 0 where
  pub condition : Pattern
  pub is_condition : p ≡ Some condition
  pub other : Tree
  pub evaluates : Evaluates theory most_nesting theta condition c (value other d)
  pub untrue : IsTrueValue other → ⊥

other_value : {theory : RewriteTheory} {theta : List (Option Tree)} {p : Option Pattern} {c d : ℕ}
    → Meets theory theta p c (fails d) → IsOther theory theta p c d
other_value (rule_condition {p = q} evaluates (says_other {t = t} not_true)) = record {
  condition = q;
  is_condition = refl;
  other = t;
  evaluates = evaluates;
  untrue = not_true;
}

-- a rule that matches and is not used has a condition
pub conditional : (theory : RewriteTheory) (rule : RewriteRule) (t : Tree)
    (theta : List (Option Tree)) (c d : ℕ) → Matches theory rule t theta
    → IsPassed theory rule t c d → rule.condition ≡ None → ⊥
conditional theory rule t theta c d m (unmatched never) none = never theta m
conditional theory rule t theta c d m (untrue {theta = sigma} k meets) none =
    let o : IsOther theory sigma rule.condition c d = other_value meets in
    some_none o.condition (sym o.is_condition ∙ none)
  where
    some_none : (q : Pattern) → Some q ≡ None → ⊥
    some_none q e = cc

-- only one substitution matches a rule with a term
pub matched_once : (theory : RewriteTheory) (sort : ℕ) (rule : RewriteRule) (t : Tree)
    (theta sigma : List (Option Tree)) → IsWellSorted theory → IsRuleOf theory.sig sort rule
    → Matches theory rule t theta → Matches theory rule t sigma → theta ≡ sigma
matched_once theory sort rule t theta sigma good is m k =
    match_named_once theory.sig rule.variables (more_patterns rule.left no_pattern) rule.names
    (more_trees t no_tree) theta sigma
    (λ xs ys one two. match_is_unique theory.sig rule.variables []
    (more_patterns rule.left no_pattern) (Sort (record { 0 = sort }) ∷ []) (more_trees t no_tree)
    xs ys good.signature.no_cycle (sort, refl, is.left, tt) one two)
    m k

pub passed_by : (theory : RewriteTheory) (sort : ℕ) (rule : RewriteRule) (t : Tree)
    (theta : List (Option Tree)) (c d : ℕ) → IsWellSorted theory → IsRuleOf theory.sig sort rule
    → Matches theory rule t theta → IsPassed theory rule t c d
    → IsOther theory theta rule.condition c d
passed_by theory sort rule t theta c d good is m (unmatched never) = absurd (never theta m)
passed_by theory sort rule t theta c d good is m (untrue {theta = sigma} k meets) =
    other_value
    (subst (λ (xs : List (Option Tree)). Meets theory xs rule.condition c (fails d))
    (matched_once theory sort rule t sigma theta good is k m) meets)

-- so it is not blocked
pub not_blocked : (theory : RewriteTheory) (theta : List (Option Tree)) (p : Option Pattern)
    (c d : ℕ) (q : Pattern) (cause : Cause) → IsWellSorted theory → IsOther theory theta p c d
    → p ≡ Some q → Evaluates theory most_nesting theta q c (blocked cause) → ⊥
not_blocked theory theta p c d q cause good o is evaluates =
    apart cause o.other d
    (evaluation_is_unique theory most_nesting c theta o.condition (blocked cause)
    (value o.other d) good
    (subst (λ (r : Pattern). Evaluates theory most_nesting theta r c (blocked cause))
    (same q o.condition (sym is ∙ o.is_condition)) evaluates)
    o.evaluates)
  where
    apart : (cause : Cause) (t : Tree) (n : ℕ) → blocked cause ≡ value t n → ⊥
    apart cause t n e = cc

    same : (x y : Pattern) → Some x ≡ Some y → x ≡ y
    same x y e = cc

-- a record of the evaluation has this value, and as many calls are left
pub record_other : (theory : RewriteTheory) (rule : RewriteRule) (theta : List (Option Tree))
    (c d e : ℕ) (q : Pattern) (r : Record) → IsWellSorted theory
    → IsOther theory theta rule.condition c d → rule.condition ≡ Some q
    → Evaluates theory most_nesting theta q c (value (result_of r) e)
    → Records theory theta q r → IsUntrue theory rule theta r × (e ≡ d)
record_other theory rule theta c d e q r good o is evaluates records =
    let here : o.condition ≡ q = same_pattern o.condition q (sym o.is_condition ∙ is) in
    let both : value o.other d ≡ value (result_of r) e =
    evaluation_is_unique theory most_nesting c theta q (value o.other d) (value (result_of r) e)
    good
    (subst (λ (p : Pattern). Evaluates theory most_nesting theta p c (value o.other d)) here
    o.evaluates)
    evaluates in (
      record {
        condition = q;
        is_condition = is;
        records = records;
        untrue = λ yes. o.untrue (subst IsTrueValue (sym (same_tree o.other d (result_of r) e both)) yes);
      },
      same_left o.other d (result_of r) e both,
    )
  where
    same_pattern : (x y : Pattern) → Some x ≡ Some y → x ≡ y
    same_pattern x y e = cc

    same_tree : (t : Tree) (n : ℕ) (u : Tree) (k : ℕ) → value t n ≡ value u k → t ≡ u
    same_tree t n u k e = cc

    same_left : (t : Tree) (n : ℕ) (u : Tree) (k : ℕ) → value t n ≡ value u k → k ≡ n
    same_left t n u k e = cc
