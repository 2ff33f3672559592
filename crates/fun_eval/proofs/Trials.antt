-- How equations are tried, one by one.
use Rattle.std.proofs.Common.{◌≡◌, ℕ, suc, zero, ◌+◌, ◌-◌, ◌<◌, ◌≤◌, ⊎_elim, inr, List, []}
use Rattle.std.proofs.Common.{◌∷◌, length, drop, Option, Some, sym, ◌∙◌, ap, subst, arith}
use Rattle.std.specs.Prelude.{slice_get}
use Rattle.std.proofs.lemmas.List.{drop_all}
use Rattle.std.proofs.Math.Nat.{eq-or-lt_of_le}
use Rattle.term_core.specs.Terms.{Tree, Forest}
use Rattle.term_core.specs.Patterns.{Pattern}
use Rattle.rule_core.specs.Rules.{Equation}
use Rattle.rule_core.specs.Theories.{RewriteTheory, equations_of}
use Rattle.rule_core.specs.Evaluation.{MatchesBy, Cause, Evaluated, value, blocked}
use Rattle.rule_core.specs.Evaluation.{ConditionOutcome, holds}
use Rattle.rule_core.specs.Evaluation.{fails, untested, says_nothing, Equates, no_equation_left}
use Rattle.rule_core.specs.Evaluation.{condition_fails, condition_blocked, used, Tests}
use Rattle.rule_core.specs.Evaluation.{no_condition, condition, EvaluatesIn, inside, no_equation}
use Rattle.rule_core.specs.FirstRule.{most_nesting}
use Rattle.rule_core.specs.Records.{Record, IsUnused, most_calls}
use Rattle.rule_core.proofs.MoreLeft.{tests_more}
use Rattle.rule_core.proofs.RecordsKept.{LeavesAtMost, says_at_most, calls_fall}
use Rattle.fun_eval.specs.Equations.{IsChosen, TrialSays}
use Rattle.fun_eval.specs.declared.equations.Trial.TheVariants.{Failed}

-- ---- one equation

-- a test that fails with fewer calls and less nesting also fails with the calls and the nesting of
-- records
failed_before : {theory : RewriteTheory} {f : ℕ} (theta : List (Option Tree)) (p : Option Pattern)
    (n c d m k : ℕ) → Tests theory n f theta p c (fails d) → n ≤ m → c ≤ k
    → (left : ℕ) × Tests theory m f theta p k (fails left)
failed_before {theory} {f} theta p n c d m k test le few =
    let whole : c + (k - c) ≡ k = omega arith in (
      d
          + (k - c),
      subst (λ j. Tests theory m f theta p j (fails (d + (k - c)))) whole
          (tests_more theory (k - c) test tt m le),
    )

unused_before : {theory : RewriteTheory} {f : ℕ} {ts : Forest} (e : Equation)
    (theta : List (Option Tree)) (n c d : ℕ)
    → MatchesBy theory e ts theta
    → Tests theory n f theta e.condition c (fails d) → n ≤ most_nesting → c ≤ most_calls
    → IsUnused theory f e ts
unused_before e theta n c d match test le few =
    let failed = failed_before theta e.condition n c d most_nesting most_calls test le few in
    inr (theta, failed.0, match, failed.1)

pub is_unused : {R : Type 0} (tells : R → Record → Type 0) (theory : RewriteTheory) (n f : ℕ)
    (e : Equation) (ts : Forest) (c left : ℕ) (theta : List (Option Tree)) (kept : R)
    → n ≤ most_nesting → c ≤ most_calls
    → TrialSays tells theory n f e ts c (Failed theta kept) left → IsUnused theory f e ts
is_unused tells theory n f e ts c left theta kept le few says =
    unused_before e theta n c left says.0 says.1 le few

within_falls : {theory : RewriteTheory} {n f c d : ℕ} {theta : List (Option Tree)} {p : Pattern}
    {t : Tree} → EvaluatesIn theory n f theta p c (value t d) → d ≤ c
within_falls (inside e) = calls_fall e

tests_fall : {theory : RewriteTheory} {n f c : ℕ} {theta : List (Option Tree)} {p : Option Pattern}
    {r : ConditionOutcome} → Tests theory n f theta p c r → LeavesAtMost c r
tests_fall no_condition = omega arith
tests_fall (condition {e = value t d} e says) = says_at_most says (within_falls e)
tests_fall (condition {e = blocked cause} e says_nothing) = tt

-- after a trial, at most as many calls are left as before
pub trial_falls : {R : Type 0} (tells : R → Record → Type 0) (theory : RewriteTheory) (n f : ℕ)
    (e : Equation) (ts : Forest) (c left : ℕ) (theta : List (Option Tree)) (kept : R)
    → TrialSays tells theory n f e ts c (Failed theta kept) left → left ≤ c
trial_falls tells theory n f e ts c left theta kept says = tests_fall says.1

-- ---- the equations from i on

abbrev pub TriedUpTo : RewriteTheory → ℕ → ℕ → Forest → ℕ → List Equation → ℕ → ℕ → Type 0
TriedUpTo theory n f ts c es i left =
    (r : Evaluated) → Equates theory n f (drop i es) ts left r → Equates theory n f es ts c r

abbrev pub UnusedUpTo : RewriteTheory → ℕ → Forest → List Equation → ℕ → Type 0
UnusedUpTo theory f ts es i =
    (j : ℕ) (other : Equation) → j < i → slice_get es j ≡ Some other → IsUnused theory f other ts

pub tried-none : (theory : RewriteTheory) (n f : ℕ) (ts : Forest) (c : ℕ) (es : List Equation)
    → TriedUpTo theory n f ts c es 0 c
tried-none theory n f ts c es = λ r e. e

pub unused-none : (theory : RewriteTheory) (f : ℕ) (ts : Forest) (es : List Equation)
    → UnusedUpTo theory f ts es 0
unused-none theory f ts es = λ j other lt e. absurd (omega arith)

pub from_here : (es : List Equation) (i : ℕ) (e : Equation) → slice_get es i ≡ Some e
    → drop i es ≡ e ∷ drop (i + 1) es
from_here [] i e there = let no : ⊥ = cc in absurd no
from_here (x ∷ es) zero e there = let same : x ≡ e = cc in ap (λ y. y ∷ es) same
from_here (x ∷ es) (suc i) e there =
    let next : suc i + 1 ≡ suc (i + 1) = omega arith in rw next (from_here es i e there)

pub tried-more : {R : Type 0} (tells : R → Record → Type 0) (theory : RewriteTheory) (n f : ℕ)
    (ts : Forest) (c : ℕ) (es : List Equation) (i left rest : ℕ) (e : Equation)
    (theta : List (Option Tree)) (kept : R)
    → TriedUpTo theory n f ts c es i left → slice_get es i ≡ Some e
    → TrialSays tells theory n f e ts left (Failed theta kept) rest
    → TriedUpTo theory n f ts c es (i + 1) rest
tried-more tells theory n f ts c es i left rest e theta kept tried there says = λ r others.
    tried r (subst (λ xs. Equates theory n f xs ts left r) (sym (from_here es i e there))
    (condition_fails says.0 says.1 others))

pub unused-more : (theory : RewriteTheory) (f : ℕ) (ts : Forest) (es : List Equation) (i : ℕ)
    (e : Equation) → UnusedUpTo theory f ts es i → slice_get es i ≡ Some e
    → IsUnused theory f e ts → UnusedUpTo theory f ts es (i + 1)
unused-more theory f ts es i e before there unused = λ j other lt at.
    ⊎_elim
    (λ (same : j ≡ i).
    let k : Some e ≡ Some other = sym there ∙ ap (slice_get es) (sym same) ∙ at in
    let is : e ≡ other = cc in subst (λ x. IsUnused theory f x ts) is unused)
    (λ (earlier : j < i). before j other earlier at)
    (eq-or-lt_of_le (omega arith))

abbrev pub chosen : (theory : RewriteTheory) (n f : ℕ) (ts : Forest) (c : ℕ) (i left rest : ℕ)
    (e : Equation) (theta : List (Option Tree))
    → TriedUpTo theory n f ts c (equations_of theory f) i left
    → UnusedUpTo theory f ts (equations_of theory f) i
    → slice_get (equations_of theory f) i ≡ Some e
    → MatchesBy theory e ts theta
    → Tests theory n f theta e.condition left (holds rest) → IsChosen theory n f ts c i theta rest
chosen theory n f ts c i left rest e theta tried before there match test = record {
  equation = e;
  there = there;
  matches = match;
  earlier = before;
  gives =
      λ r right. tried r (subst (λ xs. Equates theory n f xs ts left r)
      (sym (from_here (equations_of theory f) i e there)) (used match test right));
}

pub stopped_at : (theory : RewriteTheory) (n f : ℕ) (ts : Forest) (c : ℕ) (es : List Equation)
    (i left : ℕ) (e : Equation) (cause : Cause) (theta : List (Option Tree))
    → TriedUpTo theory n f ts c es i left → slice_get es i ≡ Some e
    → MatchesBy theory e ts theta
    → Tests theory n f theta e.condition left (untested cause)
    → Equates theory n f es ts c (blocked cause)
stopped_at theory n f ts c es i left e cause theta tried there match test =
    tried (blocked cause) (subst (λ xs. Equates theory n f xs ts left (blocked cause))
    (sym (from_here es i e there)) (condition_blocked match test))

pub tried-all : (theory : RewriteTheory) (n f : ℕ) (ts : Forest) (c : ℕ) (es : List Equation)
    (i left : ℕ) → TriedUpTo theory n f ts c es i left → length es ≤ i
    → Equates theory n f es ts c (blocked (no_equation f))
tried-all theory n f ts c es i left tried le =
    tried (blocked (no_equation f)) (subst
    (λ xs. Equates theory n f xs ts left (blocked (no_equation f))) (sym (drop_all i es le))
    no_equation_left)
