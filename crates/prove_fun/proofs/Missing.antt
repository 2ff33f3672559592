-- Equations that are missed: what is known of their conditions stays known, and grows by one.
use Rattle.std.proofs.Common.{◌≡◌, ◌<◌, ◌≤◌, ◌+◌, ℕ, zero, suc, List, [], ◌∷◌, ◌++◌, Option, Some}
use Rattle.std.proofs.Common.{None, length, option_map, slice_get, take, refl, sym, ◌∙◌, ap, subst}
use Rattle.std.proofs.Common.{arith}
use Rattle.std.proofs.Common.{⊎_elim}
use Rattle.std.proofs.Math.Seq.{take-length}
use Rattle.std.proofs.lemmas.Bool.{cases_lt}
use Rattle.std.proofs.lemmas.List.{length-append, length-take-le}
use Rattle.ml_kernel.specs.Theorems.{Theorem}
use Rattle.term_core.specs.Terms.{Tree, Forest}
use Rattle.term_core.specs.Patterns.{Pattern as RulePattern}
use Rattle.term_core.specs.RulePatterns.{plain_pattern}
use Rattle.term_core.specs.declared.rule_patterns.RulePat.{RulePat}
use Rattle.rule_core.specs.BoundVariables.{IsEquationAt}
use Rattle.rule_core.specs.Rules.{Equation as PlainEquation}
use Rattle.rule_core.specs.Theories.{equations_of}
use Rattle.rule_core.specs.ProgramView.{function_equation, theory_of}
use Rattle.rule_core.specs.Records.{Miss, no_match, condition_false}
use Rattle.rule_core.specs.RecordView.{plain_record}
use Rattle.rule_core.specs.declared.records.EvalRecord.{EvalRecord}
use Rattle.rule_core.specs.declared.records.Miss.{Miss as CodeMiss, CondFalse}
use Rattle.rule_core.specs.declared.rules.Equation.{Equation}
use Rattle.rule_core.specs.declared.rules.Program.{Program}
use Rattle.prove_term.specs.Contexts.{Context, HasGrown}
use Rattle.prove_term.proofs.ContextLaws.{stays_grown}
use Rattle.prove_equation.proofs.FillingLaws.{value_grown}
use Rattle.prove_fun.specs.Missing.{IsFalseAt, IsMissedAt, IsValued, AreValued}
use Rattle.prove_fun.specs.Using.{missed_record}
use Rattle.prove_fun.proofs.Items.{item_taken}
use Rattle.prove_fun.proofs.PlainRecords.{plain-CondFalse}
use Rattle.prove_fun.proofs.Uses.{same_equation}

-- ---- growing contexts

pub valued_grown : (a b : Context) (e : PlainEquation) (m : Miss) (o : Option Theorem) → HasGrown a b
    → IsValued a e m o → IsValued b e m o
valued_grown a b e no_match o g h = tt
valued_grown a b e (condition_false sigma r) None g h = absurd h
valued_grown a b e (condition_false sigma r) (Some t) g (p, is, says, stays) =
    (p, is, value_grown a b sigma p _ t.conclusion g says, stays_grown a b t g stays)

pub values_grown : (a b : Context) (f : ℕ) (ms : List Miss) (os : List (Option Theorem))
    → HasGrown a b → AreValued a f ms os → AreValued b f ms os
values_grown a b f ms os g h = record {
  as_many = h.as_many;
  each = λ j e m o there at of.
      valued_grown a b e m o g (h.each j e m o
      (subst (λ (p : Program). slice_get (equations_of (theory_of p) f) j ≡ Some e) g.program there)
      at of);
}

-- ---- one more

pub none_valued : (cx : Context) (f : ℕ) (ms : List Miss) → AreValued cx f (take zero ms) []
none_valued cx f ms = record {
  as_many = sym (ap length (take_none ms));
  each = λ j e m o there at of. absurd (let no : ⊥ = cc in no);
}
  where
    take_none : (xs : List Miss) → take zero xs ≡ []
    take_none [] = refl
    take_none (x ∷ xs) = refl

item_before : (n : ℕ) (ms : List Miss) (j : ℕ) (m : Miss) → slice_get ms j ≡ Some m → j < n
    → slice_get (take n ms) j ≡ Some m
item_before zero ms j m there low = absurd (omega (arith, low))
item_before (suc n) [] j m there low = absurd (let no : ⊥ = cc in no)
item_before (suc n) (x ∷ ms) zero m there low = there
item_before (suc n) (x ∷ ms) (suc j) m there low = item_before n ms j m there (omega (arith, low))

early_item : (os : List (Option Theorem)) (x : Option Theorem) (j : ℕ) (o : Option Theorem)
    → slice_get (os ++ x ∷ []) j ≡ Some o → j < length os → slice_get os j ≡ Some o
early_item [] x j o there low = absurd (omega (arith, low))
early_item (y ∷ os) x zero o there low = there
early_item (y ∷ os) x (suc j) o there low = early_item os x j o there (omega (arith, low))

last_item : (os : List (Option Theorem)) (x : Option Theorem) (j : ℕ) (o : Option Theorem)
    → slice_get (os ++ x ∷ []) j ≡ Some o → length os ≤ j → x ≡ o
last_item [] x zero o there high = first x o there
  where
    first : (x o : Option Theorem) → Some x ≡ Some o → x ≡ o
    first x o e = cc
last_item [] x (suc j) o there high = absurd (let no : ⊥ = cc in no)
last_item (y ∷ os) x zero o there high = absurd (omega (arith, high))
last_item (y ∷ os) x (suc j) o there high = last_item os x j o there (omega (arith, high))

pub value_added : (cx : Context) (f i : ℕ) (ms : List Miss) (os : List (Option Theorem))
    (x : Option Theorem) → i < length ms → AreValued cx f (take i ms) os
    → ((e : PlainEquation) (m : Miss) → slice_get (equations_of (theory_of cx.program) f) i ≡ Some e
    → slice_get ms i ≡ Some m → IsValued cx e m x)
    → AreValued cx f (take (i + 1) ms) (os ++ x ∷ [])
value_added cx f i ms os x low h one =
    let many : length os ≡ i = h.as_many ∙ length-take-le i ms (omega (arith, low)) in
    record {
      as_many =
          omega (arith, length-append os (x ∷ []), many, length-take-le (i + 1) ms (omega (arith, low)));
      each = λ j e m o there at of.
          let own = item_taken (i + 1) ms j m at in
          ⊎_elim (λ (before : j < i). h.each j e m o there (item_before i ms j m own.0 before)
          (early_item os x j o of (omega (arith, before, many))))
          (λ (last : i ≤ j). let is : j ≡ i = omega (arith, last, own.1) in
          subst (IsValued cx e m) (last_item os x j o of (omega (arith, last, many)))
          (one e m
          (subst (λ (k : ℕ). slice_get (equations_of (theory_of cx.program) f) k ≡ Some e) is there)
          (subst (λ (k : ℕ). slice_get ms k ≡ Some m) is own.0)))
          (cases_lt j i);
    }

pub all_valued : (cx : Context) (f i : ℕ) (ms : List Miss) (os : List (Option Theorem))
    → i ≡ length ms → AreValued cx f (take i ms) os → AreValued cx f ms os
all_valued cx f i ms os is h =
    subst (λ (xs : List Miss). AreValued cx f xs os)
    (ap (λ (n : ℕ). take n ms) is ∙ take-length ms) h

-- ---- an equation of the code

-- what an entry with a condition says of the equation of the code
pub missed_condition : (program : Program) (f i : ℕ) (q : Equation) (e : PlainEquation)
    (ts : Forest) (sigma : List (Option Tree)) (r : EvalRecord) (m : CodeMiss)
    → IsEquationAt program f i q → slice_get (equations_of (theory_of program) f) i ≡ Some e
    → m ≡ CondFalse sigma r → IsMissedAt program e ts (missed_record m)
    → IsFalseAt program (function_equation q) ts sigma (plain_record r)
missed_condition program f i q e ts sigma r m at there is missed =
    subst (λ (x : PlainEquation). IsFalseAt program x ts sigma (plain_record r))
    (sym (same_equation program f i q e at there))
    (subst (IsMissedAt program e ts) (ap missed_record is ∙ plain-CondFalse sigma r) missed)

pub no_condition : (o : Option RulePat) (p : RulePattern) → o ≡ None
    → option_map plain_pattern o ≡ Some p → ⊥
no_condition o p none some =
    let e : option_map plain_pattern None ≡ Some p =
    ap (option_map plain_pattern) (sym none) ∙ some in
    let no : ⊥ = cc in no

pub same_pattern : (o : Option RulePat) (pat : RulePat) (p : RulePattern) → o ≡ Some pat
    → option_map plain_pattern o ≡ Some p → p ≡ plain_pattern pat
same_pattern o pat p there some =
    first p (plain_pattern pat) (sym some ∙ ap (option_map plain_pattern) there)
  where
    first : (p q : RulePattern) → Some p ≡ Some q → p ≡ q
    first p q e = cc
