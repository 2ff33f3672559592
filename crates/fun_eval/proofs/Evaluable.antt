-- What may be evaluated, part by part.
use Rattle.std.proofs.Common.{◌≡◌, ℕ, suc, zero, ◌<◌, inl, inr, List, [], ◌∷◌, length, get_or}
use Rattle.std.proofs.Common.{Option, refl, sym, subst, arith}
use Rattle.term_core.specs.Terms.{Tree}
use Rattle.term_core.specs.Patterns.{Pattern, Patterns, variable, application, injection, call}
use Rattle.term_core.specs.RulePatterns.{plain_pattern}
use Rattle.term_core.specs.PatternLists.{plain_patterns}
use Rattle.term_core.specs.declared.rule_patterns.RulePat.{RulePat}
use Rattle.rule_core.specs.Theories.{RewriteTheory}
use Rattle.rule_core.specs.Sorting.{HaveSorts, HasInjection}
use Rattle.rule_core.specs.declared.signature.SortRef.{SortRef}
use Rattle.fun_eval.specs.Evaluable.{IsEvaluable}
use Rattle.fun_eval.specs.Giving.{AreEvaluable, ServesAll, IsBound}

pub bound_of-variable : (theory : RewriteTheory) (theta : List (Option Tree)) (x : ℕ)
    → IsEvaluable theory theta (variable x) → IsBound theta x
bound_of-variable theory theta x h = h.3.bound x refl

pub arguments_of-application : (theory : RewriteTheory) (theta : List (Option Tree)) (f : ℕ)
    (ps : Patterns) → IsEvaluable theory theta (application f ps) → AreEvaluable theory theta ps
arguments_of-application theory theta f ps h = (
  h.0,
  [],
  h.2.0.args.items,
  h.2.4,
  record { bound = h.3.bound; sorted = h.3.sorted; low = h.3.low },
)

pub arguments_of-call : (theory : RewriteTheory) (theta : List (Option Tree)) (f : ℕ)
    (sorts : List ℕ) (ps : Patterns) → IsEvaluable theory theta (call f sorts ps)
    → AreEvaluable theory theta ps
arguments_of-call theory theta f sorts ps h = (
  h.0,
  sorts,
  h.2.0.args.items,
  h.2.6,
  record { bound = h.3.bound; sorted = h.3.sorted; low = h.3.low },
)

pub injection_there : (theory : RewriteTheory) (theta : List (Option Tree)) (a b : ℕ) (p : Pattern)
    → IsEvaluable theory theta (injection a b p) → HasInjection theory.sig
injection_there theory theta a b p h = h.2.0

pub below_injection : (theory : RewriteTheory) (theta : List (Option Tree)) (a b : ℕ) (p : Pattern)
    → IsEvaluable theory theta (injection a b p) → IsEvaluable theory theta p
below_injection theory theta a b p h =
    (h.0, a, h.2.3, record { bound = h.3.bound; sorted = h.3.sorted; low = h.3.low })

-- each of several patterns may be evaluated
item_sorted : (theory : RewriteTheory) (variables : List ℕ) (theta : List (Option Tree))
    (sorts : List ℕ) (refs : List SortRef) (pats : List RulePat) (i : ℕ) (p : RulePat)
    → p ≡ get_or pats i p → i < length pats
    → HaveSorts theory.sig variables sorts (plain_patterns pats) refs
    → ServesAll theory.sig variables theta (plain_patterns pats)
    → IsEvaluable theory theta (plain_pattern p)
item_sorted theory variables theta sorts refs [] i p e lt h serves = absurd (omega arith)
item_sorted theory variables theta sorts [] (q ∷ pats) i p e lt h serves = absurd h
item_sorted theory variables theta sorts (of ∷ refs) (q ∷ pats) zero p e lt h serves =
    let P : RulePat → Type 0 = λ r. IsEvaluable theory theta (plain_pattern r) in
    subst P (sym e) (
      variables,
      h.0,
      h.2,
      record {
        bound = λ x stands. serves.bound x (inl stands);
        sorted = serves.sorted;
        low = serves.low;
      },
    )
item_sorted theory variables theta sorts (of ∷ refs) (q ∷ pats) (suc i) p e lt h serves =
    item_sorted theory variables theta sorts refs pats i p e (omega arith) h.3 (record {
      bound =
          λ x stands. serves.bound x (inr stands);
      sorted = serves.sorted;
      low = serves.low;
    })

pub item_evaluable : (theory : RewriteTheory) (theta : List (Option Tree)) (pats : List RulePat)
    (i : ℕ) (p : RulePat) → p ≡ get_or pats i p → i < length pats
    → AreEvaluable theory theta (plain_patterns pats) → IsEvaluable theory theta (plain_pattern p)
item_evaluable theory theta pats i p e lt h =
    item_sorted theory h.0 theta h.1 h.2 pats i p e lt h.3 h.4
