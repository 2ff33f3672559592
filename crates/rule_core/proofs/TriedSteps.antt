-- The cases of steps by rules with conditions, and of injections.
use Rattle.std.proofs.Common.{◌≡◌, ℕ, suc, zero, ◌<◌, ◌⊎◌, inl, ⊎_elim, ℤ, pos, List, [], ◌∷◌}
use Rattle.std.proofs.Common.{slice_get, true, false, Option, Some, None, refl, sym, subst, arith}
use Rattle.std.specs.Prelude.{IsSome, Ok, ◌^◌}
use Rattle.std.proofs.lemmas.Bool.{false≢true}
use Rattle.term_core.specs.Terms.{DomainValue, integer, truth, Tree, leaf, node, inj, Forest}
use Rattle.term_core.specs.Terms.{no_tree, more_trees, IsNormal}
use Rattle.term_core.specs.Patterns.{Pattern, Patterns, variable, application, injection}
use Rattle.term_core.specs.Patterns.{no_pattern, more_patterns, binding, instances_of}
use Rattle.term_core.specs.HookValues.{hook_value}
use Rattle.term_core.specs.declared.values.NoValue.TheVariants.{ZeroDivisor}
use Rattle.rule_core.specs.Theories.{RewriteTheory}
use Rattle.rule_core.specs.Matching.{MatchNamed, OccursInSome}
use Rattle.rule_core.specs.Sorting.{HasInjection, IsTermOf, IsValueOf}
use Rattle.rule_core.specs.Evaluation.{value, says_true, says_other, says_nothing, IsTrueValue}
use Rattle.rule_core.specs.Evaluation.{of_constructor, of_injection, of_call, Evaluates, bound}
use Rattle.rule_core.specs.Evaluation.{itself, argument_blocked, made, function_called, none_left}
use Rattle.rule_core.specs.Evaluation.{first_blocked, one_more, without_call}
use Rattle.rule_core.specs.FirstRule.{no_rule_condition, rule_condition, no_rule_left}
use Rattle.rule_core.specs.FirstRule.{rule_condition_fails, rule_condition_blocked, condition_holds}
use Rattle.rule_core.specs.Runs.{by_rule, by_none, in_condition}
use Rattle.rule_core.specs.EvaluationCases.{Declares, DeclaresIntegers, DeclaresInjections}
use Rattle.rule_core.specs.EvaluationCases.{TriedConditions, TriedInjections, IsOfIntegers}
use Rattle.rule_core.specs.EvaluationCases.{tree_number, one, one_tree, hook, greater, on}
use Rattle.rule_core.specs.declared.signature.Signature.{Signature}
use Rattle.rule_core.proofs.HookRanges.{short_range}
use Rattle.rule_core.proofs.NamedMatches.{match_unnamed}
use Rattle.rule_core.proofs.TriedIntegers.{hook_gives, hook_has_none, hooked_not_closed}

-- a pattern with one variable matches, by the term of the variable
pub match_one : (sig : Signature) (sort : ℕ) (ps : Patterns) (ts : Forest) (u : Tree)
    → ((x : ℕ) → OccursInSome x ps → x ≡ 0) → OccursInSome 0 ps → IsNormal u → IsTermOf sig u sort
    → instances_of (Some u ∷ []) ps ≡ Some ts
    → MatchNamed sig (sort ∷ []) ps [] ts (Some u ∷ [])
match_one sig sort ps ts u only there normal of e =
    match_unnamed sig (sort ∷ []) ps ts (Some u ∷ []) (record {
      binds = record {
        room = refl;
        just = λ x. (given x, λ s. bound_there x (only x s));
        sorted = sorted_there;
      };
      makes = e;
    }) where
      given : (x : ℕ) → IsSome (binding (Some u ∷ []) x) → OccursInSome x ps
      given zero s = there
      given (suc x) s = let wrong : false ≡ true = s in absurd (false≢true wrong)

      bound_there : (x : ℕ) → x ≡ 0 → IsSome (binding (Some u ∷ []) x)
      bound_there zero same = refl
      bound_there (suc x) same = absurd (omega (arith, same))

      sorted_there : (x : ℕ) (t : Tree) → binding (Some u ∷ []) x ≡ Some t
          → IsNormal t × ((s : ℕ) × (slice_get (sort ∷ []) x ≡ Some s) × IsTermOf sig t s)
      sorted_there zero t b =
          let k : Some u ≡ Some t = b in
          let same : u ≡ t = cc in rw (sym same) (normal, (sort, refl, of))
      sorted_there (suc x) t b = let k : None ≡ Some t = b in let no : ⊥ = cc in absurd no

pub number_of_sort : (sig : Signature) (s : ℕ) (k : ℕ) → IsOfIntegers sig s → k < 2 ^ 127
    → IsTermOf sig (leaf s (integer (pos k))) s
number_of_sort sig s k is low = (
  refl,
  (
    is.0,
    is.1,
    is.2,
    subst (λ j. IsValueOf j (integer (pos k))) (sym is.3) (short_range (pos k) low),
  ),
)

only_first : (x : ℕ) → ((x ≡ 0) ⊎ ⊥) ⊎ ⊥ → x ≡ 0
only_first x s =
    ⊎_elim (λ (a : (x ≡ 0) ⊎ ⊥). ⊎_elim (λ (e : x ≡ 0). e) (λ (no : ⊥). absurd no) a)
    (λ (no : ⊥). absurd no) s

-- the constructor on the variable matches the constructor on a number
on_matches : (sig : Signature) (k : ℕ) → IsOfIntegers sig 0 → k < 2 ^ 127
    → MatchNamed sig (0 ∷ []) (more_patterns (application 8 (one (variable 0))) no_pattern) []
    (more_trees (on 8 (pos k)) no_tree) (Some (tree_number (pos k)) ∷ [])
on_matches sig k is low =
    match_one sig 0 (one (application 8 (one (variable 0)))) (one_tree (on 8 (pos k)))
    (tree_number (pos k)) only_first (inl (inl refl)) tt (number_of_sort sig 0 k is low) refl

-- whether a number is greater than another one
compared : {theory : RewriteTheory} {n c d e : ℕ} {theta : List (Option Tree)} {p q : Pattern}
    (x y : ℤ) (v : DomainValue) → Declares theory.sig 5 (hook 11) (0 ∷ (0 ∷ [])) 1
    → Evaluates theory n theta p c (value (tree_number x) d)
    → Evaluates theory n theta q d (value (tree_number y) (suc e))
    → hook_value 11 (integer x ∷ (integer y ∷ [])) ≡ Some (Ok v)
    → Evaluates theory (suc n) theta (greater p q) c (value (leaf 1 v) e)
compared x y v d a b answer = function_called (one_more a (one_more b none_left))
    (hook_gives x y v d answer)

not_true : (s : ℕ) → IsTrueValue (leaf s (truth false)) → ⊥
not_true s h = let k : leaf s (truth false) ≡ leaf h.0 (truth true) = h.1 in cc

pub tried_conditions : (sig : Signature) → DeclaresIntegers sig → TriedConditions sig
tried_conditions sig d = record {
  first_holds =
      by_rule (condition_holds (on_matches sig 11 d.sort (omega arith)) (rule_condition
      (compared (pos 11) (pos 10) (truth true) d.gt (bound refl) itself refl)
      (says_true (1, refl))))
      (made of_constructor (one_more (bound refl) none_left) refl (omega arith));
  second_holds =
      by_rule (rule_condition_fails (on_matches sig 3 d.sort (omega arith)) (rule_condition
      (compared (pos 3) (pos 10) (truth false) d.gt (bound refl) itself refl)
      (says_other (not_true 1)))
      (condition_holds (on_matches sig 3 d.sort (omega arith)) (rule_condition
      (compared (pos 10) (pos 3) (truth true) d.gt itself (bound refl) refl)
      (says_true (1, refl)))))
      (made of_constructor (one_more (bound refl) none_left) refl (omega arith));
  none_holds =
      by_none (rule_condition_fails (on_matches sig 10 d.sort (omega arith)) (rule_condition
      (compared (pos 10) (pos 10) (truth false) d.gt (bound refl) itself refl)
      (says_other (not_true 1)))
      (rule_condition_fails (on_matches sig 10 d.sort (omega arith)) (rule_condition
      (compared (pos 10) (pos 10) (truth false) d.gt itself (bound refl) refl)
      (says_other (not_true 1))) no_rule_left));
  too_few_calls =
      in_condition (rule_condition_fails (on_matches sig 3 d.sort (omega arith))
      (rule_condition (compared (pos 3) (pos 10) (truth false) d.gt (bound refl) itself refl)
      (says_other (not_true 1)))
      (rule_condition_blocked (on_matches sig 3 d.sort (omega arith)) (rule_condition
      (function_called (one_more itself (one_more (bound refl) none_left))
      (without_call d.gt.there (λ is. hooked_not_closed d.gt.info.kind 11 d.gt.of_kind is)))
      says_nothing)));
  first_divides =
      by_rule (rule_condition_fails (on_matches sig 3 d.sort (omega arith)) (rule_condition
      (compared (pos 0) (pos 0) (truth false) d.gt (function_called
      (one_more itself (one_more (bound refl) none_left))
      (hook_gives (pos 1) (pos 3) (integer (pos 0)) d.tdiv refl)) itself refl)
      (says_other (not_true 1)))
      (condition_holds (on_matches sig 3 d.sort (omega arith)) (rule_condition
      (compared (pos 10) (pos 3) (truth true) d.gt itself (bound refl) refl)
      (says_true (1, refl)))))
      (made of_constructor (one_more (bound refl) none_left) refl (omega arith));
  first_blocked =
      in_condition (rule_condition_blocked (on_matches sig 0 d.sort (omega arith)) (rule_condition
      (argument_blocked of_call (first_blocked (function_called
      (one_more itself (one_more (bound refl) none_left))
      (hook_has_none (pos 1) (pos 0) ZeroDivisor d.tdiv refl)))) says_nothing));
}

pub tried_injections : (sig : Signature) → DeclaresInjections sig → TriedInjections sig
tried_injections sig d =
    let has : HasInjection sig = (0, d.symbol.info, d.symbol.there, d.symbol.injects) in
    record {
      joined =
          made (of_injection d.symbol) (one_more
          (made (of_injection d.symbol) (one_more itself none_left) refl (omega arith))
          none_left) refl (omega arith);
      moved =
          by_rule (condition_holds
          (match_one sig 1 (one (application 1 (one (injection 1 3 (variable 0)))))
          (one_tree (node 1 (one_tree (inj 0 3 (tree_number (pos 5))))))
          (inj 0 1 (tree_number (pos 5))) only_first (inl (inl refl)) (tt, tt)
          (has, refl, d.below, number_of_sort sig 0 5 d.integers (omega arith)) refl)
          no_rule_condition)
          (made of_constructor (one_more (made (of_injection d.symbol)
          (one_more (bound refl) none_left) refl (omega arith)) none_left) refl
          (omega arith));
    }
