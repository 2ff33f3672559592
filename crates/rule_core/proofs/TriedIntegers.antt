-- The cases of evaluation on whole numbers.
use Rattle.std.proofs.Common.{◌≡◌, ℕ, suc, ℤ, pos, negsuc, List, [], ◌∷◌, Option, Some, refl, sym}
use Rattle.std.proofs.Common.{◌∙◌, ap, arith}
use Rattle.std.specs.Prelude.{Ok, Err}
use Rattle.term_core.specs.Terms.{DomainValue, integer, Tree, leaf, more_trees}
use Rattle.term_core.specs.HookValues.{hook_value}
use Rattle.term_core.specs.declared.values.NoValue.{NoValue}
use Rattle.term_core.specs.declared.values.NoValue.TheVariants.{ZeroDivisor, Range}
use Rattle.rule_core.specs.Theories.{RewriteTheory}
use Rattle.rule_core.specs.Sorting.{sort_at}
use Rattle.rule_core.specs.Evaluation.{value, blocked, no_value, values, of_constructor, of_call}
use Rattle.rule_core.specs.Evaluation.{Evaluates, itself, argument_blocked, made, function_called}
use Rattle.rule_core.specs.Evaluation.{EvaluateAll, none_left, first_blocked, one_more, HasOutcome}
use Rattle.rule_core.specs.Evaluation.{by_nothing, without_call, by_hook, hook_fails}
use Rattle.rule_core.specs.EvaluationCases.{Declares, DeclaresIntegers, TriedIntegers, binary, two}
use Rattle.rule_core.specs.EvaluationCases.{number, tree_number, one_tree, n, tree_n, hook}
use Rattle.rule_core.specs.EvaluationCases.{greatest, least}
use Rattle.rule_core.specs.declared.signature.Signature.{Signature}
use Rattle.rule_core.specs.declared.signature.SymKind.{SymKind}
use Rattle.rule_core.specs.declared.signature.SymKind.TheVariants.{Hooked, Closed}

-- the result sort of a declared symbol
pub declared_result : {sig : Signature} {f : ℕ} {is : SymKind} {arguments : List ℕ} {result : ℕ}
    (d : Declares sig f is arguments result) → sort_at [] d.info.result ≡ Some result
declared_result d = ap (sort_at []) d.makes

-- a function with a hook is not closed
pub hooked_not_closed : (k : SymKind) (row : ℕ) → k ≡ hook row → k ≡ Closed → ⊥
hooked_not_closed k row a b = let e : Closed ≡ Hooked (record { 0 = row }) = sym b ∙ a in cc

-- the two arguments, which are numbers
pub two_numbers : {theory : RewriteTheory} {k c : ℕ} {theta : List (Option Tree)} (x y : ℤ)
    → EvaluateAll theory k theta (two (number x) (number y)) c
    (values (more_trees (tree_number x) (one_tree (tree_number y))) c)
two_numbers x y = one_more itself (one_more itself none_left)

pub hook_gives : {theory : RewriteTheory} {k f c row result : ℕ} {arguments : List ℕ} (x y : ℤ)
    (v : DomainValue) → Declares theory.sig f (hook row) arguments result
    → hook_value row (integer x ∷ (integer y ∷ [])) ≡ Some (Ok v)
    → HasOutcome theory k f (more_trees (tree_number x) (one_tree (tree_number y))) (suc c)
    (value (leaf result v) c)
hook_gives x y v d e =
    by_hook d.there (record {
      hooked = d.of_kind;
      arguments = integer x ∷ (integer y ∷ []);
      are = (integer y ∷ [], refl, ([], refl, refl));
      answers = e;
    }) (declared_result d)

pub hook_has_none : {theory : RewriteTheory} {k f c row result : ℕ} {arguments : List ℕ} (x y : ℤ)
    (why : NoValue) → Declares theory.sig f (hook row) arguments result
    → hook_value row (integer x ∷ (integer y ∷ [])) ≡ Some (Err why)
    → HasOutcome theory k f (more_trees (tree_number x) (one_tree (tree_number y))) (suc c)
    (blocked (no_value row why))
hook_has_none x y why d e =
    hook_fails d.there (record {
      hooked = d.of_kind;
      arguments = integer x ∷ (integer y ∷ []);
      are = (integer y ∷ [], refl, ([], refl, refl));
      fails = e;
    })

result_in_n : {theory : RewriteTheory} {k f row : ℕ} (x y z : ℤ) {arguments : List ℕ}
    → Declares theory.sig f (hook row) arguments 0
    → hook_value row (integer x ∷ (integer y ∷ [])) ≡ Some (Ok (integer z))
    → Evaluates theory (suc (suc k)) [] (n (binary f x y)) 1 (value (tree_n z) 0)
result_in_n x y z d e =
    made of_constructor
    (one_more (function_called (two_numbers x y) (hook_gives x y (integer z) d e)) none_left) refl
    (omega arith)

none_in_n : {theory : RewriteTheory} {k f row : ℕ} (x y : ℤ) (why : NoValue) {arguments : List ℕ}
    → Declares theory.sig f (hook row) arguments 0
    → hook_value row (integer x ∷ (integer y ∷ [])) ≡ Some (Err why)
    → Evaluates theory (suc (suc k)) [] (n (binary f x y)) 1 (blocked (no_value row why))
none_in_n x y why d e =
    argument_blocked of_constructor
    (first_blocked (function_called (two_numbers x y) (hook_has_none x y why d e)))

pub tried_integers : (sig : Signature) → DeclaresIntegers sig → TriedIntegers sig
tried_integers sig d = record {
  itself = made of_constructor (one_more itself none_left) refl (omega arith);
  greatest_sum = result_in_n greatest (pos 0) greatest d.add refl;
  past_range = none_in_n greatest (pos 1) Range d.add refl;
  no_call =
      argument_blocked of_constructor (first_blocked (function_called (two_numbers (pos 2) (pos 3))
      (without_call d.add.there (λ is. hooked_not_closed d.add.info.kind 0 d.add.of_kind is))));
  truncated_rest = result_in_n (negsuc 6) (pos 2) (negsuc 0) d.tmod refl;
  euclidean_rest = result_in_n (negsuc 6) (pos 2) (pos 1) d.emod refl;
  truncated_quotient = result_in_n (negsuc 6) (pos 2) (negsuc 2) d.tdiv refl;
  euclidean_quotient = result_in_n (negsuc 6) (pos 2) (negsuc 3) d.ediv refl;
  rest_of_least = result_in_n least (negsuc 0) (pos 0) d.tmod refl;
  least_by_minus_one = none_in_n least (negsuc 0) Range d.tdiv refl;
  by_zero = none_in_n (pos 1) (pos 0) ZeroDivisor d.tdiv refl;
  nothing_gives =
      argument_blocked of_constructor (first_blocked
      (function_called (one_more itself none_left) (by_nothing d.len.there d.len.of_kind)));
  first_cause =
      argument_blocked of_call (first_blocked (function_called (two_numbers (pos 1) (pos 0))
      (hook_has_none (pos 1) (pos 0) ZeroDivisor d.tdiv refl)));
}
