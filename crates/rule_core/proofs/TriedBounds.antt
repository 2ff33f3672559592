-- The cases of evaluation near its bounds.
use Rattle.std.proofs.Common.{◌≡◌, ℕ, suc, [], ◌∷◌, true, false, Some, None, refl, sym, ◌∙◌, arith}
use Rattle.std.proofs.lemmas.Bool.{false≢true}
use Rattle.term_core.specs.Terms.{no_tree}
use Rattle.term_core.specs.Patterns.{Pattern, call, no_pattern, binding}
use Rattle.rule_core.specs.Matching.{MatchNamed}
use Rattle.rule_core.specs.Evaluation.{Evaluated, of_constructor, of_call, Evaluates, bound, itself}
use Rattle.rule_core.specs.Evaluation.{nested_out, made, made_too_high, function_called, none_left}
use Rattle.rule_core.specs.Evaluation.{one_more, without_call, by_equations, no_equation_left, used}
use Rattle.rule_core.specs.Evaluation.{no_condition, EvaluatesIn, no_nesting, inside}
use Rattle.rule_core.specs.EvaluationCases.{Declares, TriedBounds, always, defined_by}
use Rattle.rule_core.specs.declared.signature.Signature.{Signature}
use Rattle.rule_core.specs.declared.signature.SymKind.{SymKind}
use Rattle.rule_core.specs.declared.signature.SymKind.TheVariants.{Equations, Closed}
use Rattle.rule_core.proofs.NamedMatches.{match_unnamed}

not_given : (x : ℕ) → binding [] x ≡ None
not_given x = refl

-- the empty list of patterns matches the empty list of trees
pub match_nothing : (sig : Signature) → MatchNamed sig [] no_pattern [] no_tree []
match_nothing sig = match_unnamed sig [] no_pattern no_tree [] (record {
  binds = record {
    room = refl;
    just = λ x. (λ s. let wrong : false ≡ true = s in absurd (false≢true wrong), λ s. absurd s);
    sorted = λ x t e. let k : None ≡ Some t = e in let no : ⊥ = cc in absurd no;
  };
  makes = refl;
})

pub defined_not_closed : (k : SymKind) → k ≡ Equations → k ≡ Closed → ⊥
defined_not_closed k a b = let e : Closed ≡ Equations = sym b ∙ a in cc

-- the function, which has one equation
called_once : (sig : Signature) (k c : ℕ) (right : Pattern) (r : Evaluated)
    → Declares sig 0 Equations [] 0
    → EvaluatesIn (defined_by sig (always right ∷ [])) k 0 [] right c r
    → Evaluates (defined_by sig (always right ∷ [])) (suc k) [] (call 0 [] no_pattern) (suc c) r
called_once sig k c right r d e =
    function_called none_left (by_equations d.there d.of_kind (used (match_nothing sig) no_condition
    e))

pub tried_bounds : (sig : Signature) → Declares sig 0 Equations [] 0 → TriedBounds sig
tried_bounds sig d = record {
  no_equation_used = function_called none_left (by_equations d.there d.of_kind no_equation_left);
  no_call_for_it =
      function_called none_left (without_call d.there (λ is.
      defined_not_closed d.info.kind d.of_kind is));
  call_nested = nested_out of_call;
  right_side_nested = called_once sig 0 0 _ _ d no_nesting;
  value_reached = called_once sig 1 0 _ _ d (inside itself);
  root_nested = called_once sig 1 0 _ _ d (inside (nested_out of_constructor));
  root_reached =
      called_once sig 2 0 _ _ d (inside (made of_constructor none_left refl (omega arith)));
  endless =
      called_once sig 1999 1 _ _ d (inside (called_once sig 1997 0 _ _ d (inside
      (function_called none_left
      (without_call d.there (λ is. defined_not_closed d.info.kind d.of_kind is))))));
  at_height =
      λ t high. made of_constructor (one_more (bound refl) none_left) refl (omega (arith, high));
  past_height =
      λ t high.
      made_too_high of_constructor (one_more (bound refl) none_left) refl (omega (arith, high));
}
