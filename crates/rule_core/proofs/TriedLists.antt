-- The cases of a function with two equations, which appends lists.
use Rattle.std.proofs.Common.{◌≡◌, ℕ, suc, zero, ◌<◌, ◌⊎◌, inl, inr, ⊎_elim, List, [], ◌∷◌}
use Rattle.std.proofs.Common.{slice_get, map, true, false, Option, Some, None, refl, sym, subst}
use Rattle.std.proofs.Common.{arith}
use Rattle.std.specs.Prelude.{IsSome}
use Rattle.std.proofs.lemmas.Bool.{false≢true}
use Rattle.term_core.specs.Terms.{Tree, node, Forest, no_tree, more_trees, IsNormal}
use Rattle.term_core.specs.Patterns.{variable, application, no_pattern, binding, instances_of}
use Rattle.term_core.specs.Patterns.{ground_patterns}
use Rattle.rule_core.specs.Theories.{RewriteTheory}
use Rattle.rule_core.specs.Matching.{MatchNamed, OccursInSome}
use Rattle.rule_core.specs.Sorting.{HaveSorts, IsTermOf}
use Rattle.rule_core.specs.Evaluation.{value, of_constructor, IsUnmatchedBy, Evaluates, bound}
use Rattle.rule_core.specs.Evaluation.{argument_blocked, made, function_called, none_left}
use Rattle.rule_core.specs.Evaluation.{first_blocked, later_blocked, one_more, without_call}
use Rattle.rule_core.specs.Evaluation.{by_equations, unmatched, used, no_condition, inside}
use Rattle.rule_core.specs.EvaluationCases.{Declares, DeclaresLists, TriedLists, appending}
use Rattle.rule_core.specs.EvaluationCases.{append_empty, two, one, one_tree, one_item}
use Rattle.rule_core.specs.EvaluationCases.{one_item_tree, named}
use Rattle.rule_core.specs.declared.signature.Signature.{Signature}
use Rattle.rule_core.specs.declared.signature.SymKind.TheVariants.{Ctor}
use Rattle.rule_core.proofs.NamedMatches.{match_unnamed}
use Rattle.rule_core.proofs.SortedInstances.{both_there}
use Rattle.rule_core.proofs.TriedIntegers.{declared_result}
use Rattle.rule_core.proofs.TriedBounds.{defined_not_closed}
use Rattle.rule_core.proofs.TriedSteps.{match_one}

abbrev nothing : Tree
nothing = node 1 no_tree

abbrev item : Tree
item = node 3 no_tree

-- the constructor on terms of its argument sorts
constructed : (sig : Signature) (f result : ℕ) (arguments : List ℕ) (ts : Forest)
    → Declares sig f Ctor arguments result
    → HaveSorts sig [] [] (ground_patterns ts) (map named arguments)
    → IsTermOf sig (node f ts) result
constructed sig f result arguments ts d of = (
  d.info,
  d.there,
  d.of_kind,
  declared_result d,
  subst (λ refs. HaveSorts sig [] [] (ground_patterns ts) refs) (sym d.takes) of,
)

empty_is_list : (sig : Signature) → DeclaresLists sig → IsTermOf sig nothing 1
empty_is_list sig d = constructed sig 1 1 [] no_tree d.empty tt

item_is_item : (sig : Signature) → DeclaresLists sig → IsTermOf sig item 0
item_is_item sig d = constructed sig 3 0 [] no_tree d.item tt

one_is_list : (sig : Signature) → DeclaresLists sig → IsTermOf sig one_item_tree 1
one_is_list sig d =
    constructed sig 2 1 (0 ∷ (1 ∷ [])) (more_trees item (one_tree nothing)) d.more
    (0, refl, item_is_item sig d, (1, refl, empty_is_list sig d, tt))

-- the first equation matches an empty list and this list
match_empty : (sig : Signature) → DeclaresLists sig
    → MatchNamed sig (1 ∷ []) (two (application 1 no_pattern) (variable 0)) []
    (more_trees nothing (one_tree one_item_tree)) (Some one_item_tree ∷ [])
match_empty sig d =
    match_one sig 1 (two (application 1 no_pattern) (variable 0))
    (more_trees nothing (one_tree one_item_tree)) one_item_tree
    (λ x s. ⊎_elim (λ (no : ⊥). absurd no)
    (λ (a : (x ≡ 0) ⊎ ⊥). ⊎_elim (λ (e : x ≡ 0). e) (λ (no : ⊥). absurd no) a) s)
    (inr (inl refl)) (tt, (tt, tt)) (one_is_list sig d) refl

-- it does not match if the first list has an item
first_unmatched : (sig : Signature) (us : Forest)
    → IsUnmatchedBy (appending sig) append_empty (more_trees one_item_tree us)
first_unmatched sig us theta m =
    let parts =
    both_there (Some nothing) (instances_of theta (one (variable 0)))
    (more_trees one_item_tree us) m.makes in
    let trees : more_trees one_item_tree us ≡ more_trees parts.0 parts.1.0 = parts.1.1.0 in
    let head : Some nothing ≡ Some parts.0 = parts.1.1.1.0 in
    cc

abbrev items : List (Option Tree)
items = Some item ∷ (Some nothing ∷ (Some one_item_tree ∷ []))

match_items : (sig : Signature) → DeclaresLists sig
    → MatchNamed sig (0 ∷ (1 ∷ (1 ∷ [])))
    (two (application 2 (two (variable 0) (variable 1))) (variable 2)) []
    (more_trees one_item_tree (one_tree one_item_tree)) items
match_items sig d =
    match_unnamed sig (0 ∷ (1 ∷ (1 ∷ [])))
    (two (application 2 (two (variable 0) (variable 1))) (variable 2))
    (more_trees one_item_tree (one_tree one_item_tree)) items (record {
      binds = record { room = refl; just = λ x. (given x, bound_there x); sorted = sorted_there };
      makes = refl;
    }) where
      given : (x : ℕ) → IsSome (binding items x)
          → OccursInSome x (two (application 2 (two (variable 0) (variable 1))) (variable 2))
      given zero s = inl (inl refl)
      given (suc zero) s = inl (inr (inl refl))
      given (suc (suc zero)) s = inr (inl refl)
      given (suc (suc (suc x))) s = let wrong : false ≡ true = s in absurd (false≢true wrong)

      few : (x : ℕ) → OccursInSome x (two (application 2 (two (variable 0) (variable 1))) (variable 2))
          → x < 3
      few x s =
          ⊎_elim
          (λ (a : (x ≡ 0) ⊎ ((x ≡ 1) ⊎ ⊥)). ⊎_elim (λ (e : x ≡ 0). omega (arith, e))
          (λ (b : (x ≡ 1) ⊎ ⊥). ⊎_elim (λ (e : x ≡ 1). omega (arith, e)) (λ (no : ⊥). absurd no) b)
          a)
          (λ (a : (x ≡ 2) ⊎ ⊥). ⊎_elim (λ (e : x ≡ 2). omega (arith, e)) (λ (no : ⊥). absurd no) a)
          s

      bound_there : (x : ℕ)
          → OccursInSome x (two (application 2 (two (variable 0) (variable 1))) (variable 2))
          → IsSome (binding items x)
      bound_there zero s = refl
      bound_there (suc zero) s = refl
      bound_there (suc (suc zero)) s = refl
      bound_there (suc (suc (suc x))) s = absurd (omega (arith, few (suc (suc (suc x))) s))

      sorted_there : (x : ℕ) (t : Tree) → binding items x ≡ Some t
          → IsNormal t × ((s : ℕ) × (slice_get (0 ∷ (1 ∷ (1 ∷ []))) x ≡ Some s) × IsTermOf sig t s)
      sorted_there zero t b =
          let k : Some item ≡ Some t = b in
          let same : item ≡ t = cc in rw (sym same) (tt, (0, refl, item_is_item sig d))
      sorted_there (suc zero) t b =
          let k : Some nothing ≡ Some t = b in
          let same : nothing ≡ t = cc in rw (sym same) (tt, (1, refl, empty_is_list sig d))
      sorted_there (suc (suc zero)) t b =
          let k : Some one_item_tree ≡ Some t = b in
          let same : one_item_tree ≡ t = cc in
          rw (sym same) ((tt, (tt, tt)), (1, refl, one_is_list sig d))
      sorted_there (suc (suc (suc x))) t b = let k : None ≡ Some t = b in let no : ⊥ = cc in absurd no

-- a list with one item is its own value
one_item_value : {theory : RewriteTheory} {k c : ℕ} {theta : List (Option Tree)}
    → Evaluates theory (suc (suc k)) theta one_item c (value one_item_tree c)
one_item_value =
    made of_constructor (one_more (made of_constructor none_left refl (omega arith))
    (one_more (made of_constructor none_left refl (omega arith)) none_left)) refl
    (omega arith)

pub tried_lists : (sig : Signature) → DeclaresLists sig → TriedLists sig
tried_lists sig d = record {
  appended =
      function_called (one_more one_item_value (one_more one_item_value none_left))
      (by_equations d.append.there d.append.of_kind
      (unmatched (first_unmatched sig (one_tree one_item_tree))
      (used (match_items sig d) no_condition (inside
      (made of_constructor (one_more (bound refl) (one_more
      (function_called (one_more (bound refl) (one_more (bound refl) none_left))
      (by_equations d.append.there d.append.of_kind
      (used (match_empty sig d) no_condition (inside (bound refl)))))
      none_left)) refl (omega arith))))));
  too_few =
      function_called (one_more one_item_value (one_more one_item_value none_left))
      (by_equations d.append.there d.append.of_kind
      (unmatched (first_unmatched sig (one_tree one_item_tree))
      (used (match_items sig d) no_condition (inside
      (argument_blocked of_constructor (later_blocked (bound refl) (first_blocked
      (function_called (one_more (bound refl) (one_more (bound refl) none_left))
      (without_call d.append.there
      (λ is. defined_not_closed d.append.info.kind d.append.of_kind is))))))))));
}
