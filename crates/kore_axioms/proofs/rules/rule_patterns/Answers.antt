use Rattle.std.proofs.Common.{◌≡◌, ℕ, List, [], ◌∷◌, ◌++◌, length, nat_eq, ◌&&◌, Option, Some, ap}
use Rattle.std.proofs.Common.{sym, ◌∙◌}
use Rattle.std.proofs.Common.{subst, arith}
use Rattle.std.specs.Prelude.{option_map}
use Rattle.kore_text.specs.Trees.{PatternTree}
use Rattle.kore_ast.specs.Plain.{pattern_tree as plain_tree}
use Rattle.term_core.specs.RulePatterns.{plain_pattern}
use Rattle.kore_check.specs.Folds.{Unfoldeds, unfolded}
use Rattle.kore_check.specs.PatternMeanings.{with_variables, with_all_variables, Means}
use Rattle.kore_check.specs.VariableNames.{named_sorts}
use Rattle.kore_check.specs.PartNames.{names_in}
use Rattle.rule_core.specs.ProgramView.{names_of}
use Rattle.rule_core.specs.declared.rules.Named.{Named}
use Rattle.kore_shapes.specs.Views.{pattern_at}
use Rattle.kore_axioms.specs.AxiomMeanings.{MeansTest}
use Rattle.kore_axioms.specs.NamedRules.{with_some_variables}
use Rattle.kore_axioms.specs.Conditions.{tested_pattern}
use Rattle.kore_axioms.specs.RuleFaults.{listed_pattern, is_bound}
use Rattle.kore_axioms.specs.RuleParts.{RuleParts, left_of}
use Rattle.kore_axioms.specs.Views.{plain_rule_parts}
use Rattle.kore_axioms.proofs.BuiltLaws.{bound_counted, bound_all}
use Rattle.kore_axioms.proofs.rules.rule_patterns.Goals as goal

some_same : {A : Type 0} (x y : A) → Some x ≡ Some y → x ≡ y
some_same x y e = cc

pub returns : goal.returns
returns c =
    let sig = c.args.sig.now in
    let w : RuleParts = plain_rule_parts c.args.parts in
    let f = c.requires.fine in
    let left_is : plain_tree c.in-Some-Some.left.now ≡ f.left =
    some_same _ _
    (sym (ap (option_map pattern_at) c.in-Some-Some.is-0) ∙ c.main.ensures ∙ f.is_left) in
    let right_is : plain_tree c.in-Some-Some.right.now ≡ f.right =
    some_same _ _ (sym (ap (option_map pattern_at) c.in-Some-Some.is-1) ∙ c.main-2.ensures
    ∙ f.is_right) in
    let qs : Unfoldeds = listed_pattern (Some f.left) in
    let first : List (List ℕ × ℕ) = with_all_variables sig [] qs in
    let test : Option PatternTree = tested_pattern w.condition in
    let one : c.build_pattern.new.vars ≡ first =
    c.in_ok-made.ensures.vars
    ∙ ap (λ (vs : List (List ℕ × ℕ)).
    with_variables sig vs (unfolded (plain_tree c.in-Some-Some.left.now)))
    c.new-vars.ensures
    ∙ ap (λ (t : PatternTree). with_variables sig [] (unfolded t)) left_is in
    let two : c.built_condition.new.vars ≡ with_some_variables sig first test =
    c.in_ok-cond.ensures.vars
    ∙ ap (λ (vs : List (List ℕ × ℕ)).
    with_some_variables sig vs (option_map pattern_at c.tested.result)) one
    ∙ ap (with_some_variables sig first) c.tested.ensures in
    let three : c.build_pattern-2.new.vars ≡ with_variables sig (with_some_variables sig first test)
    (unfolded f.right) =
    c.in_ok-right.ensures.vars
    ∙ ap (λ (vs : List (List ℕ × ℕ)).
    with_variables sig vs (unfolded (plain_tree c.in-Some-Some.right.now))) two
    ∙ ap (λ (t : PatternTree). with_variables sig (with_some_variables sig first test) (unfolded t))
    right_is in
    let kept : named_sorts c.into_infos.result.items ≡ with_variables sig
    (with_some_variables sig first test) (unfolded f.right) =
    c.into_infos.ensures ∙ three in
    let all : List (List ℕ × ℕ) =
    with_variables sig (with_some_variables sig first test) (unfolded f.right) in
    let most : c.len.result ≡ length all = omega (arith, c.len.ensures, ap length three) in
    let some : c.len-left_vars.result ≡ length first =
    omega (arith, c.len-left_vars.ensures, ap length one) in
    let counted : nat_eq c.len.result c.len-left_vars.result ≡ nat_eq (length all) (length first) =
    ap (λ (n : ℕ). nat_eq n c.len-left_vars.result) most
    ∙ ap (λ (n : ℕ). nat_eq (length all) n) some in
    let bound : nat_eq c.len.result c.len-left_vars.result ≡
    (is_bound qs test && is_bound qs (Some f.right)) =
    counted ∙ bound_counted sig qs test f.right f.test_clear f.right_clear in
    record {
      left = f.left;
      is_left = f.is_left;
      right = f.right;
      is_right = f.is_right;
      bound = bound
          ∙ ap (λ (o : Option PatternTree).
          is_bound (listed_pattern o) test
          && is_bound (listed_pattern o) (Some f.right)) (sym f.is_left)
          ∙ ap (λ (o : Option PatternTree).
          is_bound (listed_pattern (left_of w)) test && is_bound (listed_pattern (left_of w)) o)
          (sym f.is_right);
      numbered =
          λ yes. kept
          ∙ (bound_all sig qs test f.right f.test_clear f.right_clear (sym counted ∙ yes)).1;
      means_left = λ yes.
          let same = bound_all sig qs test f.right f.test_clear f.right_clear (sym counted ∙ yes) in
          subst (λ (vs : List (List ℕ × ℕ)).
          Means sig vs (unfolded f.left) (plain_pattern c.in_ok-made.made))
          (one ∙ sym same.1 ∙ sym kept)
          (subst (λ (t : PatternTree). Means sig (c.build_pattern.new.vars) (unfolded t)
          (plain_pattern c.in_ok-made.made)) left_is c.in_ok-made.ensures.means);
      names = λ yes.
          let same = bound_all sig qs test f.right f.test_clear f.right_clear (sym counted ∙ yes) in
          c.in_ok-add_names.ensures
          ∙ ap (λ (ns : List Named). names_of ns
          ++ names_in sig c.build_pattern.new.vars (0 ∷ [])
          (unfolded (plain_tree c.in-Some-Some.left.now))) c.new-named.ensures.items
          ∙ ap (λ (t : PatternTree). names_in sig c.build_pattern.new.vars (0 ∷ []) (unfolded t))
          left_is
          ∙ ap (λ (vs : List (List ℕ × ℕ)). names_in sig vs (0 ∷ []) (unfolded f.left))
          (one ∙ sym same.1 ∙ sym kept);
      means_condition = λ yes.
          let same = bound_all sig qs test f.right f.test_clear f.right_clear (sym counted ∙ yes) in
          subst (λ (vs : List (List ℕ × ℕ)).
          MeansTest sig vs test (option_map plain_pattern c.in_ok-cond.cond))
          (two ∙ same.0 ∙ sym same.1 ∙ sym kept)
          (subst (λ (o : Option PatternTree). MeansTest sig (c.built_condition.new.vars) o
          (option_map plain_pattern c.in_ok-cond.cond)) c.tested.ensures
          c.in_ok-cond.ensures.means);
      means_right =
          λ yes. subst (λ (vs : List (List ℕ × ℕ)).
          Means sig vs (unfolded f.right) (plain_pattern c.in_ok-right.right))
          (sym c.into_infos.ensures) (subst (λ (t : PatternTree). Means sig
          c.build_pattern-2.new.vars (unfolded t) (plain_pattern c.in_ok-right.right))
          right_is c.in_ok-right.ensures.means);
    }
