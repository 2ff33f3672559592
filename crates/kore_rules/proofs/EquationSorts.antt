-- A readable equation is well-sorted.
use Rattle.std.proofs.Common.{◌≡◌, ◌<◌, ℕ, ◌+◌, Bool, true, false, List, [], ◌∷◌, length, Option}
use Rattle.std.proofs.Common.{Some, None, refl, ap, sym, ◌∙◌, subst, arith}
use Rattle.std.specs.Prelude.{◌==◌, All, IfSome, not}
use Rattle.std.proofs.lemmas.Bool.{false≢true, eqb-true}
use Rattle.std.proofs.lemmas.List.Elements.{All-nil, All-head, All-tail}
use Rattle.kore_text.specs.Trees.{PatternTree, AxiomDeclaration}
use Rattle.term_core.specs.Patterns.{Patterns}
use Rattle.rule_core.proofs.Belows.{both_true}
use Rattle.rule_core.specs.Rules.{Equation}
use Rattle.rule_core.specs.Sorting.{HasSort, HaveSorts, sort_at}
use Rattle.rule_core.specs.NamedParts.{Name}
use Rattle.rule_core.specs.WellSorted.{IsSignature, IsReference, IsCondition, HaveNoCall}
use Rattle.rule_core.specs.WellSorted.{HaveNames, UsesOnly}
use Rattle.kore_check.specs.PartNames.{names_in_all}
use Rattle.kore_equations.proofs.FineLaws.{sides_of_equation}
use Rattle.kore_rules.proofs.NameLaws.{have_names, names_kept, arguments_clear}
use Rattle.rule_core.specs.WellSorted.{IsEquationOf as IsSortedEquation}
use Rattle.rule_core.specs.declared.signature.Signature.{Signature}
use Rattle.rule_core.specs.declared.signature.SortInfo.{SortInfo}
use Rattle.rule_core.specs.declared.signature.SortRef.{SortRef}
use Rattle.rule_core.specs.declared.signature.SortRef.TheVariants.{Param, Sort}
use Rattle.rule_core.specs.declared.signature.SymInfo.{SymInfo}
use Rattle.kore_sig.specs.FirstFault.{Fault}
use Rattle.kore_check.specs.Folds.{unfolded, Unfoldeds, count}
use Rattle.kore_check.specs.PatternFaults.{argument_faults}
use Rattle.kore_check.specs.PatternMeanings.{AllMean, none_mean, more_mean}
use Rattle.kore_check.specs.SortedMeanings.{variable_sorts}
use Rattle.kore_shapes.specs.Shapes.{given_condition}
use Rattle.kore_axioms.specs.RuleFaults.{is_empty, faults_at_sort}
use Rattle.kore_axioms.specs.Uses.{have_symbol, is_plain_function}
use Rattle.kore_axioms.proofs.ApplicativeLaws.{neither}
use Rattle.kore_axioms.proofs.BoundLaws.{no_faults}
use Rattle.kore_equations.specs.ReadableSides.{all_read, faults_of_sides}
use Rattle.kore_equations.specs.ReadableEquations.{HasReadableParts, condition_of_equation}
use Rattle.kore_equations.specs.ReadableEquations.{is_one_sort, is_sort_over}
use Rattle.kore_shapes.specs.Statements.{StatedEquation}
use Rattle.kore_shapes.specs.EquationForms.{EquationParts}
use Rattle.kore_equations.specs.EquationMeanings.{MeansParts}
use Rattle.kore_equations.proofs.ClearLaws.{empty_is}
use Rattle.kore_rules.proofs.KeptSorts.{IsKept, sort_kept, all_sorts_kept}
use Rattle.kore_rules.proofs.MeaningSorts.{sorted_at, sorted_side, all_no_call, uses_only}
use Rattle.kore_rules.proofs.MeaningSorts.{AreDeclared, all_variables_declared}
use Rattle.kore_rules.proofs.RuleSorts.{sorted_condition}

pub count_read : (ps : List PatternTree) → count (all_read ps) ≡ length ps
count_read [] = refl
count_read (p ∷ ps) = ap (λ (n : ℕ). n + 1) (count_read ps) ∙ omega arith

-- patterns without faults at the places of a symbol without sort parameters
sorted_arguments : (sig : Signature) (vars : List (List ℕ × ℕ)) (refs : List SortRef)
    {us : Unfoldeds} {ps : Patterns} → IsSignature sig → All (IsReference sig 0) refs
    → argument_faults sig [] refs us ≡ [] → count us ≡ length refs → AllMean sig vars us ps
    → HaveSorts sig (variable_sorts vars) [] ps refs
sorted_arguments sig vars [] good all clear many none_mean = tt
sorted_arguments sig vars (of ∷ refs) good all clear many none_mean = absurd (omega (arith, many))
sorted_arguments sig vars [] good all clear many (more_mean first rest) =
    absurd (omega (arith, many))
sorted_arguments sig vars (Param i ∷ refs) good all clear many (more_mean first rest) =
    absurd (let never : i < 0 = All-head (IsReference sig 0) (Param i) refs all in
    omega (arith, never))
sorted_arguments sig vars (Sort s ∷ refs) good all clear many (more_mean first rest) =
    let here = no_faults _ _ clear in
    let later = no_faults _ _ here.1 in (
      s.0,
      refl,
      sorted_at sig vars (Some s.0) s.0 good here.0 later.0 refl first,
      sorted_arguments sig vars refs good (All-tail (IsReference sig 0) (Sort s) refs all) later.1
          (omega (arith, many)) rest,
    )

one_sort : (o p : Option ℕ) → is_one_sort o p ≡ true → (n : ℕ) × (p ≡ Some n)
one_sort None p h = absurd (false≢true h)
one_sort (Some n) None h = absurd (false≢true h)
one_sort (Some n) (Some m) h = (m, refl)

not_true : (b : Bool) → not b ≡ true → b ≡ false
not_true false h = refl
not_true true h = sym h

pub sorted_equation : (declared final : Signature) (axioms : List AxiomDeclaration)
    (a : AxiomDeclaration) (stated : StatedEquation) (own : SymInfo) (q : EquationParts)
    (e : Equation) (info : SymInfo) → IsKept declared final axioms → IsSignature declared
    → HasReadableParts declared a own stated q → MeansParts declared a stated q e
    → own.params ≡ 0 → All (IsReference declared own.params) own.args.items
    → info.args.items ≡ own.args.items → info.result ≡ own.result → IsSortedEquation final info e
sorted_equation declared final axioms a stated own q e info kept good p m params refs same_args
    same_result =
    let over = condition_of_equation declared stated q in
    let fits = both_true (is_sort_over declared a.params stated.over) _ p.function in
    let result = one_sort _ _ fits.1 in
    let counted = both_true (length q.patterns == length own.args.items) _ p.sides.sorted in
    let many : length q.patterns ≡ length own.args.items = eqb-true _ _ counted.0 in
    let sorted =
    both_true (is_empty (faults_of_sides declared own q.patterns over)) _ counted.1 in
    let patterns =
    no_faults _ _ (empty_is (faults_of_sides declared own q.patterns over) sorted.0) in
    let uses =
    both_true (not (have_symbol (is_plain_function declared) (all_read q.patterns))) _
    p.sides.good_uses in
    let ac = both_true _ _ uses.1 in
    let right = both_true _ _ (both_true _ _ p.right).1 in
    let faults : List Fault =
    faults_at_sort declared (sort_at [] own.result) (unfolded q.right) in
    let vars : List (List ℕ × ℕ) = m.variables in
    let V : List ℕ = variable_sorts vars in
    let same : V ≡ e.variables = sym m.sorts in
    let numbers : AreDeclared declared vars =
    subst (AreDeclared declared) (sym m.numbered) (all_variables_declared declared []
    (all_read q.patterns) (All-nil (λ (n : ℕ). n < length declared.sorts))) in
    let plain_refs : All (IsReference declared 0) own.args.items =
    subst (λ (n : ℕ). All (IsReference declared n) own.args.items) params refs in
    let arguments : HaveSorts declared V [] e.arguments own.args.items =
    sorted_arguments declared vars own.args.items good plain_refs patterns.0
    (count_read q.patterns ∙ many) m.means_arguments in
    let calls : HaveNoCall e.arguments =
    all_no_call declared vars (not_true _ uses.0) (neither _ _ (not_true _ ac.0)).1
    m.means_arguments in
    let ns : List Name = names_in_all declared vars [] 0 (all_read q.patterns) in
    let named : HaveNames declared V e.arguments ns =
    have_names declared vars q.patterns e.arguments good
    (sides_of_equation q.patterns over p.sides.good_form)
    (arguments_clear declared [] (all_read q.patterns) own.args.items patterns.0) calls
    m.means_arguments in
    record {
      variables =
          subst (λ (ss : List ℕ). All (λ (n : ℕ). n < length final.sorts) ss) same (subst
          (λ (es : List (List ℕ × SortInfo)). All (λ (n : ℕ). n < length es) V) (sym kept.sorts)
          numbers);
      arguments = subst (λ (ss : List ℕ). HaveSorts final ss [] e.arguments info.args.items) same
          (subst (HaveSorts final V [] e.arguments) (sym same_args) (all_sorts_kept declared final
          axioms V [] e.arguments own.args.items kept arguments));
      no_call = calls;
      names =
          subst (λ (ss : List ℕ). HaveNames final ss e.arguments e.names) same
          (subst (λ (ms : List Name). HaveNames final V e.arguments ms) (sym m.names)
          (names_kept declared final axioms V e.arguments ns kept named));
      condition =
          subst (λ (ss : List ℕ). IfSome e.condition (IsCondition final ss e.arguments e.names)) same
          (subst (λ (ms : List Name). IfSome e.condition (IsCondition final V e.arguments ms))
          (sym m.names)
          (sorted_condition declared final axioms vars (given_condition stated.over q.condition)
          over e.condition kept good m.means_arguments refl patterns.1 ac.1 m.means_condition));
      sort = result.0;
      result = ap (sort_at []) same_result ∙ result.1;
      right = subst (λ (ss : List ℕ). HasSort final ss e.right result.0) same
          (sort_kept declared final axioms V e.right result.0 kept (sorted_side declared vars
          (sort_at [] own.result) result.0 good (empty_is faults right.0) result.1 m.means_right));
      bound =
          subst (λ (ms : List Name). UsesOnly e.arguments ms e.right) (sym m.names)
          (uses_only declared vars m.means_arguments right.1 m.means_right);
    }
