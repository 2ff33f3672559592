-- Two signatures that agree give patterns, rules and equations the same meanings.
use Rattle.std.proofs.Common.{◌≡◌, ℕ, List, [], ◌∷◌, ◌++◌, Option, Some, None, refl, sym, ap, ◌∙◌, ◌+◌}
use Rattle.std.proofs.Common.{subst, length, map}
use Rattle.std.specs.Prelude.{◌==◌, ◌&&◌, ◌||◌, not, nat_le}
use Rattle.std.specs.List.{AllZip}
use Rattle.kore_text.specs.Trees.{SortTree, sort_parameter, sort_applied, PatternTree}
use Rattle.kore_text.specs.Trees.{AxiomDeclaration}
use Rattle.term_core.specs.Patterns.{Pattern, Patterns}
use Rattle.rule_core.specs.Evaluation.{most_height}
use Rattle.rule_core.specs.Rules.{RewriteRule, Equation}
use Rattle.rule_core.specs.Sorting.{sort_at}
use Rattle.rule_core.specs.declared.signature.Signature.{Signature}
use Rattle.rule_core.specs.declared.signature.SortRef.{SortRef}
use Rattle.rule_core.specs.declared.signature.SymInfo.{SymInfo}
use Rattle.rule_core.specs.declared.signature.SymKind.{SymKind}
use Rattle.kore_sig.specs.SignatureLaws.{IsSameSymbol, AreSameSignature}
use Rattle.kore_sig.specs.SortReferences.{sort_number}
use Rattle.kore_check.specs.Folds.{Unfolded, named_variable, written_value, applied_symbol}
use Rattle.kore_check.specs.Folds.{both_of, other_form, Unfoldeds, no_more, and_more, unfolded}
use Rattle.kore_check.specs.Folds.{unfolded_heights}
use Rattle.kore_check.specs.PatternFaults.{argument_faults}
use Rattle.kore_check.specs.PartNames.{names_in, names_in_all, name_at, number_of_variable}
use Rattle.kore_check.specs.PatternMeanings.{Means, by_variable, by_value, by_symbol, by_name}
use Rattle.kore_check.specs.PatternMeanings.{AllMean}
use Rattle.kore_check.specs.PatternMeanings.{none_mean, more_mean, with_variables, IsNamed}
use Rattle.kore_check.specs.PatternMeanings.{with_all_variables, applied_pattern}
use Rattle.kore_check.specs.PatternSorts.{symbol_named, sort_numbers}
use Rattle.kore_shapes.specs.EquationForms.{EquationParts}
use Rattle.kore_shapes.specs.Forms.{all_forms, has_form, has_binder}
use Rattle.kore_shapes.specs.Shapes.{Condition}
use Rattle.kore_shapes.specs.Statements.{StatedEquation}
use Rattle.kore_axioms.specs.AxiomMeanings.{MeansTest, MeansRule}
use Rattle.kore_axioms.specs.Conditions.{tested_pattern}
use Rattle.kore_axioms.specs.RuleFaults.{is_empty, faults_at_sort, is_bound}
use Rattle.kore_axioms.specs.RuleParts.{rule_parts}
use Rattle.kore_axioms.specs.Uses.{have_symbol}
use Rattle.kore_equations.specs.EquationMeanings.{StatesEquation, MeansParts, MeansEquation}
use Rattle.kore_axioms.specs.AxiomClasses.{axiom_class}
use Rattle.kore_shapes.specs.LastResorts.{GuardParts}
use Rattle.kore_equations.specs.Guards.{condition_of_guard, QuantifyEach, Repeats}
use Rattle.kore_equations.specs.ReadableSides.{all_read, are_sorted, have_good_uses, AreReadable}
use Rattle.kore_equations.specs.ReadableSides.{is_readable_right}
use Rattle.kore_equations.specs.ReadableEquations.{HasReadableParts, IsReadable}
use Rattle.kore_equations.specs.ReadableEquations.{condition_of_equation}
use Rattle.kore_equations.specs.ReadableEquations.{is_sort_over, fits_function, is_one_sort}
use Rattle.kore_rules.proofs.AlikeSignatures.{IsAlike, AreAlike, Symbols, info_at, info_alike}
use Rattle.kore_rules.proofs.AlikeSignatures.{position_alike, with_symbols, symbol_alike}
use Rattle.kore_rules.proofs.AlikeSignatures.{numbers_alike, arguments_alike, at_sort_alike}
use Rattle.kore_rules.proofs.AlikeSignatures.{condition_alike, plain_functions_alike}
use Rattle.kore_rules.proofs.AlikeSignatures.{ac_symbols_alike, class_alike}

some_alike : (a b : Option SymInfo) (info : SymInfo) → AreAlike a b → a ≡ Some info
    → (other : SymInfo) × (b ≡ Some other) × IsAlike info other
some_alike None b info h e = absurd (let never : ⊥ = cc in never)
some_alike (Some a) None info h e = absurd h
some_alike (Some a) (Some b) info h e =
    let same : a ≡ info = cc in (b, refl, subst (λ (i : SymInfo). IsAlike i b) same h)

module _ (s : Signature) (xs : Symbols) (same : AllZip IsSameSymbol s.symbols xs) where
  abbrev t : Signature
  t = with_symbols s xs

  -- ---- patterns

  mutual
    variables_alike : (vars : List (List ℕ × ℕ)) (u : Unfolded)
        → with_variables s vars u ≡ with_variables t vars u
    variables_alike vars (named_variable at name x) = refl
    variables_alike vars (written_value at x text byte) = refl
    variables_alike vars (applied_symbol at byte name ss ps) = all_variables_alike vars ps
    variables_alike vars (both_of at x p q) =
        variables_alike (with_variables s vars p) q
        ∙ ap (λ (vs : List (List ℕ × ℕ)). with_variables t vs q) (variables_alike vars p)
    variables_alike vars (other_form at) = refl

    all_variables_alike : (vars : List (List ℕ × ℕ)) (us : Unfoldeds)
        → with_all_variables s vars us ≡ with_all_variables t vars us
    all_variables_alike vars no_more = refl
    all_variables_alike vars (and_more u us) =
        all_variables_alike (with_variables s vars u) us
        ∙ ap (λ (vs : List (List ℕ × ℕ)). with_all_variables t vs us) (variables_alike vars u)

  named_alike : (name : List ℕ) (f : ℕ) (info : SymInfo) → IsNamed s name f info
      → (other : SymInfo) × IsNamed t name f other × IsAlike info other
  named_alike name f info h =
      let found : (other : SymInfo) × (info_at xs f ≡ Some other) × IsAlike info other =
      some_alike (info_at s.symbols f) (info_at xs f) info (info_alike s.symbols xs f same) h.1 in
      (found.0, (sym (position_alike name 0 s.symbols xs same) ∙ h.0, found.1), found.2)

  symbol_means : {vars : List (List ℕ × ℕ)} {at byte f : ℕ} {name : List ℕ} {ss : List SortTree}
      {us : Unfoldeds} {ns : List ℕ} {ps : Patterns} {p : Pattern} {info : SymInfo}
      → IsNamed s name f info → sort_numbers s ss ≡ Some ns → AllMean t vars us ps
      → applied_pattern info.kind f ns ps ≡ Some p
      → Means t vars (applied_symbol at byte name ss us) p
  symbol_means {f = f} {name = name} {ss = ss} {ns = ns} {ps = ps} {info = info} named sorts all e =
      let other : (other : SymInfo) × IsNamed t name f other × IsAlike info other =
      named_alike name f info named in
      by_symbol other.1 (sym (numbers_alike s xs same ss) ∙ sorts) all
      (ap (λ (k : SymKind). applied_pattern k f ns ps) (sym other.2.kind) ∙ e)

  mutual
    means_alike : {vars : List (List ℕ × ℕ)} {u : Unfolded} {p : Pattern} → Means s vars u p
        → Means t vars u p
    means_alike (by_variable a b) = by_variable a b
    means_alike (by_value a b) = by_value a b
    means_alike (by_symbol named sorts all is) = symbol_means named sorts (all_mean_alike all) is
    means_alike (by_name a b part) = by_name (means_alike a) (means_alike b) part

    all_mean_alike : {vars : List (List ℕ × ℕ)} {us : Unfoldeds} {ps : Patterns}
        → AllMean s vars us ps → AllMean t vars us ps
    all_mean_alike none_mean = none_mean
    all_mean_alike (more_mean a all) = more_mean (means_alike a) (all_mean_alike all)

  number_alike : (vars : List (List ℕ × ℕ)) (u : Unfolded)
      → number_of_variable s vars u ≡ number_of_variable t vars u
  number_alike vars (named_variable at name x) = refl
  number_alike vars (written_value at x text byte) = refl
  number_alike vars (applied_symbol at byte name ss ps) = refl
  number_alike vars (both_of at x p q) = refl
  number_alike vars (other_form at) = refl

  mutual
    names_alike : (vars : List (List ℕ × ℕ)) (place : List ℕ) (u : Unfolded)
        → names_in s vars place u ≡ names_in t vars place u
    names_alike vars place (named_variable at name x) = refl
    names_alike vars place (written_value at x text byte) = refl
    names_alike vars place (applied_symbol at byte name ss ps) = all_names_alike vars place 0 ps
    names_alike vars place (both_of at x p q) = λ i.
        names_alike vars place p i
        ++ (names_alike vars place q i
        ++ name_at place (number_alike vars p i) (number_alike vars q i))
    names_alike vars place (other_form at) = refl

    all_names_alike : (vars : List (List ℕ × ℕ)) (place : List ℕ) (n : ℕ) (us : Unfoldeds)
        → names_in_all s vars place n us ≡ names_in_all t vars place n us
    all_names_alike vars place n no_more = refl
    all_names_alike vars place n (and_more u us) = λ i.
        names_alike vars (place ++ n ∷ []) u i ++ all_names_alike vars place (n + 1) us i

  test_alike : (vars : List (List ℕ × ℕ)) (b : Option PatternTree) (p : Option Pattern)
      → MeansTest s vars b p → MeansTest t vars b p
  test_alike vars None None h = tt
  test_alike vars None (Some p) h = absurd h
  test_alike vars (Some b) None h = absurd h
  test_alike vars (Some b) (Some p) h = means_alike h

  -- ---- rules

  rule_alike : (a : AxiomDeclaration) (x : RewriteRule) → MeansRule s a x → MeansRule t a x
  rule_alike a x r = record {
    shape = r.shape;
    class = sym (class_alike s xs same a) ∙ r.class;
    left = r.left;
    is_left = r.is_left;
    right = r.right;
    is_right = r.is_right;
    variables = r.variables;
    numbered = r.numbered ∙ variables_alike [] (unfolded r.left);
    means_left = means_alike r.means_left;
    names = r.names ∙ names_alike r.variables (0 ∷ []) (unfolded r.left);
    means_condition =
        test_alike r.variables (tested_pattern (rule_parts s r.shape).condition) x.condition
        r.means_condition;
    means_right = means_alike r.means_right;
    sorts = r.sorts;
    priority = r.priority;
    place = r.place;
  }

  -- ---- equations

  over_alike : (params : List (List ℕ)) (over : SortTree)
      → is_sort_over s params over ≡ is_sort_over t params over
  over_alike params (sort_parameter at name) = refl
  over_alike params (sort_applied at name ss) = refl

  module _ (a : AxiomDeclaration) (info other : SymInfo) (e : StatedEquation) (q : EquationParts)
      (h : IsAlike info other) where
    fits_alike : fits_function s a info e ≡ fits_function t a other e
    fits_alike = λ i.
        over_alike a.params e.over i
        && is_one_sort (sort_number s.sorts e.sort) (sort_at [] (h.result i))

    arguments_same : (ps : Unfoldeds)
        → argument_faults s [] info.args.items ps ≡ argument_faults t [] other.args.items ps
    arguments_same ps =
        arguments_alike s xs same [] info.args.items ps
        ∙ ap (λ (refs : List SortRef). argument_faults t [] refs ps) h.args

    faults_alike : (u : Unfolded)
        → faults_at_sort s (sort_at [] info.result) u ≡ faults_at_sort t (sort_at [] other.result) u
    faults_alike u =
        at_sort_alike s xs same (sort_at [] info.result) u
        ∙ ap (λ (of : SortRef). faults_at_sort t (sort_at [] of) u) h.result

    sorted_alike : (ps : List PatternTree) (c : Condition)
        → are_sorted s info ps c ≡ are_sorted t other ps c
    sorted_alike ps c = λ i.
        (length ps == length (h.args i))
        && (is_empty (arguments_same (all_read ps) i ++ condition_alike s xs same c i)
        && nat_le (unfolded_heights (all_read ps) + 1) most_height)

    uses_alike : (ps : List PatternTree) (c : Condition)
        → have_good_uses s info ps c ≡ have_good_uses t other ps c
    uses_alike ps c = λ i.
        not (have_symbol (plain_functions_alike s xs same i) (all_read ps))
        && (not (h.ac i || have_symbol (ac_symbols_alike s xs same i) (all_read ps))
        && is_bound (all_read ps) (tested_pattern c))

    right_alike : (ps : List PatternTree) (r : PatternTree)
        → is_readable_right s info ps r ≡ is_readable_right t other ps r
    right_alike ps r = λ i.
        (not (has_form all_forms r) && not (has_binder r))
        && (is_empty (faults_alike (unfolded r) i) && is_bound (all_read ps) (Some r))

    sides_alike : (ps : List PatternTree) (c : Condition) → AreReadable s info ps c
        → AreReadable t other ps c
    sides_alike ps c r = record {
      good_form = r.good_form;
      sorted = sym (sorted_alike ps c) ∙ r.sorted;
      good_uses = sym (uses_alike ps c) ∙ r.good_uses;
    }

    parts_readable : HasReadableParts s a info e q → HasReadableParts t a other e q
    parts_readable r = record {
      function = sym fits_alike ∙ r.function;
      priority = r.priority;
      parameters = sym (arguments_same (all_read q.parameters)) ∙ r.parameters;
      sides = sides_alike q.patterns (condition_of_equation s e q) r.sides;
      right = sym (right_alike q.patterns q.right) ∙ r.right;
    }

    readable_alike : IsReadable s a info e q → IsReadable t a other e q
    readable_alike r = record {
      no_last_resort = r.no_last_resort;
      form = r.form;
      parts = parts_readable r.parts;
    }

  declared_alike : (f : List ℕ) (info : SymInfo) → symbol_named s f ≡ Some info
      → (other : SymInfo) × (symbol_named t f ≡ Some other) × IsAlike info other
  declared_alike f info e =
      some_alike (symbol_named s f) (symbol_named t f) info (symbol_alike s xs same f) e

  states_alike : (f : List ℕ) (a : AxiomDeclaration) (e : StatedEquation) (info other : SymInfo)
      → symbol_named t f ≡ Some other → StatesEquation s f a e info → StatesEquation t f a e other
  states_alike f a e info other declared r = record {
    class = sym (class_alike s xs same a) ∙ r.class;
    function = r.function;
    declared = declared;
  }

  parts_alike : (a : AxiomDeclaration) (e : StatedEquation) (q : EquationParts) (x : Equation)
      → MeansParts s a e q x → MeansParts t a e q x
  parts_alike a e q x r = record {
    variables = r.variables;
    numbered = r.numbered ∙ all_variables_alike [] (all_read q.patterns);
    parameters = r.parameters;
    means_arguments = all_mean_alike r.means_arguments;
    names = r.names ∙ all_names_alike r.variables [] 0 (all_read q.patterns);
    means_condition =
        test_alike r.variables (tested_pattern (condition_of_equation s e q)) x.condition
        r.means_condition;
    means_right = means_alike r.means_right;
    sorts = r.sorts;
    priority = r.priority;
    place = r.place;
  }

  equation_alike : (f : List ℕ) (a : AxiomDeclaration) (x : Equation) → MeansEquation s f a x
      → MeansEquation t f a x
  equation_alike f a x r =
      let other : (other : SymInfo) × (symbol_named t f ≡ Some other) × IsAlike r.info other =
      declared_alike f r.info r.states.declared in
      record {
        stated = r.stated;
        info = other.0;
        states = states_alike f a r.stated r.info other.0 other.1 r.states;
        parts = r.parts;
        readable = readable_alike a r.info other.0 r.stated r.parts other.2 r.readable;
        means = parts_alike a r.stated r.parts x r.means;
        last_resort = r.last_resort;
      }

  -- ---- equations of the last resort

  quantify_alike : (vars : List (List ℕ × ℕ)) (ps : List PatternTree) (order : List ℕ)
      → QuantifyEach s vars ps order → QuantifyEach t vars ps order
  quantify_alike vars ps order q = record {
    numbers =
        sym (λ i. map (λ (x : PatternTree). number_alike vars (unfolded x) i) ps) ∙ q.numbers;
    different = q.different;
    count = q.count;
  }

  repeats_alike : (a : AxiomDeclaration) (info other : SymInfo) (d : StatedEquation)
      (q : EquationParts) (g : GuardParts) (x : Equation) (order : List ℕ) → IsAlike info other
      → Repeats s info d.over g x order → Repeats t other d.over g x order
  repeats_alike a info other d q g x order h r =
      let c : Condition = condition_of_guard s d.over g in record {
        readable = sides_alike a info other d q h g.patterns c r.readable;
        variables = r.variables;
        numbered = r.numbered ∙ all_variables_alike [] (all_read g.patterns);
        sorts = r.sorts;
        means_arguments = all_mean_alike r.means_arguments;
        names = r.names ∙ all_names_alike r.variables [] 0 (all_read g.patterns);
        means_condition = test_alike r.variables (tested_pattern c) x.condition r.means_condition;
        quantified = quantify_alike r.variables g.variables order r.quantified;
      }

-- ---- two signatures that agree

-- a signature that agrees with another one is that one with other entries of the same symbols
pub entries_replaced : (u v : Signature) → AreSameSignature u v → with_symbols u v.symbols ≡ v
entries_replaced u v same = λ i. record {
  sorts = same.sorts i;
  symbols = v.symbols;
  subsorts = same.subsorts i;
}

pub rule_carried : (u v : Signature) → AreSameSignature u v → (a : AxiomDeclaration)
    (x : RewriteRule) → MeansRule u a x → MeansRule v a x
rule_carried u v same a x h =
    subst (λ (sig : Signature). MeansRule sig a x) (entries_replaced u v same)
    (rule_alike u v.symbols same.symbols a x h)

pub equation_carried : (u v : Signature) → AreSameSignature u v → (f : List ℕ)
    (a : AxiomDeclaration) (x : Equation) → MeansEquation u f a x → MeansEquation v f a x
equation_carried u v same f a x h =
    subst (λ (sig : Signature). MeansEquation sig f a x) (entries_replaced u v same)
    (equation_alike u v.symbols same.symbols f a x h)

pub states_carried : (u v : Signature) → AreSameSignature u v → (f : List ℕ)
    (a : AxiomDeclaration) (e : StatedEquation) (info : SymInfo) → StatesEquation u f a e info
    → (other : SymInfo) × IsAlike info other × StatesEquation v f a e other
states_carried u v same f a e info h =
    subst (λ (sig : Signature). (other : SymInfo) × IsAlike info other
    × StatesEquation sig f a e other) (entries_replaced u v same)
    (let other = declared_alike u v.symbols same.symbols f info h.declared in
    (other.0, other.2, states_alike u v.symbols same.symbols f a e info other.0 other.1 h))

pub parts_carried : (u v : Signature) → AreSameSignature u v → (a : AxiomDeclaration)
    (info other : SymInfo) (e : StatedEquation) (q : EquationParts) → IsAlike info other
    → HasReadableParts u a info e q → HasReadableParts v a other e q
parts_carried u v same a info other e q alike h =
    subst (λ (sig : Signature). HasReadableParts sig a other e q) (entries_replaced u v same)
    (parts_readable u v.symbols same.symbols a info other e q alike h)

pub meaning_carried : (u v : Signature) → AreSameSignature u v → (a : AxiomDeclaration)
    (e : StatedEquation) (q : EquationParts) (x : Equation) → MeansParts u a e q x
    → MeansParts v a e q x
meaning_carried u v same a e q x h =
    subst (λ (sig : Signature). MeansParts sig a e q x) (entries_replaced u v same)
    (parts_alike u v.symbols same.symbols a e q x h)

pub repeats_carried : (u v : Signature) → AreSameSignature u v → (a : AxiomDeclaration)
    (info other : SymInfo) (d : StatedEquation) (q : EquationParts) (g : GuardParts) (x : Equation)
    (order : List ℕ) → IsAlike info other → Repeats u info d.over g x order
    → Repeats v other d.over g x order
repeats_carried u v same a info other d q g x order alike h =
    subst (λ (sig : Signature). Repeats sig other d.over g x order) (entries_replaced u v same)
    (repeats_alike u v.symbols same.symbols a info other d q g x order alike h)

pub class_carried : (u v : Signature) → AreSameSignature u v → (a : AxiomDeclaration)
    → axiom_class u a ≡ axiom_class v a
class_carried u v same a =
    class_alike u v.symbols same.symbols a
    ∙ ap (λ (sig : Signature). axiom_class sig a) (entries_replaced u v same)
