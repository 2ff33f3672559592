-- A rewrite rule without faults is well-sorted.
use Rattle.std.proofs.Common.{◌≡◌, ◌<◌, ℕ, Bool, true, false, ◌&&◌, List, [], ◌∷◌, length}
use Rattle.std.proofs.Common.{slice_get, append-nil}
use Rattle.std.proofs.Common.{Option, Some, None, option_map, cond, refl, ap, sym, ◌∙◌, subst}
use Rattle.std.specs.Prelude.{All, IfSome, not}
use Rattle.std.specs.Option.{option_and_then}
use Rattle.std.proofs.lemmas.Bool.{false≢true}
use Rattle.std.proofs.lemmas.List.Elements.{All-nil}
use Rattle.kore_text.specs.Trees.{SortTree, PatternTree, AxiomDeclaration}
use Rattle.term_core.specs.Patterns.{Pattern, Patterns, no_pattern, more_patterns}
use Rattle.rule_core.proofs.Belows.{both_true}
use Rattle.rule_core.specs.Rules.{RewriteRule}
use Rattle.rule_core.specs.Sorting.{HasSort}
use Rattle.rule_core.specs.NamedParts.{Name}
use Rattle.rule_core.specs.WellSorted.{IsSignature, IsCondition, IsRuleOf as IsSortedRule}
use Rattle.rule_core.specs.WellSorted.{HasNoCall, HaveNames, UsesOnly}
use Rattle.rule_core.specs.declared.signature.Signature.{Signature}
use Rattle.rule_core.specs.declared.signature.SortInfo.{SortInfo}
use Rattle.rule_core.specs.declared.signature.SortKind.{SortKind}
use Rattle.rule_core.specs.declared.signature.SortKind.TheVariants as kind
use Rattle.kore_sig.specs.SortReferences.{sort_number}
use Rattle.kore_check.specs.Folds.{Unfoldeds, no_more, and_more, unfolded}
use Rattle.kore_check.specs.PatternMeanings.{AllMean, none_mean, more_mean}
use Rattle.kore_check.specs.PatternSorts.{sort_kind}
use Rattle.kore_check.specs.PartNames.{names_in, names_in_all}
use Rattle.kore_check.specs.SortedMeanings.{variable_sorts}
use Rattle.kore_shapes.specs.Shapes.{Condition, always, tests, ill}
use Rattle.kore_axioms.specs.AxiomMeanings.{MeansTest, MeansRule}
use Rattle.kore_axioms.specs.Conditions.{is_bool_kind, is_some_bool, is_bool, over_bool}
use Rattle.kore_axioms.specs.Conditions.{tested_pattern}
use Rattle.kore_axioms.specs.RuleForms.{holds_of, form_faults}
use Rattle.kore_axioms.specs.RuleFaults.{side_faults, condition_faults, sorted_faults, use_faults}
use Rattle.kore_axioms.specs.RuleFaults.{listed_pattern, is_bound, FirstOfRule}
use Rattle.kore_axioms.specs.RuleParts.{rule_parts, left_of, right_of}
use Rattle.kore_axioms.specs.Uses.{has_symbol, is_plain_function, is_ac_symbol}
use Rattle.kore_axioms.proofs.BoundLaws.{no_faults}
use Rattle.kore_axioms.proofs.FirstLaws.{none_by_byte}
use Rattle.kore_axioms.proofs.RuleLaws.{not_raised, held, left_sided}
use Rattle.kore_rules.proofs.KeptSorts.{IsKept, sort_kept}
use Rattle.kore_rules.proofs.MeaningSorts.{sorted_side, no_call, uses_only, AreDeclared}
use Rattle.kore_rules.proofs.MeaningSorts.{variables_declared}
use Rattle.kore_rules.proofs.NameLaws.{have_names, names_kept}

some_same : {X : Type 0} (x y : X) → Some x ≡ Some y → x ≡ y
some_same x y e = cc

-- ---- conditions

bool_there : (sig : Signature) (o : Option ℕ)
    → is_some_bool (option_and_then (sort_kind sig) o) ≡ true
    → (n : ℕ) × (o ≡ Some n) × (is_some_bool (sort_kind sig n) ≡ true)
bool_there sig None h = absurd (false≢true h)
bool_there sig (Some n) h = (n, refl, h)

is_kind : (k : SortKind) → is_bool_kind k ≡ true → k ≡ kind.Bool
is_kind kind.Int h = absurd (false≢true h)
is_kind kind.Bool h = refl
is_kind kind.Map h = absurd (false≢true h)
is_kind kind.Other h = absurd (false≢true h)

entry_there : (o : Option (List ℕ × SortInfo))
    → is_some_bool (option_map (λ (e : List ℕ × SortInfo). e.1.kind) o) ≡ true
    → (name : List ℕ) × (info : SortInfo) × (o ≡ Some (name, info)) × (info.kind ≡ kind.Bool)
entry_there None h = absurd (false≢true h)
entry_there (Some (name, info)) h = (name, info, refl, is_kind info.kind h)

over_tests : (sig : Signature) (c : Condition) (t : SortTree) (b : PatternTree)
    → over_bool sig c ≡ tests t b → is_bool sig t ≡ true
over_tests sig always t b e = absurd (let never : ⊥ = cc in never)
over_tests sig ill t b e = absurd (let never : ⊥ = cc in never)
over_tests sig (tests u d) t b e = by_case (is_bool sig u) refl e where
  by_case : (x : Bool) → is_bool sig u ≡ x → cond x (tests u d) ill ≡ tests t b
      → is_bool sig t ≡ true
  by_case false test e = absurd (let never : ⊥ = cc in never)
  by_case true test e =
      subst (λ (s : SortTree). is_bool sig s ≡ true) (let same : u ≡ t = cc in same) test

-- a condition without faults, whose variables are among those of these patterns
pub sorted_condition : (declared final : Signature) (axioms : List AxiomDeclaration)
    (vars : List (List ℕ × ℕ)) {qs : Unfoldeds} {ps : Patterns} (c d : Condition)
    (o : Option Pattern) → IsKept declared final axioms → IsSignature declared
    → AllMean declared vars qs ps → over_bool declared c ≡ d → condition_faults declared d ≡ []
    → is_bound qs (tested_pattern d) ≡ true → MeansTest declared vars (tested_pattern d) o
    → IfSome o (IsCondition final (variable_sorts vars) ps (names_in_all declared vars [] 0 qs))
sorted_condition declared final axioms vars c always None kept good all over clear bound means = tt
sorted_condition declared final axioms vars c always (Some p) kept good all over clear bound means =
    absurd means
sorted_condition declared final axioms vars c ill None kept good all over clear bound means = tt
sorted_condition declared final axioms vars c ill (Some p) kept good all over clear bound means =
    absurd means
sorted_condition declared final axioms vars c (tests t b) None kept good all over clear bound
    means =
    absurd means
sorted_condition declared final axioms vars c (tests t b) (Some p) kept good all over clear bound
    means =
    let number =
    bool_there declared (sort_number declared.sorts t) (over_tests declared c t b over) in
    let entry = entry_there (slice_get declared.sorts number.0) number.2 in (
      number.0,
      entry.0,
      entry.1,
      ap (λ (es : List (List ℕ × SortInfo)). slice_get es number.0) kept.sorts ∙ entry.2,
      entry.3,
      sort_kept declared final axioms (variable_sorts vars) p number.0 kept
          (sorted_side declared vars (sort_number declared.sorts t) number.0 good clear number.1
          means),
      uses_only declared vars all bound means,
    )

-- ---- rules

not_false : (b : Bool) → not b ≡ false → b ≡ true
not_false true h = refl
not_false false h = sym h

side_at : (sig : Signature) (wanted : Option ℕ) (o : Option PatternTree) (p : PatternTree)
    → o ≡ Some p → side_faults sig wanted o ≡ [] → side_faults sig wanted (Some p) ≡ []
side_at sig wanted o p e h = sym (ap (side_faults sig wanted) e) ∙ h

pub sorted_rule : (declared final : Signature) (axioms : List AxiomDeclaration)
    (a : AxiomDeclaration) (rule : RewriteRule) (first : Option SortTree) (s : ℕ)
    → IsKept declared final axioms → IsSignature declared → (r : MeansRule declared a rule)
    → FirstOfRule declared first a r.shape None → sort_number declared.sorts r.shape.sort ≡ Some s
    → IsSortedRule final s rule
sorted_rule declared final axioms a rule first s kept good r clear number =
    let w = rule_parts declared r.shape in
    let wanted : Option ℕ = sort_number declared.sorts r.shape.sort in
    let sorts = no_faults _ _ (none_by_byte (sorted_faults declared r.shape.sort w) clear.1.0) in
    let left = no_faults _ _ sorts.1 in
    let test = no_faults _ _ left.1 in
    let right = no_faults _ _ test.1 in
    let uses : use_faults declared first a.at r.shape.sort w ≡ [] =
    none_by_byte (use_faults declared first a.at r.shape.sort w) clear.1.1 in
    let plain =
    not_raised (holds_of
    (λ (p : PatternTree). has_symbol (is_plain_function declared) (unfolded p))
    (left_of w)) 12 a.at _ uses in
    let ac =
    not_raised (holds_of (λ (p : PatternTree). has_symbol (is_ac_symbol declared) (unfolded p))
    (left_of w)) 14 a.at _ plain.1 in
    let unbound =
    not_raised (not (is_bound (listed_pattern
    (left_of w)) (tested_pattern w.condition)
    && is_bound (listed_pattern (left_of w)) (right_of w))) 18
    a.at _ ac.1 in
    let bound = both_true _ _ (not_false _ unbound.0) in
    let vars : List (List ℕ × ℕ) = r.variables in
    let all : AllMean declared vars (and_more (unfolded r.left) no_more)
    (more_patterns rule.left no_pattern) =
    more_mean r.means_left none_mean in
    let qs : Unfoldeds = and_more (unfolded r.left) no_more in
    let bound_test : is_bound qs (tested_pattern w.condition) ≡ true =
    subst (λ (o : Option PatternTree). is_bound (listed_pattern o) (tested_pattern w.condition)
    ≡ true)
    r.is_left bound.0 in
    let bound_right : is_bound qs (Some r.right) ≡ true =
    subst (λ (o : Option PatternTree). is_bound qs o ≡ true) r.is_right (subst
    (λ (o : Option PatternTree). is_bound (listed_pattern o) (right_of w) ≡ true) r.is_left bound.1)
    in
    let ps : Patterns = more_patterns rule.left no_pattern in
    let own_names : names_in_all declared vars [] 0 qs ≡ rule.names =
    append-nil (names_in declared vars (0 ∷ []) (unfolded r.left)) ∙ sym r.names in
    let at_left = side_at declared wanted (left_of w) r.left r.is_left left.0 in
    let calls : HasNoCall rule.left =
    no_call declared vars (held _ (left_of w) r.left r.is_left plain.0)
    (held _ (left_of w) r.left r.is_left ac.0) r.means_left in
    let form : form_faults a w ≡ [] = none_by_byte (form_faults a w) clear.0 in
    let named : HaveNames declared (variable_sorts vars) ps (names_in_all declared vars [] 0 qs) =
    have_names declared vars (r.left ∷ []) ps good
    (left_sided declared a r.shape r.class form r.left r.is_left, tt)
    ((no_faults _ _ (no_faults _ _ at_left).0).1, tt) (calls, tt) all in
    let numbers : AreDeclared declared vars =
    subst (AreDeclared declared) (sym r.numbered) (variables_declared declared []
    (unfolded r.left) (All-nil (λ (n : ℕ). n < length declared.sorts))) in
    let V : List ℕ = variable_sorts vars in
    let same : V ≡ rule.variables = sym r.sorts in
    record {
      variables =
          subst (λ (ss : List ℕ). All (λ (n : ℕ). n < length final.sorts) ss) same (subst
          (λ (es : List (List ℕ × SortInfo)). All (λ (n : ℕ). n < length es) V) (sym kept.sorts)
          numbers);
      left =
          subst (λ (ss : List ℕ). HasSort final ss rule.left s) same (sort_kept declared final
          axioms V rule.left s kept (sorted_side declared vars wanted s good
          (side_at declared wanted (left_of w) r.left r.is_left left.0) number r.means_left));
      no_call = calls;
      names =
          subst (λ (ss : List ℕ). HaveNames final ss ps rule.names) same
          (subst (λ (ns : List Name). HaveNames final V ps ns) own_names
          (names_kept declared final axioms V ps (names_in_all declared vars [] 0 qs) kept named));
      condition =
          subst (λ (ss : List ℕ). IfSome rule.condition (IsCondition final ss ps rule.names)) same
          (subst (λ (ns : List Name). IfSome rule.condition (IsCondition final V ps ns)) own_names
          (sorted_condition declared final axioms vars _ w.condition rule.condition kept good all
          refl test.0 bound_test r.means_condition));
      right =
          subst (λ (ss : List ℕ). HasSort final ss rule.right s) same (sort_kept declared final
          axioms V rule.right s kept (sorted_side declared vars wanted s good
          (side_at declared wanted (right_of w) r.right r.is_right right.0) number
          r.means_right));
      bound =
          subst (λ (ns : List Name). UsesOnly ps ns rule.right) own_names
          (uses_only declared vars all bound_right r.means_right);
    }
