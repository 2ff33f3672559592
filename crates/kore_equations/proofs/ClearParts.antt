-- An equation is readable if and only if it is clear and its variables are bound.
use Rattle.std.proofs.Common.{◌≡◌, ◌≤◌, ℕ, Bool, true, false, ◌&&◌, List, [], ◌∷◌, Option, Some, None}
use Rattle.std.proofs.Common.{cond, refl, ap, sym, ◌∙◌, subst, arith}
use Rattle.std.specs.Prelude.{not, codes, option_map}
use Rattle.std.specs.Option.{option_and_then}
use Rattle.std.proofs.lemmas.Bool.{false≢true}
use Rattle.kore_text.specs.Trees.{PatternTree, element_variable, set_variable, string}
use Rattle.kore_text.specs.Trees.{symbol_applied, connected, binder_applied, value_written, folded}
use Rattle.kore_text.specs.Trees.{AxiomDeclaration}
use Rattle.rule_core.proofs.Belows.{both_true, true_both}
use Rattle.rule_core.specs.declared.signature.Signature.{Signature}
use Rattle.rule_core.specs.declared.signature.SymInfo.{SymInfo}
use Rattle.kore_sig.specs.Attributes.{has_attribute}
use Rattle.kore_check.specs.Folds.{unfolded, unfolded_height, unfolded_heights}
use Rattle.kore_check.specs.PatternFaults.{argument_faults}
use Rattle.kore_shapes.specs.Statements.{StatedEquation}
use Rattle.kore_shapes.specs.EquationForms.{EquationParts, conjuncts, members, stands_alone}
use Rattle.kore_shapes.specs.EquationForms.{occur_nowhere_else, direct_parts, kompiled, parts_under}
use Rattle.kore_shapes.specs.EquationForms.{parts_with, equation_parts, right_side}
use Rattle.kore_shapes.specs.LastResorts.{GuardParts, LastResortParts, negated, operands, all_guards}
use Rattle.kore_shapes.specs.LastResorts.{kompiled_under, resort_beside, resort_under, resort_with}
use Rattle.kore_shapes.specs.LastResorts.{last_resort_parts}
use Rattle.kore_axioms.specs.Priorities.{has_bad_priority}
use Rattle.kore_axioms.specs.RuleFaults.{is_empty}
use Rattle.kore_equations.specs.ReadableSides.{all_read}
use Rattle.kore_equations.specs.ReadableEquations.{condition_of_equation, fits_function}
use Rattle.kore_equations.specs.ReadableEquations.{HasReadableParts, IsReadable}
use Rattle.kore_equations.specs.ClearEquations.{each_faultless, are_clear, is_clear_right}
use Rattle.kore_equations.specs.ClearEquations.{are_clear_parts, clear_of, clear_parts}
use Rattle.kore_equations.specs.ClearEquations.{clear_resort_of, clear_last_resort, are_bound}
use Rattle.kore_equations.proofs.ClearLaws.{empty_is, faultless_same, clear_readable}
use Rattle.kore_equations.proofs.ClearLaws.{readable_clear, right_same}
use Rattle.kore_equations.specs.MeantEquations.{IsFineEquation}
use Rattle.kore_equations.proofs.FineLaws.{fine_sides, fine_right}

-- ---- the variables of kompile's form

alone_low : (x : PatternTree) (others : List PatternTree) → stands_alone x others ≡ true
    → unfolded_height (unfolded x) ≤ 500
alone_low (element_variable at n s) others h = omega arith
alone_low (set_variable at n s) others h = absurd (false≢true h)
alone_low (string at text) others h = absurd (false≢true h)
alone_low (symbol_applied at n ss ps) others h = absurd (false≢true h)
alone_low (connected at op ss ps) others h = absurd (false≢true h)
alone_low (binder_applied at b ss x p) others h = absurd (false≢true h)
alone_low (value_written at s text byte) others h = absurd (false≢true h)
alone_low (folded at left p) others h = absurd (false≢true h)

apart_low : (xs others : List PatternTree) → occur_nowhere_else xs others ≡ true
    → unfolded_heights (all_read xs) ≤ 500
apart_low [] others h = omega arith
apart_low (x ∷ xs) others h =
    let both = both_true _ _ h in
    let here : unfolded_height (unfolded x) ≤ 500 = alone_low x xs (both_true _ _ both.0).0 in
    let later : unfolded_heights (all_read xs) ≤ 500 = apart_low xs others both.1 in
    omega (arith, here, later)

abbrev HasLowParameters : EquationParts → Type 0
HasLowParameters q = unfolded_heights (all_read q.parameters) ≤ 500

direct_low : (e : StatedEquation) (c : Option PatternTree) (q : EquationParts)
    → Some (direct_parts e c) ≡ Some q → HasLowParameters q
direct_low e c q is = subst HasLowParameters (let same : direct_parts e c
    ≡ q = cc in same) (omega arith)

kompiled_low : (e : StatedEquation) (c : PatternTree) (o : Option (List PatternTree))
    (q : EquationParts)
    → option_and_then (kompiled e c) o ≡ Some q → HasLowParameters q
kompiled_low e c None q is = absurd (let never : ⊥ = cc in never)
kompiled_low e c (Some ps) q is =
    by_case (occur_nowhere_else e.arguments (c ∷ (e.value ∷ ps))) refl is
  where
    by_case : (t : Bool) → occur_nowhere_else e.arguments (c ∷ (e.value ∷ ps)) ≡ t
        → cond t (Some (record {
          parameters = e.arguments;
          patterns = ps;
          condition = Some c;
          right = right_side e.sort e.value;
        })) None ≡ Some q → HasLowParameters q
    by_case false test is = absurd (let never : ⊥ = cc in never)
    by_case true test is =
        subst HasLowParameters (let same : record {
          parameters = e.arguments;
          patterns = ps;
          condition = Some c;
          right = right_side e.sort e.value;
        } ≡ q =
        cc in
        same)
        (apart_low e.arguments (c ∷ (e.value ∷ ps)) test)

under_low : (e : StatedEquation) (g : PatternTree) (o : Option (PatternTree × PatternTree))
    (q : EquationParts) → parts_under e g o ≡ Some q → HasLowParameters q
under_low e g None q is = direct_low e (Some g) q is
under_low e g (Some both) q is = kompiled_low e both.0 (members e.over e.arguments both.1) q is

with_low : (e : StatedEquation) (o : Option PatternTree) (q : EquationParts) → parts_with e o
    ≡ Some q
    → HasLowParameters q
with_low e None q is = direct_low e None q is
with_low e (Some g) q is = under_low e g (conjuncts e.over g) q is

-- ---- the variables of an equation of the last resort

mapped_there : {X Y : Type 0} (f : X → Y) (o : Option X) (y : Y) → option_map f o ≡ Some y
    → (x : X) × (o ≡ Some x) × (f x ≡ y)
mapped_there f None y e = absurd (let never : ⊥ = cc in never)
mapped_there f (Some x) y e = (x, refl, (let same : f x ≡ y = cc in same))

then_there : {X Y : Type 0} (f : X → Option Y) (o : Option X) (y : Y) → option_and_then f o ≡ Some y
    → (x : X) × (o ≡ Some x) × (f x ≡ Some y)
then_there f None y e = absurd (let never : ⊥ = cc in never)
then_there f (Some x) y e = (x, refl, e)

beside_low : (e : StatedEquation) (n g : PatternTree) (q : LastResortParts)
    → resort_beside e n g ≡ Some q → HasLowParameters q.equation
beside_low e n g q is =
    let one =
    then_there (λ (gs : List GuardParts). option_map (λ (p : EquationParts).
    record { equation = p; guards = gs }) (kompiled_under e g))
    (all_guards e.over e.arguments (operands e.over n)) q is in
    let two =
    mapped_there (λ (p : EquationParts). record { equation = p; guards = one.0 })
    (kompiled_under e g) q one.2 in
    let three =
    then_there (λ (both : PatternTree × PatternTree).
    option_and_then (kompiled e both.0) (members e.over e.arguments both.1)) (conjuncts e.over g)
    two.0 two.1 in
    subst (λ (p : LastResortParts). HasLowParameters p.equation) two.2
    (kompiled_low e three.0.0 (members e.over e.arguments three.0.1) two.0 three.2)

resort_under_low : (e : StatedEquation) (g : PatternTree) (q : LastResortParts)
    → resort_under e g ≡ Some q → HasLowParameters q.equation
resort_under_low e g q is =
    let one =
    then_there (λ (both : PatternTree × PatternTree).
    option_and_then (λ (n : PatternTree). resort_beside e n both.1) (negated e.over both.0))
    (conjuncts e.over g) q is in
    let two =
    then_there (λ (n : PatternTree). resort_beside e n one.0.1) (negated e.over one.0.0) q one.2 in
    beside_low e two.0 one.0.1 q two.2

resort_low : (e : StatedEquation) (o : Option PatternTree) (xs : List PatternTree)
    (q : LastResortParts) → resort_with e o xs ≡ Some q → HasLowParameters q.equation
resort_low e None xs q is = absurd (let never : ⊥ = cc in never)
resort_low e (Some g) [] q is = absurd (let never : ⊥ = cc in never)
resort_low e (Some g) (x ∷ xs) q is = resort_under_low e g q is

-- ---- the parts

not_true : (b : Bool) → not b ≡ true → b ≡ false
not_true false h = refl
not_true true h = sym h

parts_readable : (sig : Signature) (a : AxiomDeclaration) (info : SymInfo) (e : StatedEquation)
    (q : EquationParts) → HasLowParameters q → are_clear_parts sig a info e q ≡ true
    → are_bound sig e q ≡ true → HasReadableParts sig a info e q
parts_readable sig a info e q low clear bound =
    let one = both_true _ _ clear in
    let two = both_true _ _ one.1 in
    let three = both_true _ _ two.1 in
    let four = both_true _ _ three.1 in
    let all = both_true _ _ bound in
    record {
      function = one.0;
      priority = not_true _ two.0;
      parameters =
          empty_is (argument_faults sig [] info.args.items (all_read q.parameters))
          (sym (faultless_same sig info.args.items (all_read q.parameters) low) ∙ three.0);
      sides =
          clear_readable sig info q.patterns (condition_of_equation sig e q) four.0 all.0;
      right = right_same sig info q.patterns q.right ∙ true_both _ _ four.1 all.1;
    }

readable_parts : (sig : Signature) (a : AxiomDeclaration) (info : SymInfo) (e : StatedEquation)
    (q : EquationParts) → HasLowParameters q → HasReadableParts sig a info e q
    → (are_clear_parts sig a info e q ≡ true) × (are_bound sig e q ≡ true)
readable_parts sig a info e q low r =
    let sides = readable_clear sig info q.patterns (condition_of_equation sig e q) r.sides in
    let right =
    both_true _ _ (sym (right_same sig info q.patterns q.right) ∙ r.right) in
    let parameters : each_faultless sig info.args.items (all_read q.parameters) ≡ true =
    faultless_same sig info.args.items (all_read q.parameters) low
    ∙ ap is_empty r.parameters in (
      true_both _ _ r.function
          (true_both _ _ (ap not r.priority)
          (true_both _ _ parameters (true_both _ _ sides.0 right.0))),
      true_both _ _ sides.1 right.1,
    )

-- ---- an equation

pub record IsClear (sig : Signature) (a : AxiomDeclaration) (info : SymInfo) (e : StatedEquation)
    (q : EquationParts) : Type 0 where
  pub no_last_resort : has_attribute (codes "owise") a.attributes ≡ false
  pub form : equation_parts e ≡ Some q
  pub clear : are_clear_parts sig a info e q ≡ true

pub clear_is : (sig : Signature) (a : AxiomDeclaration) (info : SymInfo) (e : StatedEquation)
    (q : EquationParts) → clear_parts sig a info e ≡ Some q → IsClear sig a info e q
clear_is sig a info e q h = by_resort (has_attribute (codes "owise") a.attributes) refl h where
  by_clear : has_attribute (codes "owise") a.attributes ≡ false → (p : EquationParts)
      → equation_parts e ≡ Some p → (b : Bool) → are_clear_parts sig a info e p ≡ b
      → cond b (Some p) None ≡ Some q → IsClear sig a info e q
  by_clear none p is false clear h = absurd (let never : ⊥ = cc in never)
  by_clear none p is true clear h =
      let same : p ≡ q = cc in
      record {
        no_last_resort = none;
        form = is ∙ ap (λ (x : EquationParts). Some x) same;
        clear = subst (λ (x : EquationParts). are_clear_parts sig a info e x ≡ true) same clear;
      }

  by_parts : has_attribute (codes "owise") a.attributes ≡ false → (o : Option EquationParts)
      → equation_parts e ≡ o → clear_of sig a info e o ≡ Some q → IsClear sig a info e q
  by_parts none None is h = absurd (let never : ⊥ = cc in never)
  by_parts none (Some p) is h = by_clear none p is (are_clear_parts sig a info e p) refl h

  by_resort : (b : Bool) → has_attribute (codes "owise") a.attributes ≡ b
      → cond b None (clear_of sig a info e (equation_parts e)) ≡ Some q → IsClear sig a info e q
  by_resort true resort h = absurd (let never : ⊥ = cc in never)
  by_resort false none h = by_parts none (equation_parts e) refl h

pub is_readable : (sig : Signature) (a : AxiomDeclaration) (info : SymInfo) (e : StatedEquation)
    (q : EquationParts) → clear_parts sig a info e ≡ Some q → are_bound sig e q ≡ true
    → IsReadable sig a info e q
is_readable sig a info e q h bound =
    let c = clear_is sig a info e q h in
    record {
      no_last_resort = c.no_last_resort;
      form = c.form;
      parts = parts_readable sig a info e q (with_low e e.guard q c.form) c.clear bound;
    }

pub readable_is : (sig : Signature) (a : AxiomDeclaration) (info : SymInfo) (e : StatedEquation)
    (q : EquationParts) → IsReadable sig a info e q
    → (clear_parts sig a info e ≡ Some q) × (are_bound sig e q ≡ true)
readable_is sig a info e q r =
    let parts = readable_parts sig a info e q (with_low e e.guard q r.form) r.parts in (
      ap (λ (b : Bool). cond b None (clear_of sig a info e (equation_parts e))) r.no_last_resort
          ∙ ap (clear_of sig a info e) r.form ∙ ap (λ (b : Bool). cond b (Some q) None) parts.0,
      parts.1,
    )

-- an equation that is not clear, or has an unbound variable, is not readable
pub none_unreadable : (sig : Signature) (a : AxiomDeclaration) (info : SymInfo) (e : StatedEquation)
    → clear_parts sig a info e ≡ None → (q : EquationParts) → IsReadable sig a info e q → ⊥
none_unreadable sig a info e h q r =
    let both : None ≡ Some q = sym h ∙ (readable_is sig a info e q r).0 in
    let never : ⊥ = cc in
    never

pub unbound_unreadable : (sig : Signature) (a : AxiomDeclaration) (info : SymInfo)
    (e : StatedEquation)
    (p : EquationParts) → clear_parts sig a info e ≡ Some p → are_bound sig e p ≡ false
    → (q : EquationParts) → IsReadable sig a info e q → ⊥
unbound_unreadable sig a info e p h unbound q r =
    let known = readable_is sig a info e q r in
    let both : Some p ≡ Some q = sym h ∙ known.0 in
    let same : p ≡ q = cc in
    false≢true (sym unbound ∙ ap (are_bound sig e) same ∙ known.1)

-- ---- an equation of the last resort

pub record IsClearResort (sig : Signature) (a : AxiomDeclaration) (info : SymInfo)
    (e : StatedEquation) (q : LastResortParts) : Type 0 where
  pub last_resort : has_attribute (codes "owise") a.attributes ≡ true
  pub form : last_resort_parts e ≡ Some q
  pub clear : are_clear_parts sig a info e q.equation ≡ true

pub clear_resort_is : (sig : Signature) (a : AxiomDeclaration) (info : SymInfo)
    (e : StatedEquation) (q : LastResortParts) → clear_last_resort sig a info e ≡ Some q
    → IsClearResort sig a info e q
clear_resort_is sig a info e q h = by_resort (has_attribute (codes "owise") a.attributes) refl h where
  by_clear : has_attribute (codes "owise") a.attributes ≡ true → (p : LastResortParts)
      → last_resort_parts e ≡ Some p → (b : Bool) → are_clear_parts sig a info e p.equation ≡ b
      → cond b (Some p) None ≡ Some q → IsClearResort sig a info e q
  by_clear last p is false clear h = absurd (let never : ⊥ = cc in never)
  by_clear last p is true clear h =
      let same : p ≡ q = cc in
      record {
        last_resort = last;
        form = is ∙ ap (λ (x : LastResortParts). Some x) same;
        clear =
            subst (λ (x : LastResortParts). are_clear_parts sig a info e x.equation ≡ true) same
            clear;
      }

  by_parts : has_attribute (codes "owise") a.attributes ≡ true → (o : Option LastResortParts)
      → last_resort_parts e ≡ o → clear_resort_of sig a info e o ≡ Some q
      → IsClearResort sig a info e q
  by_parts last None is h = absurd (let never : ⊥ = cc in never)
  by_parts last (Some p) is h = by_clear last p is (are_clear_parts sig a info e p.equation) refl h

  by_resort : (b : Bool) → has_attribute (codes "owise") a.attributes ≡ b
      → cond b (clear_resort_of sig a info e (last_resort_parts e)) None ≡ Some q
      → IsClearResort sig a info e q
  by_resort false none h = absurd (let never : ⊥ = cc in never)
  by_resort true last h = by_parts last (last_resort_parts e) refl h

pub resort_readable : (sig : Signature) (a : AxiomDeclaration) (info : SymInfo)
    (e : StatedEquation) (q : LastResortParts) → IsClearResort sig a info e q
    → are_bound sig e q.equation ≡ true → HasReadableParts sig a info e q.equation
resort_readable sig a info e q c bound =
    parts_readable sig a info e q.equation (resort_low e e.guard e.arguments q c.form) c.clear bound

pub resort_clear : (sig : Signature) (a : AxiomDeclaration) (info : SymInfo) (e : StatedEquation)
    (q : LastResortParts) → has_attribute (codes "owise") a.attributes ≡ true
    → last_resort_parts e ≡ Some q → HasReadableParts sig a info e q.equation
    → (clear_last_resort sig a info e ≡ Some q) × (are_bound sig e q.equation ≡ true)
resort_clear sig a info e q last form r =
    let parts =
    readable_parts sig a info e q.equation (resort_low e e.guard e.arguments q form) r in (
      ap (λ (b : Bool). cond b (clear_resort_of sig a info e (last_resort_parts e)) None) last
          ∙ ap (clear_resort_of sig a info e) form ∙ ap (λ (b : Bool). cond b (Some q) None) parts.0,
      parts.1,
    )

-- ---- forms

-- the patterns of an equation that is clear
pub fine_of_parts : (sig : Signature) (a : AxiomDeclaration) (info : SymInfo) (e : StatedEquation)
    (q : EquationParts) → are_clear_parts sig a info e q ≡ true → IsFineEquation sig e q
fine_of_parts sig a info e q clear =
    let one = both_true (fits_function sig a info e) _ clear in
    let two = both_true (not (has_bad_priority a.attributes)) _ one.1 in
    let three =
    both_true (each_faultless sig info.args.items (all_read q.parameters)) _ two.1 in
    let both = both_true _ _ three.1 in
    record {
      sides = fine_sides sig info q.patterns (condition_of_equation sig e q) both.0;
      right = fine_right sig info q.right both.1;
    }
