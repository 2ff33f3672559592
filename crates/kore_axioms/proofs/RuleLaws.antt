-- Laws on the parts of a rewrite rule whose form and sorts have no fault.
use Rattle.std.proofs.Common.{◌≡◌, ℕ, Bool, true, false, ◌&&◌, ◌||◌, List, [], ◌∷◌, ◌++◌, Option}
use Rattle.std.proofs.Common.{Some}
use Rattle.std.proofs.Common.{None, refl, ap, sym, ◌∙◌, subst}
use Rattle.std.specs.Prelude.{not, if◌then◌else◌}
use Rattle.std.proofs.lemmas.Bool.{false≢true}
use Rattle.kore_text.specs.Trees.{SortTree, PatternTree, AxiomDeclaration}
use Rattle.rule_core.specs.declared.signature.Signature.{Signature}
use Rattle.kore_sig.specs.FirstFault.{Fault, when}
use Rattle.kore_sig.specs.SortReferences.{sort_number}
use Rattle.kore_check.specs.Folds.{unfolded}
use Rattle.kore_check.specs.PatternFaults.{pattern_faults}
use Rattle.kore_axioms.specs.LeftNames.{is_badly_named}
use Rattle.kore_shapes.specs.Forms.{others, all_forms, has_form, has_binder}
use Rattle.kore_shapes.specs.Shapes.{Rewriting, rewriting, Side, alone, beside, without, misshapen}
use Rattle.kore_shapes.specs.Shapes.{Condition, always, tests, ill, main_part}
use Rattle.kore_axioms.specs.Conditions.{tested_pattern, is_ill}
use Rattle.kore_axioms.specs.RuleParts.{RuleParts, rule_parts, left_of, right_of}
use Rattle.kore_axioms.specs.AxiomClasses.{AxiomClass, refused, orders_sorts, rewrites, equates}
use Rattle.kore_axioms.specs.AxiomClasses.{passed_over, takes_equations, is_no_equation}
use Rattle.kore_axioms.specs.AxiomClasses.{class_of_statement, class_of_pattern, axiom_class}
use Rattle.kore_check.specs.PatternSorts.{symbol_named}
use Rattle.kore_shapes.specs.Statements.{StatedEquation, stated_equation}
use Rattle.kore_axioms.specs.RuleForms.{holds_of, is_misshapen, is_without, has_bad_form}
use Rattle.kore_axioms.specs.RuleForms.{form_faults}
use Rattle.kore_axioms.specs.RuleFaults.{side_faults, condition_faults, sorted_faults}
use Rattle.kore_axioms.proofs.ApplicativeLaws.{neither, applicative, left_is_side}
use Rattle.kore_axioms.proofs.ApplicativeLaws.{side_applicative, IsSide}
use Rattle.kore_axioms.specs.BuiltRules.{IsFine}
use Rattle.kore_axioms.proofs.BinderLaws.{PartsBindNone, parts_bind_none}
use Rattle.kore_axioms.proofs.BoundLaws.{no_faults}

-- a test that raises no fault does not hold
pub not_raised : (t : Bool) (number at : ℕ) (rest : List Fault) → when t number at ++ rest ≡ []
    → (t ≡ false) × (rest ≡ [])
not_raised true number at rest h = absurd (let never : ⊥ = cc in never)
not_raised false number at rest h = (refl, h)

-- the form has no fault
pub record IsWellFormed (a : AxiomDeclaration) (w : RuleParts) : Type 0 where
  pub form : has_bad_form w ≡ false
  pub binder : has_binder a.pattern ≡ false
  pub after : is_without w.after ≡ false
  pub before : is_without w.before ≡ false
  pub condition : is_ill w.condition ≡ false
  pub names : holds_of is_badly_named (left_of w) ≡ false

pub well_formed : (a : AxiomDeclaration) (w : RuleParts) → form_faults a w ≡ [] → IsWellFormed a w
well_formed a w h =
    let one = not_raised (has_bad_form w) 13 a.at _ h in
    let two = not_raised (has_binder a.pattern) 15 a.at _ one.1 in
    let three = not_raised (is_without w.after) 16 a.at _ two.1 in
    let four = not_raised (is_without w.before || is_ill w.condition) 17 a.at _ three.1 in
    let five = not_raised (holds_of is_badly_named (left_of w)) 22 a.at _ four.1 in
    let condition = neither (is_without w.before) (is_ill w.condition) four.0 in
    record {
      form = one.0;
      binder = two.0;
      after = three.0;
      before = condition.0;
      condition = condition.1;
      names = five.0;
    }

-- the side has a pattern
side_there : (s : Side) → is_misshapen s ≡ false → is_without s ≡ false
    → (p : PatternTree) × (main_part s ≡ Some p)
side_there (alone p) h k = (p, refl)
side_there (beside p q) h k = (q, refl)
side_there without h k = absurd (false≢true (sym k))
side_there misshapen h k = absurd (false≢true (sym h))

-- what holds of an optional pattern holds of the pattern in it
pub held : (test : PatternTree → Bool) (o : Option PatternTree) (p : PatternTree) → o ≡ Some p
    → holds_of test o ≡ false → test p ≡ false
held test o p e h = sym (ap (holds_of test) e) ∙ h

-- a pattern that has no fault at its sort
clear_at : (sig : Signature) (wanted : Option ℕ) (o : Option PatternTree) (p : PatternTree)
    → o ≡ Some p → side_faults sig wanted o ≡ [] → pattern_faults sig (unfolded p) ≡ []
clear_at sig wanted o p e h =
    let here : side_faults sig wanted (Some p) ≡ [] = sym (ap (side_faults sig wanted) e) ∙ h in
    (no_faults _ _ (no_faults _ _ here).0).1

pub clear_test : (sig : Signature) (c : Condition) (p : PatternTree) → tested_pattern c ≡ Some p
    → condition_faults sig c ≡ [] → pattern_faults sig (unfolded p) ≡ []
clear_test sig always p e h = absurd (let never : ⊥ = cc in never)
clear_test sig (tests t b) p e h =
    subst (λ (q : PatternTree). pattern_faults sig (unfolded q) ≡ [])
    (let same : b ≡ p = cc in same) (no_faults _ _ (no_faults _ _ h).0).1
clear_test sig ill p e h = absurd (let never : ⊥ = cc in never)

pub fine : (sig : Signature) (a : AxiomDeclaration) (s : SortTree) (w : RuleParts)
    → form_faults a w ≡ [] → sorted_faults sig s w ≡ [] → PartsBindNone w → IsFine sig w
fine sig a s w form sorts binds =
    let well = well_formed a w form in
    let shapes = neither _ _ well.form in
    let sides = neither (is_misshapen w.before) (is_misshapen w.after) shapes.0 in
    let odd = neither _ _ shapes.1 in
    let rest = neither _ _ odd.1 in
    let left = side_there w.before sides.0 well.before in
    let right = side_there w.after sides.1 well.after in
    let after_sort = (no_faults _ _ sorts).1 in
    let at_left = no_faults _ _ after_sort in
    let at_test = no_faults _ _ at_left.1 in
    let at_right = no_faults _ _ at_test.1 in
    record {
      left = left.0;
      is_left = left.1;
      left_form =
          side_applicative (left.0 ∷ []) (unfolded left.0) (left_is_side (left.0 ∷ []) left.0
          (held (has_form others) (left_of w) left.0 left.1 odd.0)
          (held is_badly_named (left_of w) left.0 left.1 well.names)
          (binds.left left.0 left.1));
      left_clear = clear_at sig (sort_number sig.sorts s) (left_of w) left.0 left.1 at_left.0;
      right = right.0;
      is_right = right.1;
      right_form =
          applicative right.0 (held (has_form all_forms) (right_of w) right.0 right.1 rest.1)
          (binds.right right.0 right.1);
      right_clear = clear_at sig (sort_number sig.sorts s) (right_of w) right.0 right.1 at_right.0;
      test_form =
          λ p e. applicative p (held (has_form all_forms) (tested_pattern w.condition) p e rest.0)
          (binds.test p e);
      test_clear = λ p e. clear_test sig w.condition p e at_test.0;
    }

-- ---- the shape of a rule

class_refused : (b : Bool) (number : ℕ) (c : AxiomClass) (w : Rewriting)
    → (if b then refused number else c) ≡ rewrites w → c ≡ rewrites w
class_refused true number c w e = absurd (let never : ⊥ = cc in never)
class_refused false number c w e = e

class_ordered : (b : Bool) (c : AxiomClass) (w : Rewriting)
    → (if b then orders_sorts else c) ≡ rewrites w → c ≡ rewrites w
class_ordered true c w e = absurd (let never : ⊥ = cc in never)
class_ordered false c w e = e

no_rewriting : (sig : Signature) (attributes : List PatternTree) (o : Option StatedEquation)
    (w : Rewriting) → class_of_statement sig attributes o ≡ rewrites w → ⊥
no_rewriting sig attributes None w e = let never : ⊥ = cc in never
no_rewriting sig attributes (Some st) w e =
    by_case (not (is_no_equation attributes) && takes_equations (symbol_named sig st.function)) e
  where
    by_case : (b : Bool) → (if b then equates st else passed_over) ≡ rewrites w → ⊥
    by_case true e = let never : ⊥ = cc in never
    by_case false e = let never : ⊥ = cc in never

of_pattern : (sig : Signature) (a : AxiomDeclaration) (o : Option Rewriting) (w : Rewriting)
    → class_of_pattern sig a o ≡ rewrites w → o ≡ Some w
of_pattern sig a None w e = absurd (no_rewriting sig a.attributes (stated_equation a.pattern) w e)
of_pattern sig a (Some v) w e = ap (λ (x : Rewriting). Some x) (let same : v ≡ w = cc in same)

-- a rewrite rule has the shape of one
pub class_rewrites : (sig : Signature) (a : AxiomDeclaration) (w : Rewriting)
    → axiom_class sig a ≡ rewrites w → rewriting a.pattern ≡ Some w
class_rewrites sig a w e =
    of_pattern sig a (rewriting a.pattern) w
    (class_ordered _ _ w (class_refused _ 21 _ w (class_refused _ 20 _ w e)))

-- a rule whose form and sorts have no fault is fine
pub fine_rule : (sig : Signature) (a : AxiomDeclaration) (v : Rewriting)
    → axiom_class sig a ≡ rewrites v → form_faults a (rule_parts sig v) ≡ []
    → sorted_faults sig v.sort (rule_parts sig v) ≡ [] → IsFine sig (rule_parts sig v)
fine_rule sig a v class form sorts =
    fine sig a v.sort (rule_parts sig v) form sorts (parts_bind_none sig a.pattern v
    (class_rewrites sig a v class) (well_formed a (rule_parts sig v) form).binder)

-- the left side of a rule whose form has no fault
pub left_sided : (sig : Signature) (a : AxiomDeclaration) (v : Rewriting)
    → axiom_class sig a ≡ rewrites v → form_faults a (rule_parts sig v) ≡ []
    → (p : PatternTree) → left_of (rule_parts sig v) ≡ Some p → IsSide (p ∷ []) (unfolded p)
left_sided sig a v class form p is =
    let w : RuleParts = rule_parts sig v in
    let well = well_formed a w form in
    let shapes = neither _ _ well.form in
    let odd = neither _ _ shapes.1 in
    let binds = parts_bind_none sig a.pattern v (class_rewrites sig a v class) well.binder in
    left_is_side (p ∷ []) p (held (has_form others) (left_of w) p is odd.0)
    (held is_badly_named (left_of w) p is well.names) (binds.left p is)
