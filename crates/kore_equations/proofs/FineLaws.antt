-- Laws on the patterns of an equation that is clear.
use Rattle.std.proofs.Common.{◌≡◌, ℕ, Bool, true, false, List, [], ◌∷◌, Option, Some, None, refl}
use Rattle.std.specs.Prelude.{not, drop}
use Rattle.std.specs.List.{list_any}
use Rattle.kore_text.specs.Trees.{PatternTree}
use Rattle.rule_core.proofs.Belows.{both_true}
use Rattle.rule_core.specs.Sorting.{sort_at}
use Rattle.rule_core.specs.declared.signature.Signature.{Signature}
use Rattle.rule_core.specs.declared.signature.SortRef.{SortRef}
use Rattle.rule_core.specs.declared.signature.SymInfo.{SymInfo}
use Rattle.kore_check.specs.Folds.{unfolded}
use Rattle.kore_axioms.specs.LeftNames.{has_bad_and}
use Rattle.kore_shapes.specs.Forms.{others, all_forms, has_form, has_binder}
use Rattle.kore_shapes.specs.Shapes.{Condition}
use Rattle.kore_axioms.specs.Conditions.{tested_pattern}
use Rattle.kore_axioms.specs.RuleForms.{holds_of}
use Rattle.kore_axioms.specs.RuleFaults.{is_empty, faults_at_sort, condition_faults}
use Rattle.kore_axioms.proofs.ApplicativeLaws.{neither, applicative, AreSides, left_is_side}
use Rattle.kore_axioms.proofs.ApplicativeLaws.{side_applicative}
use Rattle.kore_axioms.proofs.BoundLaws.{no_faults}
use Rattle.kore_axioms.proofs.RuleLaws.{held, clear_test}
use Rattle.kore_equations.specs.ReadableSides.{all_read, has_other_form, has_some_binder}
use Rattle.kore_equations.specs.ReadableSides.{have_good_form}
use Rattle.kore_equations.specs.ClearEquations.{each_faultless, are_clear, is_clear_right}
use Rattle.kore_equations.specs.BuiltEquations.{IsFine, AreFine, IsFineTest, AreFineSides}
use Rattle.kore_equations.proofs.ClearLaws.{empty_is}

-- a pattern that has no fault at its sort
fine_at : (sig : Signature) (wanted : Option ℕ) (p : PatternTree)
    → is_empty (faults_at_sort sig wanted (unfolded p)) ≡ true → has_form all_forms p ≡ false
    → has_binder p ≡ false → IsFine sig (unfolded p)
fine_at sig wanted p clear form binder = record {
  form = applicative p form binder;
  clear = (no_faults _ _ (no_faults _ _ (empty_is _ clear)).0).1;
}

-- the patterns of the arguments, with the names in them
listed_sides : (whole ps : List PatternTree) → list_any (has_form others) ps ≡ false
    → list_any (has_bad_and whole) ps ≡ false → list_any has_binder ps ≡ false
    → AreSides whole (all_read ps)
listed_sides whole [] forms names binders = tt
listed_sides whole (p ∷ ps) forms names binders =
    let form = neither _ _ forms in
    let name = neither _ _ names in
    let binder = neither _ _ binders in (
      left_is_side whole p form.0 name.0 binder.0,
      listed_sides whole ps form.1 name.1 binder.1,
    )

fine_patterns : (sig : Signature) (refs : List SortRef) (whole ps : List PatternTree)
    → each_faultless sig refs (all_read ps) ≡ true → AreSides whole (all_read ps)
    → AreFine sig (all_read ps)
fine_patterns sig refs whole [] clear sides = tt
fine_patterns sig refs whole (p ∷ ps) clear sides =
    let both = both_true _ _ clear in (
      record {
        form = side_applicative whole (unfolded p) sides.0;
        clear = (no_faults _ _ (no_faults _ _ (empty_is _ both.0)).0).1;
      },
      fine_patterns sig (drop 1 refs) whole ps both.1 sides.1,
    )

not_true : (b : Bool) → not b ≡ true → b ≡ false
not_true false h = refl
not_true true h = absurd (let never : ⊥ = cc in never)

-- the patterns of the arguments of an equation of good form
pub sides_of_equation : (ps : List PatternTree) (c : Condition) → have_good_form ps c ≡ true
    → AreSides ps (all_read ps)
sides_of_equation ps c good =
    let both = both_true _ _ good in
    let rest = both_true _ _ both.1 in
    let forms = neither _ _ (not_true (has_other_form ps c) both.0) in
    let binders = neither _ _ (not_true (has_some_binder ps c) rest.0) in
    let arguments = neither _ _ forms.0 in
    listed_sides ps ps arguments.0 arguments.1 binders.0

fine_test : (sig : Signature) (c : Condition) (o : Option PatternTree) → tested_pattern c ≡ o
    → holds_of (has_form all_forms) (tested_pattern c) ≡ false
    → holds_of has_binder (tested_pattern c) ≡ false
    → is_empty (condition_faults sig c) ≡ true → IsFineTest sig o
fine_test sig c None is forms binders clear = tt
fine_test sig c (Some p) is forms binders clear = record {
  form =
      applicative p (held (has_form all_forms) (tested_pattern c) p is forms)
      (held has_binder (tested_pattern c) p is binders);
  clear = clear_test sig c p is (empty_is (condition_faults sig c) clear);
}

pub fine_sides : (sig : Signature) (info : SymInfo) (ps : List PatternTree) (c : Condition)
    → are_clear sig info ps c ≡ true → AreFineSides sig ps c
fine_sides sig info ps c clear =
    let one = both_true _ _ clear in
    let two = both_true _ _ one.1 in
    let sorts = both_true _ _ two.0 in
    let low = both_true _ _ sorts.1 in
    let faults = both_true _ _ low.1 in
    let good = both_true _ _ one.0 in
    let rest = both_true _ _ good.1 in
    let forms = neither _ _ (not_true (has_other_form ps c) good.0) in
    let binders = neither _ _ (not_true (has_some_binder ps c) rest.0) in
    record {
      patterns = fine_patterns sig info.args.items ps ps faults.0 (sides_of_equation ps c one.0);
      test = fine_test sig c (tested_pattern c) refl forms.1 binders.1 faults.1;
    }

pub fine_right : (sig : Signature) (info : SymInfo) (r : PatternTree)
    → is_clear_right sig info r ≡ true → IsFine sig (unfolded r)
fine_right sig info r clear =
    let one = both_true _ _ clear in
    let forms = both_true _ _ one.0 in
    fine_at sig (sort_at [] info.result) r one.1 (not_true (has_form all_forms r) forms.0)
    (not_true (has_binder r) forms.1)
