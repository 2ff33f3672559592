-- The patterns of arguments, a condition and a right side are readable if and only if they are clear
-- and their variables are bound.
use Rattle.std.proofs.Common.{◌≡◌, ◌==◌, ◌<◌, ◌≤◌, ℕ, ◌+◌, Bool, true, false, ◌&&◌, ◌||◌, List, []}
use Rattle.std.proofs.Common.{◌∷◌, ◌++◌, length, Some, refl, ap, sym, ◌∙◌, arith}
use Rattle.std.specs.Prelude.{not, nat_lt, nat_le, drop}
use Rattle.std.proofs.lemmas.Bool.{false≢true, ltb-true, leb-true}
use Rattle.kore_text.specs.Trees.{PatternTree}
use Rattle.rule_core.proofs.Belows.{both_true, true_both}
use Rattle.rule_core.specs.Sorting.{sort_at}
use Rattle.rule_core.specs.declared.signature.Signature.{Signature}
use Rattle.rule_core.specs.declared.signature.SortRef.{SortRef}
use Rattle.rule_core.specs.declared.signature.SymInfo.{SymInfo}
use Rattle.kore_sig.specs.FirstFault.{Fault}
use Rattle.kore_check.specs.Folds.{Unfolded, Unfoldeds, no_more, and_more, unfolded_byte, unfolded}
use Rattle.kore_check.specs.Folds.{unfolded_height, unfolded_heights}
use Rattle.kore_check.specs.PatternFaults.{pattern_faults, argument_faults, clash_faults}
use Rattle.kore_check.specs.PatternFaults.{all_faults, first_wanted}
use Rattle.rule_core.specs.Evaluation.{most_height}
use Rattle.kore_check.specs.PatternSorts.{sort_of_pattern}
use Rattle.kore_shapes.specs.Forms.{all_forms, has_form, has_binder}
use Rattle.kore_shapes.specs.Shapes.{Condition}
use Rattle.kore_axioms.specs.Conditions.{tested_pattern}
use Rattle.kore_axioms.specs.RuleFaults.{is_empty, faults_at_sort, condition_faults, is_bound}
use Rattle.kore_axioms.specs.Uses.{have_symbol, is_plain_function, is_ac_symbol}
use Rattle.kore_equations.specs.ReadableSides.{all_read, are_sorted, faults_of_sides}
use Rattle.kore_equations.specs.ReadableSides.{have_good_uses, have_good_form, AreReadable}
use Rattle.kore_equations.specs.ReadableSides.{is_readable_right}
use Rattle.kore_equations.specs.ClearEquations.{each_faultless, have_good_symbols, are_clear_sorts}
use Rattle.kore_equations.specs.ClearEquations.{are_clear, is_clear_right}

-- ---- lists without faults

pub empty_both : (xs ys : List Fault) → is_empty (xs ++ ys) ≡ (is_empty xs && is_empty ys)
empty_both [] ys = refl
empty_both (x ∷ xs) ys = refl

pub empty_is : (xs : List Fault) → is_empty xs ≡ true → xs ≡ []
empty_is [] h = refl
empty_is (x ∷ xs) h = absurd (false≢true h)

not_high : (h : ℕ) → h ≤ 500 → nat_lt 500 h ≡ false
not_high h le = by_case (nat_lt 500 h) refl where
  by_case : (b : Bool) → nat_lt 500 h ≡ b → b ≡ false
  by_case false e = refl
  by_case true e = absurd (let above : 500 < h = ltb-true 500 h e in omega (arith, above, le))

low_faults : (sig : Signature) (u : Unfolded) → unfolded_height u ≤ 500
    → all_faults sig u ≡ pattern_faults sig u
low_faults sig u le = rw (not_high (unfolded_height u) le) refl

pub and_assoc : (a b c : Bool) → ((a && b) && c) ≡ (a && (b && c))
and_assoc true b c = refl
and_assoc false b c = refl

-- patterns that are not too high are faultless if and only if they have no fault as arguments
pub faultless_same : (sig : Signature) (refs : List SortRef) (us : Unfoldeds)
    → unfolded_heights us ≤ 500
    → each_faultless sig refs us ≡ is_empty (argument_faults sig [] refs us)
faultless_same sig refs no_more le = refl
faultless_same sig refs (and_more u us) le =
    let here : unfolded_height u ≤ 500 = omega (arith, le) in
    let later : unfolded_heights us ≤ 500 = omega (arith, le) in
    let clash : List Fault =
    clash_faults (unfolded_byte u) (sort_of_pattern sig u) (first_wanted sig [] refs) in
    let rest : List Fault = argument_faults sig [] (drop 1 refs) us in
    let first : is_empty (faults_at_sort sig (first_wanted sig [] refs) u) ≡
    (is_empty (pattern_faults sig u) && is_empty clash) =
    ap (λ (fs : List Fault). is_empty (fs ++ clash)) (low_faults sig u here)
    ∙ empty_both (pattern_faults sig u) clash in
    let split : is_empty (pattern_faults sig u ++ (clash ++ rest)) ≡
    (is_empty (pattern_faults sig u) && (is_empty clash && is_empty rest)) =
    empty_both (pattern_faults sig u) (clash ++ rest)
    ∙ ap (λ (b : Bool). is_empty (pattern_faults sig u) && b) (empty_both clash rest) in
    ap (λ (b : Bool). b && each_faultless sig (drop 1 refs) us) first
    ∙ ap (λ (b : Bool). (is_empty (pattern_faults sig u) && is_empty clash) && b)
    (faultless_same sig (drop 1 refs) us later)
    ∙ and_assoc (is_empty (pattern_faults sig u)) (is_empty clash) (is_empty rest)
    ∙ sym split

-- ---- the sorts

and_false : (x : Bool) → (x && false) ≡ false
and_false true = refl
and_false false = refl

and_true : (x : Bool) → (x && true) ≡ x
and_true true = refl
and_true false = refl

sorts_same : (sig : Signature) (info : SymInfo) (ps : List PatternTree) (c : Condition)
    → are_clear_sorts sig info ps c ≡ are_sorted sig info ps c
sorts_same sig info ps c =
    ap (λ (b : Bool). (length ps == length info.args.items) && b)
    (by_case (nat_le (unfolded_heights us + 1) most_height) refl)
  where
    us : Unfoldeds
    us = all_read ps

    faults : Bool
    faults = is_empty (faults_of_sides sig info ps c)

    by_case : (b : Bool) → nat_le (unfolded_heights us + 1) most_height ≡ b
        → (b && (each_faultless sig info.args.items us && is_empty (condition_faults sig c)))
        ≡ (faults && b)
    by_case false h = sym (and_false faults)
    by_case true h =
        let low : unfolded_heights us ≤ 500 =
        let le : unfolded_heights us + 1 ≤ 500 = leb-true (unfolded_heights us + 1) 500 h in omega
        (arith, le) in
        ap (λ (b : Bool). b && is_empty (condition_faults sig c))
        (faultless_same sig info.args.items us low)
        ∙ sym (empty_both (argument_faults sig [] info.args.items us) (condition_faults sig c))
        ∙ sym (and_true faults)

-- ---- the uses

split_uses : (f ac g b : Bool)
    → (not f && (not (ac || g) && b)) ≡ ((not f && (not ac && not g)) && b)
split_uses true ac g b = refl
split_uses false true g b = refl
split_uses false false g b = refl

uses_same : (sig : Signature) (info : SymInfo) (ps : List PatternTree) (c : Condition)
    → have_good_uses sig info ps c
    ≡ (have_good_symbols sig info ps && is_bound (all_read ps) (tested_pattern c))
uses_same sig info ps c =
    split_uses (have_symbol (is_plain_function sig) (all_read ps)) info.ac
    (have_symbol (is_ac_symbol sig) (all_read ps)) (is_bound (all_read ps) (tested_pattern c))

-- ---- the whole

pub clear_readable : (sig : Signature) (info : SymInfo) (ps : List PatternTree) (c : Condition)
    → are_clear sig info ps c ≡ true → is_bound (all_read ps) (tested_pattern c) ≡ true
    → AreReadable sig info ps c
clear_readable sig info ps c clear bound =
    let one = both_true _ _ clear in
    let two = both_true _ _ one.1 in
    record {
      good_form = one.0;
      sorted = sym (sorts_same sig info ps c) ∙ two.0;
      good_uses = uses_same sig info ps c ∙ true_both _ _ two.1 bound;
    }

pub readable_clear : (sig : Signature) (info : SymInfo) (ps : List PatternTree) (c : Condition)
    → AreReadable sig info ps c
    → (are_clear sig info ps c ≡ true) × (is_bound (all_read ps) (tested_pattern c) ≡ true)
readable_clear sig info ps c r =
    let uses = both_true _ _ (sym (uses_same sig info ps c) ∙ r.good_uses) in (
      true_both _ _ r.good_form
          (true_both _ _ (sorts_same sig info ps c ∙ r.sorted) uses.0),
      uses.1,
    )

-- the right side
pub right_same : (sig : Signature) (info : SymInfo) (ps : List PatternTree) (r : PatternTree)
    → is_readable_right sig info ps r
    ≡ (is_clear_right sig info r && is_bound (all_read ps) (Some r))
right_same sig info ps r =
    sym (and_assoc (not (has_form all_forms r) && not (has_binder r))
    (is_empty (faults_at_sort sig (sort_at [] info.result) (unfolded r)))
    (is_bound (all_read ps) (Some r)))
