use Rattle.std.proofs.Common.{◌≡◌, ◌++◌, ℕ, subst, None}
use Rattle.std.specs.Prelude.{Option, option_map}
use Rattle.kore_text.specs.Trees.{PatternTree}
use Rattle.kore_ast.specs.Plain.{plain_sort}
use Rattle.kore_sig.specs.SortReferences.{sort_number}
use Rattle.kore_check.specs.PatternFaults.{sort_faults}
use Rattle.kore_check.specs.declared.faults.PatternFault.{PatternFault}
use Rattle.kore_shapes.specs.Shapes.{found_part}
use Rattle.kore_shapes.specs.Views.{pattern_at}
use Rattle.kore_check.specs.Notes.{kept_fault, after, sort_no}
use Rattle.kore_axioms.specs.RuleParts.{RuleParts, left_of, right_of}
use Rattle.kore_axioms.specs.RuleFaults.{side_faults, condition_faults, found_top_faults}
use Rattle.kore_axioms.specs.RuleFaults.{sorted_faults}
use Rattle.kore_axioms.specs.Views.{plain_rule_parts}
use Rattle.kore_axioms.proofs.NotingLaws.{noted_both, all_noted}
use Rattle.kore_axioms.proofs.sides.sort_fault.Goals as goal

pub returns : goal.returns
returns c =
    let sig = c.args.sig.now in
    let s = plain_sort c.args.sort.now in
    let w : RuleParts = plain_rule_parts c.args.parts in
    let wanted : Option ℕ = sort_number sig.sorts s in
    let known : option_map sort_no c.noted_sort-wanted.result ≡ wanted =
    c.noted_sort-wanted.ensures.sort in
    let none : Option PatternFault = None in
    let one = c.noted_sort-wanted.new.first in
    let two = c.note_side.new.first in
    let three = c.note_condition.new.first in
    let four = c.note_side-2.new.first in
    let five = c.note_found_top.new.first in
    let left : kept_fault two ≡ after one (side_faults sig wanted (left_of w)) =
    subst (λ (p : Option PatternTree). kept_fault two ≡ after one (side_faults sig wanted p))
    c.main.ensures
    (subst (λ (o : Option ℕ).
    kept_fault two ≡ after one (side_faults sig o (option_map pattern_at c.main.result)))
    known c.note_side.ensures) in
    let right : kept_fault four ≡ after three (side_faults sig wanted (right_of w)) =
    subst (λ (p : Option PatternTree). kept_fault four ≡ after three (side_faults sig wanted p))
    c.main-2.ensures
    (subst (λ (o : Option ℕ). kept_fault four
    ≡ after three (side_faults sig o (option_map pattern_at c.main-2.result))) known
    c.note_side-2.ensures) in
    let top : kept_fault five ≡ after four (found_top_faults sig wanted (found_part w.after)) =
    subst (λ (p : Option PatternTree). kept_fault five ≡ after four (found_top_faults sig wanted p))
    c.companion.ensures
    (subst (λ (o : Option ℕ). kept_fault five
    ≡ after four (found_top_faults sig o (option_map pattern_at c.companion.result))) known
    c.note_found_top.ensures) in
    let tops = found_top_faults sig wanted (found_part w.after) in
    let rights = side_faults sig wanted (right_of w) in
    let conditions = condition_faults sig w.condition in
    let lefts = side_faults sig wanted (left_of w) in
    all_noted (sorted_faults sig s w) five
    (noted_both (sort_faults sig s) (lefts ++ (conditions ++ (rights ++ tops))) none one five
    c.noted_sort-wanted.ensures.first
    (noted_both lefts (conditions ++ (rights ++ tops)) one two five left
    (noted_both conditions (rights ++ tops) two three five c.note_condition.ensures
    (noted_both rights tops three four five right top))))
